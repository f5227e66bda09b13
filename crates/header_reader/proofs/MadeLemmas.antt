-- A value whose type keeps a fact equals the one made from its fields.
use Rattle.std.proofs.Common.{◌≡◌, ℕ, List, Bool, true, false, length, refl, sym, ap}
use Rattle.std.specs.Prelude.{Option, Some, None, nat_le, nat_lt, ◌&&◌}
use Rattle.std.proofs.Props.{props}
use Rattle.std.proofs.lemmas.Bool.{false≢true, lt-ltb, le-leb, and_from}
use Rattle.as4_values.specs.Counts.{IsPartyCount, IsPropertyCount, IsPartCount}
use Rattle.as4_values.specs.SignalParts.{is_signal, is_receipt, is_pull}
use Rattle.as4_values.specs.declared.header.Party.{Party}
use Rattle.as4_values.specs.declared.header.Side.{Side}
use Rattle.as4_values.specs.declared.header.Property.{Property}
use Rattle.as4_values.specs.declared.header.PartInfo.{PartInfo}
use Rattle.as4_values.specs.declared.header.UserHeader.{UserHeader}
use Rattle.as4_values.specs.declared.message.Pair.{Pair}
use Rattle.as4_values.specs.declared.signal.Signal.{Signal}
use Rattle.as4_values.specs.declared.signal_body.SignalBody.{SignalBody}
use Rattle.header_reader.specs.Made.{made, side_from, part_from, header_from, signal_from, pair_from}
use Rattle.header_reader.specs.declared.parts.MessageInfo.{MessageInfo}
use Rattle.header_reader.specs.declared.parts.PartyInfo.{PartyInfo}
use Rattle.header_reader.specs.declared.parts.CollaborationInfo.{CollaborationInfo}

made_so : {X : Type 0} (test : Bool) (value : test ≡ true → X) (x : X) → test ≡ true → ((is : test ≡ true) → value is ≡ x) → made test value ≡ Some x
made_so true value x is same = ap Some (same refl)
made_so false value x is same = absurd (false≢true is)

made_not : {X : Type 0} (test : Bool) (value : test ≡ true → X) → test ≡ false → None ≡ made test value
made_not true value is = absurd (false≢true (sym is))
made_not false value is = refl

-- a side

one_count : (parties : List Party) (a b : IsPartyCount parties) → a ≡ b
one_count parties = hlevel props

pub side_made : (s : Side) → side_from s.parties s.role ≡ Some s
unfolding side_from
side_made s =
    made_so (nat_lt 0 (length s.parties) && nat_le (length s.parties) 16) _ s
    (and_from _ _ (lt-ltb 0 (length s.parties) s.counted.0) (le-leb (length s.parties) 16 s.counted.1)) (λ is.
    let with_count : IsPartyCount s.parties → Side = λ c. record { parties = s.parties; role = s.role; counted = c } in
    ap with_count (one_count s.parties _ s.counted))

pub no_side : (parties : List Party) (role : List ℕ) → (nat_lt 0 (length parties) && nat_le (length parties) 16) ≡ false → None ≡ side_from parties role
unfolding side_from
no_side parties role not_so = made_not (nat_lt 0 (length parties) && nat_le (length parties) 16) _ not_so

-- a part info

few_properties : (properties : List Property) (a b : IsPropertyCount properties) → a ≡ b
few_properties properties = hlevel props

pub part_made : (p : PartInfo) → part_from p.href p.properties ≡ Some p
unfolding part_from
part_made p =
    made_so (nat_le (length p.properties) 256) _ p (le-leb (length p.properties) 256 p.counted) (λ is.
    let with_count : IsPropertyCount p.properties → PartInfo = λ c. record { href = p.href; properties = p.properties; counted = c } in
    ap with_count (few_properties p.properties _ p.counted))

pub no_part : (href : Option (List ℕ)) (properties : List Property) → nat_le (length properties) 256 ≡ false → None ≡ part_from href properties
unfolding part_from
no_part href properties not_so = made_not (nat_le (length properties) 256) _ not_so

-- a header

few_both : (properties : List Property) (parts : List PartInfo) (a b : IsPropertyCount properties × IsPartCount parts) → a ≡ b
few_both properties parts = hlevel props

-- the three parts of a header
abbrev pub header_parts : UserHeader → MessageInfo × PartyInfo × CollaborationInfo
header_parts h = (
  record { stamp = h.stamp; id = h.id; ref_to = h.ref_to },
  record { from = h.from; to = h.to },
  record { agreement = h.agreement; service = h.service; action = h.action; conversation = h.conversation },
)

pub header_made : (h : UserHeader) → header_from h.mpc (header_parts h).0 (header_parts h).1 (header_parts h).2 h.properties h.parts ≡ Some h
unfolding header_from
header_made h =
    made_so (nat_le (length h.properties) 256 && nat_le (length h.parts) 255) _ h
    (and_from _ _ (le-leb (length h.properties) 256 h.properties_counted) (le-leb (length h.parts) 255 h.parts_counted)) (λ is.
    let with_counts : IsPropertyCount h.properties × IsPartCount h.parts → UserHeader = λ c. record {
      mpc = h.mpc;
      stamp = h.stamp;
      id = h.id;
      ref_to = h.ref_to;
      from = h.from;
      to = h.to;
      agreement = h.agreement;
      service = h.service;
      action = h.action;
      conversation = h.conversation;
      properties = h.properties;
      parts = h.parts;
      properties_counted = c.0;
      parts_counted = c.1;
    } in
    ap with_counts (few_both h.properties h.parts (_, _) (h.properties_counted, h.parts_counted)))

pub no_header : (mpc : Option (List ℕ)) (info : MessageInfo) (sides : PartyInfo) (business : CollaborationInfo) (properties : List Property) (parts : List PartInfo)
    → (nat_le (length properties) 256 && nat_le (length parts) 255) ≡ false → None ≡ header_from mpc info sides business properties parts
unfolding header_from
no_header mpc info sides business properties parts not_so = made_not (nat_le (length properties) 256 && nat_le (length parts) 255) _ not_so

-- a signal

one_true : (b : Bool) (x y : b ≡ true) → x ≡ y
one_true b = hlevel props

pub signal_made : (s : Signal) → signal_from (record { stamp = s.stamp; id = s.id; ref_to = s.ref_to }) s.body ≡ Some s
unfolding signal_from
signal_made s =
    made_so (is_signal s.ref_to s.body) _ s s.whole (λ is.
    let with_whole : is_signal s.ref_to s.body ≡ true → Signal = λ c. record { stamp = s.stamp; id = s.id; ref_to = s.ref_to; body = s.body; whole = c } in
    ap with_whole (one_true (is_signal s.ref_to s.body) is s.whole))

pub no_signal : (info : MessageInfo) (body : SignalBody) → is_signal info.ref_to body ≡ false → None ≡ signal_from info body
unfolding signal_from
no_signal info body not_so = made_not (is_signal info.ref_to body) _ not_so

-- a pair

both_true : (b c : Bool) (x y : (b ≡ true) × (c ≡ true)) → x ≡ y
both_true b c = hlevel props

pub pair_made : (p : Pair) → pair_from p.receipt p.pull ≡ Some p
unfolding pair_from
pair_made p =
    made_so (is_receipt p.receipt.body && is_pull p.pull.body) _ p (and_from _ _ p.receipted p.asked) (λ is.
    let with_kinds : (is_receipt p.receipt.body ≡ true) × (is_pull p.pull.body ≡ true) → Pair =
    λ c. record { receipt = p.receipt; pull = p.pull; receipted = c.0; asked = c.1 } in
    ap with_kinds (both_true (is_receipt p.receipt.body) (is_pull p.pull.body) (_, _) (p.receipted, p.asked)))

pub no_pair : (receipt pull : Signal) → (is_receipt receipt.body && is_pull pull.body) ≡ false → None ≡ pair_from receipt pull
unfolding pair_from
no_pair receipt pull not_so = made_not (is_receipt receipt.body && is_pull pull.body) _ not_so
