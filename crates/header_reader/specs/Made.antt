-- Values whose types keep a fact, made if the fact holds.
use Rattle.std.specs.Prelude.{◌≡◌, ℕ, List, Bool, true, false, ◌&&◌, nat_le, nat_lt, Option, Some, None, length, refl}
use Rattle.std.proofs.lemmas.Bool.{and_parts, ltb-true, leb-true}
use Rattle.as4_values.specs.SignalParts.{is_signal, is_receipt, is_pull}
use Rattle.as4_values.specs.declared.header.Party.{Party}
use Rattle.as4_values.specs.declared.header.Side.{Side}
use Rattle.as4_values.specs.declared.header.Property.{Property}
use Rattle.as4_values.specs.declared.header.PartInfo.{PartInfo}
use Rattle.as4_values.specs.declared.header.UserHeader.{UserHeader}
use Rattle.as4_values.specs.declared.message.Pair.{Pair}
use Rattle.as4_values.specs.declared.signal.Signal.{Signal}
use Rattle.as4_values.specs.declared.signal_body.SignalBody.{SignalBody}
use Rattle.header_reader.specs.declared.parts.MessageInfo.{MessageInfo}
use Rattle.header_reader.specs.declared.parts.PartyInfo.{PartyInfo}
use Rattle.header_reader.specs.declared.parts.CollaborationInfo.{CollaborationInfo}

-- a value made from the fact that the test passes; `None` if it fails
abbrev pub made : {X : Type 0} (test : Bool) → (test ≡ true → X) → Option X
made true value = Some (value refl)
made false value = None

-- a side of 1 to 16 parties
unfoldable pub side_from : List Party → List ℕ → Option Side
side_from parties role = made (nat_lt 0 (length parties) && nat_le (length parties) 16) (λ is.
    let parts = and_parts (nat_lt 0 (length parties)) (nat_le (length parties) 16) is in
    record { parties = parties; role = role; counted = (ltb-true 0 (length parties) parts.0, leb-true (length parties) 16 parts.1) })

-- a part info of at most 256 properties
unfoldable pub part_from : Option (List ℕ) → List Property → Option PartInfo
part_from href properties = made (nat_le (length properties) 256) (λ is.
    record { href = href; properties = properties; counted = leb-true (length properties) 256 is })

-- a header of at most 256 properties and 255 part infos
unfoldable pub header_from : Option (List ℕ) → MessageInfo → PartyInfo → CollaborationInfo → List Property → List PartInfo → Option UserHeader
header_from mpc info sides business properties parts = made (nat_le (length properties) 256 && nat_le (length parts) 255) (λ is.
    let counts = and_parts (nat_le (length properties) 256) (nat_le (length parts) 255) is in
    record {
      mpc = mpc;
      stamp = info.stamp;
      id = info.id;
      ref_to = info.ref_to;
      from = sides.from;
      to = sides.to;
      agreement = business.agreement;
      service = business.service;
      action = business.action;
      conversation = business.conversation;
      properties = properties;
      parts = parts;
      properties_counted = leb-true (length properties) 256 counts.0;
      parts_counted = leb-true (length parts) 255 counts.1;
    })

-- a receipt that refers to a message, 1 to 256 errors, or a pull request
unfoldable pub signal_from : MessageInfo → SignalBody → Option Signal
signal_from info body = made (is_signal info.ref_to body) (λ is.
    record { stamp = info.stamp; id = info.id; ref_to = info.ref_to; body = body; whole = is })

-- a receipt and a pull request
unfoldable pub pair_from : Signal → Signal → Option Pair
pair_from receipt pull = made (is_receipt receipt.body && is_pull pull.body) (λ is.
    let kinds = and_parts (is_receipt receipt.body) (is_pull pull.body) is in
    record { receipt = receipt; pull = pull; receipted = kinds.0; asked = kinds.1 })
