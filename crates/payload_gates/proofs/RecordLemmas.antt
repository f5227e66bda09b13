-- One more record: what it delivers is held in it, and what was held is held.
use Rattle.std.proofs.Common.{◌≡◌, ℕ, zero, suc, ◌+◌, ◌≤◌, List, [], ◌∷◌, ◌++◌, Bool, true, false, not, ◌||◌, ◌==◌, Option, Some, None, length, option_map, refl, sym, ap, ◌∙◌, subst, append_assoc, arith}
use Rattle.std.specs.Prelude.{if◌then◌else◌, nat_le, nat_lt}
use Rattle.std.specs.List.{list_any}
use Rattle.std.specs.Str.{bytes_eq}
use Rattle.std.proofs.lemmas.Bool.{eqb-true, leb-true, not-true}
use Rattle.std.proofs.lemmas.List.Folds.{list_any-append}
use Rattle.std.proofs.lemmas.Slice.Eq.{bytes_eq-Decides}
use Rattle.as4_effects.specs.declared.delivery.Delivery.{Delivery}
use Rattle.as4_effects.specs.declared.effect.Effect.{Effect}
use Rattle.as4_effects.specs.declared.effect.Effect.TheVariants as effect
use Rattle.exchange_model.specs.Apply.{after, after_all, applied, emptied, first_unfit, is_fit}
use Rattle.exchange_model.specs.End.{End}
use Rattle.exchange_model.specs.Questions.{is_known}
use Rattle.exchange_model.specs.declared.inbox_entry.InboxEntry.{InboxEntry}
use Rattle.exchange_laws.proofs.SentLemmas.{and_left, and_right}
use Rattle.inbox.specs.Spots.{Spot}
use Rattle.msh_state.specs.Places.{EachOpen, delivery_len, places_after, places_after_all}
use Rattle.payload_gates.specs.Gates.{BringsNothing, IsHeldIn, delivery_in}
use Rattle.payload_gates.proofs.OpenLemmas.{each_emptied, each_kept, each_push, each_weaker}

-- ---- the first delivery of an identifier

or_none : (a b : Bool) → (a || b) ≡ false → (a ≡ false) × (b ≡ false)
or_none true b h = absurd cc
or_none false b h = (refl, h)

past_by : (b : Bool) (d : Delivery) (old new rest : Option Delivery) → (if b then Some d else old) ≡ None → (old ≡ None → new ≡ rest) → (if b then Some d else new) ≡ rest
past_by true d old new rest none next = absurd cc
past_by false d old new rest none next = next none

-- where the first effects have none, it is that of the others
pub delivery_past : (id : List ℕ) (done rest : List Effect) → delivery_in id done ≡ None → delivery_in id (done ++ rest) ≡ delivery_in id rest
unfolding delivery_in
delivery_past id [] rest none = refl
delivery_past id (effect.Delivered d ∷ done) rest none =
    past_by (bytes_eq d.header.id id) d (delivery_in id done) (delivery_in id (done ++ rest)) (delivery_in id rest) none (delivery_past id done rest)
delivery_past id (other ∷ done) rest none = delivery_past id done rest none

-- a delivery is the first of its own identifier
pub delivery_first : (d : Delivery) (rest : List Effect) → delivery_in d.header.id (effect.Delivered d ∷ rest) ≡ Some d
unfolding delivery_in
delivery_first d rest =
    ap (λ (b : Bool). if b then Some d else delivery_in d.header.id rest) ((bytes_eq-Decides d.header.id d.header.id).1 refl)

-- and none of another
delivery_other : (d : Delivery) (id : List ℕ) → bytes_eq d.header.id id ≡ false → delivery_in id (effect.Delivered d ∷ []) ≡ None
unfolding delivery_in
delivery_other d id differs = ap (λ (b : Bool). if b then Some d else None) differs

-- ---- what the inbox knows

-- each delivery among these effects is in the inbox
abbrev Knows : List Effect → List InboxEntry → Type 0
Knows done inbox = (id : List ℕ) → is_known id inbox ≡ false → delivery_in id done ≡ None

known_push : (id : List ℕ) (inbox : List InboxEntry) (entry : InboxEntry) → is_known id (inbox ++ entry ∷ []) ≡ false
    → (is_known id inbox ≡ false) × (bytes_eq entry.header.id id ≡ false)
unfolding is_known
known_push id inbox entry unknown =
    let test : InboxEntry → Bool = λ e. bytes_eq e.header.id id in
    let parts = or_none (list_any test inbox) (list_any test (entry ∷ [])) (sym (list_any-append test inbox (entry ∷ [])) ∙ unknown) in
    (parts.0, (or_none (bytes_eq entry.header.id id) false parts.1).0)

known_emptied : (id : List ℕ) (count : ℕ) (inbox : List InboxEntry) → is_known id (emptied count inbox) ≡ is_known id inbox
unfolding is_known emptied
known_emptied id zero inbox = refl
known_emptied id (suc count) [] = refl
known_emptied id (suc count) (entry ∷ inbox) = ap (λ rest. bytes_eq entry.header.id id || rest) (known_emptied id count inbox)

knows_more : (done : List Effect) (e : Effect) (end : End) → Knows done end.inbox → Knows (done ++ e ∷ []) (after e end).inbox
unfolding after delivery_in
knows_more done (effect.Delivered d) end knows id unknown =
    let parts = known_push id end.inbox (record { header = d.header; payloads = d.payloads }) unknown in
    delivery_past id done (effect.Delivered d ∷ []) (knows id parts.0) ∙ delivery_other d id parts.1
knows_more done (effect.Kept k) end knows id unknown =
    let parts = known_push id end.inbox (record { header = k.header; payloads = [] }) unknown in
    delivery_past id done (effect.Kept k ∷ []) (knows id parts.0)
knows_more done (effect.Confirmed upto) end knows id unknown =
    delivery_past id done (effect.Confirmed upto ∷ []) (knows id (sym (known_emptied id (upto + 1) end.inbox) ∙ unknown))
knows_more done (effect.Submitted s) end knows id unknown = delivery_past id done (effect.Submitted s ∷ []) (knows id unknown)
knows_more done (effect.Ticked t) end knows id unknown = delivery_past id done (effect.Ticked t ∷ []) (knows id unknown)
knows_more done (effect.Tried n) end knows id unknown = delivery_past id done (effect.Tried n ∷ []) (knows id unknown)
knows_more done (effect.Receipted n) end knows id unknown = delivery_past id done (effect.Receipted n ∷ []) (knows id unknown)
knows_more done (effect.Refused n code) end knows id unknown = delivery_past id done (effect.Refused n code ∷ []) (knows id unknown)
knows_more done (effect.Carried c) end knows id unknown = delivery_past id done (effect.Carried c ∷ []) (knows id unknown)

-- ---- one effect

first_fits : (b : Bool) (o : Option ℕ) → (if b then option_map suc o else Some 0) ≡ None → (b ≡ true) × (o ≡ None)
first_fits true None e = (refl, refl)
first_fits true (Some n) e = absurd cc
first_fits false o e = absurd cc

-- an effect that fits: what it delivers is as wanted, and so is what was open
each_after : (P : Spot → InboxEntry → Type 0) (e : Effect) (gate : ℕ) (end : End) (places : List Spot) → is_fit e end ≡ true
    → ((d : Delivery) → e ≡ effect.Delivered d → is_known d.header.id end.inbox ≡ false
    → P (record { gate = gate; length = delivery_len d.header d.payloads }) (record { header = d.header; payloads = d.payloads }))
    → EachOpen P end.confirmed places end.inbox → EachOpen P (after e end).confirmed (places_after e gate places) (after e end).inbox
unfolding after is_fit places_after
each_after P (effect.Delivered d) gate end places fits comes each =
    each_push P end.confirmed places end.inbox _ _ (comes d refl (not-true (is_known d.header.id end.inbox) fits)) each
each_after P (effect.Kept k) gate end places fits comes each =
    let new : Bool = not (is_known k.header.id end.inbox) in
    let whole : Bool = end.confirmed == length end.inbox in
    each_kept P end.confirmed (end.confirmed + 1) places end.inbox _ _ (eqb-true end.confirmed (length end.inbox) (and_right new whole fits)) refl each
each_after P (effect.Confirmed upto) gate end places fits comes each =
    let more : end.confirmed ≤ upto = leb-true end.confirmed upto (and_left (nat_le end.confirmed upto) (nat_lt upto (length end.inbox)) fits) in
    each_emptied P end.confirmed (upto + 1) places end.inbox (omega (arith, more)) each
each_after P other gate end places fits comes each = each

pub others_leave : (e : Effect) (gate : ℕ) (places : List Spot) → BringsNothing e → places_after e gate places ≡ places
unfolding places_after
others_leave (effect.Delivered d) gate places nothing = absurd nothing
others_leave (effect.Kept k) gate places nothing = absurd nothing
others_leave other gate places nothing = refl

pub each_other : (P : Spot → InboxEntry → Type 0) (e : Effect) (places : List Spot) (end : End) → BringsNothing e → is_fit e end ≡ true
    → EachOpen P end.confirmed places end.inbox → EachOpen P (after e end).confirmed places (after e end).inbox
each_other P e places end nothing fits each =
    let Q : List Spot → Type 0 = λ l. EachOpen P (after e end).confirmed l (after e end).inbox in
    subst Q (others_leave e 0 places nothing)
    (each_after P e 0 end places fits (λ d is unknown. absurd (subst BringsNothing is nothing)) each)

-- ---- the record

-- what is held in some records is held in more
pub held_more : (gate_of : List (List Effect) → ℕ) (records more : List (List Effect)) (spot : Spot) (entry : InboxEntry)
    → IsHeldIn gate_of records spot entry → IsHeldIn gate_of (records ++ more) spot entry
held_more gate_of records more spot entry held = record {
  before = held.before;
  effects = held.effects;
  later = held.later ++ more;
  records_are = ap (λ (l : List (List Effect)). l ++ more) held.records_are ∙ append_assoc held.before (held.effects ∷ held.later) more;
  gate = held.gate;
  brings = held.brings;
}

module _ (gate_of : List (List Effect) → ℕ) (records : List (List Effect)) (all : List Effect) where
  abbrev Held : Spot → InboxEntry → Type 0
  Held = IsHeldIn gate_of (records ++ all ∷ [])

  comes : (done rest : List Effect) (d : Delivery) (length : ℕ) → all ≡ done ++ effect.Delivered d ∷ rest → delivery_in d.header.id done ≡ None
      → Held (record { gate = gate_of records; length = length }) (record { header = d.header; payloads = d.payloads })
  comes done rest d length are none = record {
    before = records;
    effects = all;
    later = [];
    records_are = refl;
    gate = refl;
    brings = record {
      delivery = d;
      found = ap (delivery_in d.header.id) are ∙ delivery_past d.header.id done (effect.Delivered d ∷ rest) none ∙ delivery_first d rest;
      header = refl;
      payloads = refl;
    };
  }

  comes_on : (done rest : List Effect) (places : List Spot) (end : End) → all ≡ done ++ rest → first_unfit rest end ≡ None → Knows done end.inbox
      → EachOpen Held end.confirmed places end.inbox
      → EachOpen Held (after_all rest end).confirmed (places_after_all rest (gate_of records) places) (after_all rest end).inbox
  unfolding places_after_all
  comes_on done [] places end are fits knows each = each
  comes_on done (e ∷ rest) places end are fits knows each =
      let both = first_fits (is_fit e end) (first_unfit rest (after e end)) fits in
      let here : (d : Delivery) → e ≡ effect.Delivered d → is_known d.header.id end.inbox ≡ false
      → Held (record { gate = gate_of records; length = delivery_len d.header d.payloads }) (record { header = d.header; payloads = d.payloads }) =
      λ d is unknown.
      comes done rest d (delivery_len d.header d.payloads) (are ∙ ap (λ (x : Effect). done ++ x ∷ rest) is) (knows d.header.id unknown) in
      comes_on (done ++ e ∷ []) rest (places_after e (gate_of records) places) (after e end) (are ∙ sym (append_assoc done (e ∷ []) rest)) both.1
      (knows_more done e end knows) (each_after Held e (gate_of records) end places both.0 here each)

  none_yet : (id : List ℕ) → delivery_in id [] ≡ None
  unfolding delivery_in
  none_yet id = refl

  same_inbox : (effects : List Effect) (end : End) (places : List Spot) → EachOpen Held (after_all effects end).confirmed places (after_all effects end).inbox
      → EachOpen Held (applied effects end).confirmed places (applied effects end).inbox
  unfolding applied
  same_inbox [] end places held = held
  same_inbox (e ∷ effects) end places held = held

  pub brings_what_comes : (places : List Spot) (end : End) → first_unfit all end ≡ None → EachOpen (IsHeldIn gate_of records) end.confirmed places end.inbox
      → EachOpen Held (applied all end).confirmed (places_after_all all (gate_of records) places) (applied all end).inbox
  brings_what_comes places end fits each =
      same_inbox all end (places_after_all all (gate_of records) places) (comes_on [] all places end refl fits (λ id unknown. none_yet id)
      (each_weaker (IsHeldIn gate_of records) Held (held_more gate_of records (all ∷ [])) end.confirmed places end.inbox each))
