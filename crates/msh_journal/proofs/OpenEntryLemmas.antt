-- The record of an open entry in a compaction.
use Rattle.std.proofs.Common.{◌≡◌, ℕ, ◌+◌, ◌<◌, ◌^◌, List, [], ◌∷◌, ◌++◌, true, Option, Some, None, length, map, refl, sym, ap, subst, ◌∙◌, arith}
use Rattle.std.specs.Prelude.{IsSomeAnd, if◌then◌else◌}
use Rattle.std.proofs.lemmas.Option.{same_Some}
use Rattle.std.proofs.lemmas.List.{append-nil, length-append}
use Rattle.as4_disk.specs.Image.{Image}
use Rattle.as4_disk.specs.declared.disk.Disk.{Ghosts as DiskMeaning}
use Rattle.as4_effects.specs.Effects.{effect_body, effects_body}
use Rattle.as4_effects.specs.declared.delivery.Delivery.{Delivery}
use Rattle.as4_effects.specs.declared.effect.Effect.{Effect}
use Rattle.as4_effects.specs.declared.effect.Effect.TheVariants as effect
use Rattle.as4_effects.proofs.LengthLemmas.{number_length}
use Rattle.as4_effects.proofs.PartLemmas.{delivery_told}
use Rattle.as4_values.specs.declared.header.UserHeader.{UserHeader}
use Rattle.as4_values.specs.declared.payload.Payload.{Payload}
use Rattle.event_code.specs.Spelled.{IsSpelledEffect}
use Rattle.exchange_model.specs.Apply.{record_len}
use Rattle.exchange_model.specs.End.{End}
use Rattle.fold_laws.proofs.OneFold.{delivers}
use Rattle.inbox.specs.Spots.{Spot}
use Rattle.journal.specs.State.{HasFold, HasRecords}
use Rattle.journal.specs.declared.journal.Journal.{Journal}
use Rattle.msh_core.specs.Folding.{IsOpenAt, IsShown}
use Rattle.msh_core.specs.declared.folding.Folding.{Folding}
use Rattle.msh_journal.specs.Adding.{AddsPart, AddsRecord, FoldHasPayloads, KeepsFold}
use Rattle.msh_journal.specs.Keeping.{StaysJournal}
use Rattle.msh_journal.specs.Payloads.{gate_at}
use Rattle.msh_journal.proofs.FoldingLemmas.{len_of_one}
use Rattle.msh_journal.proofs.KeepingLemmas.{fold_records}
use Rattle.msh_journal.proofs.PayloadLemmas.{fetched_entry, record_of_entry}
use Rattle.msh_recovery.specs.Records.{IsBodyOf, alone}
use Rattle.msh_state.specs.Places.{delivery_len}
use Rattle.payload_gates.specs.Gates.{delivery_in, is_delivery}

-- a body that delivers a message alone
delivered_alone : (d : Delivery) → length (alone (effect.Delivered d)) ≡ delivery_len d.header d.payloads
unfolding delivery_len effects_body effect_body
delivered_alone d = rw (append-nil, length-append, number_length) (omega arith)

module _ (end : End) (places : List Spot) (part : ℕ) (e : Effect) (id : List ℕ) (gate len : ℕ) (is_open : IsOpenAt end places part e id gate len) where
  -- the effect delivers the entry
  pub open_delivers : (d : Delivery) × (e ≡ effect.Delivered d) × (d.header ≡ is_open.entry.header) × (d.payloads ≡ is_open.entry.payloads)
  open_delivers = delivers is_open.entry e is_open.again

  pub open_is_delivery : is_delivery e ≡ true
  open_is_delivery = ap (λ (x : Effect). is_delivery x) open_delivers.1

  -- the kept length is that of the effect's body
  pub open_body : length (alone e) ≡ len
  open_body =
      let d = open_delivers in
      let named : delivery_len d.0.header d.0.payloads ≡ delivery_len is_open.entry.header is_open.entry.payloads =
      ap (λ (h : UserHeader). delivery_len h d.0.payloads) d.2 ∙ ap (λ (p : List Payload). delivery_len is_open.entry.header p) d.3 in
      ap (λ (x : Effect). length (alone x)) d.1 ∙ delivered_alone d.0 ∙ named ∙ sym is_open.measured

  pub open_len : record_len (e ∷ []) ≡ len + 9
  open_len = omega (arith, len_of_one e, open_body)

  -- and so is the room for its record
  pub open_room : (fold : Option ℕ) → IsSomeAnd fold (λ place. place + record_len (e ∷ []) + 1 < 2 ^ 32) → IsSomeAnd fold (λ place. place + (len + 9) + 1 < 2 ^ 32)
  open_room None room = room
  open_room (Some place) room = omega (arith, room, open_len)

  module _ {D : Type 0} (M : DiskMeaning D) (old : Journal D) (held : FoldHasPayloads M end places old) (image : Image) (told : M.seen old.disk ≡ Some image) where
    -- what was fetched is the entry's delivery
    pub open_found : (found : Option Delivery)
        → ((before later : List (List Effect)) (effects : List Effect) → HasRecords M old (map effects_body (before ++ effects ∷ later)) → IsBodyOf effects (effects_body effects) → gate ≡ gate_at old.version before → found ≡ delivery_in id effects)
        → (d : Delivery) × (found ≡ Some d) × (e ≡ effect.Delivered d)
    open_found found finds =
        let had = held image told in
        let here = record_of_entry old.version had.0 end places is_open.n gate len is_open.entry had.3 is_open.waits is_open.place is_open.there in
        let d = open_delivers in
        let header : d.0.header ≡ here.brings.delivery.header = d.2 ∙ sym here.brings.header in
        let payloads : d.0.payloads ≡ here.brings.delivery.payloads = d.3 ∙ sym here.brings.payloads in
        let same : d.0 ≡ here.brings.delivery = delivery_told d.0 here.brings.delivery cc in (
          here.brings.delivery,
          fetched_entry M old id gate found finds had.0 (fold_records M old had.0 had.1 had.2) is_open.entry is_open.named here,
          d.1 ∙ ap effect.Delivered same,
        )

-- what is shown is shown of an effect
pub shown_some : (end : End) (places : List Spot) (part : ℕ) (folding : Folding) (o : Option Effect) → IsShown end places part o (Some folding)
    → (e : Effect) × (o ≡ Some e) × IsShown end places part (Some e) (Some folding)
shown_some end places part folding None shown = absurd shown
shown_some end places part folding (Some e) shown = (e, refl, shown)

-- and where nothing is shown there is none
pub shown_none : (end : End) (places : List Spot) (part : ℕ) (o : Option Effect) → IsShown end places part o None → o ≡ None
shown_none end places part None shown = refl
shown_none end places part (Some e) shown = absurd shown

-- ---- a record that was read and added

module _ {D : Type 0} (M : DiskMeaning D) (old mid new : Journal D) (stays : StaysJournal M old mid) (same : (new.gate ≡ mid.gate) × (new.version ≡ mid.version)) (frame : List ℕ)
    (added : (bodies folded : List (List ℕ)) → HasFold M mid bodies folded → HasFold M new bodies (folded ++ frame ∷ [])) where
  pub read_and_kept : KeepsFold M old new
  read_and_kept = record {
    gate = same.0 ∙ stays.gate;
    version = same.1 ∙ stays.version;
    kept = λ bodies folded has. (folded ++ frame ∷ [], added bodies folded (stays.folds bodies folded has));
  }

  -- the record of an open entry
  pub open_added : (end : End) (places : List Spot) (part : ℕ) (e : Effect) (id : List ℕ) (gate len : ℕ) → IsOpenAt end places part e id gate len → FoldHasPayloads M end places old
      → length frame ≡ len → ((image : Image) → M.seen old.disk ≡ Some image → (frame ≡ alone e) × IsSpelledEffect e) → (place : ℕ) → mid.fold ≡ Some place → new.fold ≡ Some (place + 9 + length frame)
      → (before after : List ℕ) → after ≡ before ++ place ∷ [] → AddsPart M old new e before after
  open_added end places part e id gate len is_open held long frame_is place at grows before after pushed =
      let size : record_len (e ∷ []) ≡ len + 9 = open_len end places part e id gate len is_open in
      let here : (p : ℕ) → old.fold ≡ Some p → place ≡ p = λ p was. same_Some _ _ (sym at ∙ stays.fold ∙ was) in
      let delivers_it : is_delivery e ≡ true = open_is_delivery end places part e id gate len is_open in
      record {
        adds = record {
          gate = same.0 ∙ stays.gate;
          version = same.1 ∙ stays.version;
          fold = λ p was. let is = here p was in grows ∙ ap (λ (n : ℕ). Some n) (omega (arith, is, size, long));
          added = λ bodies folded has.
              let is = frame_is has.settled.image has.settled.told in
              let P : List ℕ → Type 0 = λ l. HasFold M new bodies (folded ++ l ∷ []) in
              (is.1, subst P is.0 (added bodies folded (stays.folds bodies folded has)));
        };
        noted = λ p was.
            pushed
            ∙ ap (λ (n : ℕ). before ++ n ∷ []) (here p was)
            ∙ ap (λ b. if b then before ++ p ∷ [] else before) (sym delivers_it);
      }

-- nothing was added
pub read_only : {D : Type 0} (M : DiskMeaning D) (old new : Journal D) → StaysJournal M old new → KeepsFold M old new
read_only M old new stays =
    record { gate = stays.gate; version = stays.version; kept = λ bodies folded has. (folded, stays.folds bodies folded has) }

pub same_kept : {D : Type 0} (M : DiskMeaning D) (old new : Journal D) → new ≡ old → KeepsFold M old new
same_kept {D} M old new same =
    let P : Journal D → Type 0 = λ j. KeepsFold M old j in
    subst P (sym same) (record { gate = refl; version = refl; kept = λ bodies folded has. (folded, has) })

pub added_kept : {D : Type 0} (M : DiskMeaning D) (old new : Journal D) (e : Effect) → AddsRecord M old new e → KeepsFold M old new
added_kept M old new e adds =
    record { gate = adds.gate; version = adds.version; kept = λ bodies folded has. (folded ++ alone e ∷ [], (adds.added bodies folded has).1) }
