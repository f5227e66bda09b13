-- Which records have the payloads of the open entries.
use Rattle.std.proofs.Common.{◌≡◌, ℕ, ◌+◌, ◌*◌, ◌≤◌, List, [], ◌∷◌, ◌++◌, Option, Some, length, map, refl, sym, ap, subst, ◌∙◌, arith}
use Rattle.std.specs.Prelude.{slice_get}
use Rattle.std.specs.List.{sum_by}
use Rattle.std.proofs.lemmas.List.{map-append}
use Rattle.std.proofs.lemmas.List.Sums.{sum_by-cons}
use Rattle.as4_disk.specs.declared.disk.Disk.{Ghosts as DiskMeaning}
use Rattle.as4_effects.specs.Effects.{effects_body}
use Rattle.as4_effects.specs.declared.delivery.Delivery.{Delivery}
use Rattle.as4_effects.specs.declared.effect.Effect.{Effect}
use Rattle.event_code.specs.Spelled.{AreSpelled}
use Rattle.exchange_model.specs.Apply.{record_len}
use Rattle.exchange_model.specs.End.{End, empty_end}
use Rattle.exchange_model.specs.Fold.{IsFolded, resized}
use Rattle.exchange_model.specs.declared.inbox_entry.InboxEntry.{InboxEntry}
use Rattle.inbox.specs.Spots.{Spot}
use Rattle.journal.specs.Leaf.{front_of}
use Rattle.journal.specs.State.{HasRecords}
use Rattle.journal.specs.declared.journal.Journal.{Journal}
use Rattle.journal.specs.declared.version.Version.{Version}
use Rattle.journal.specs.declared.version.Version.TheVariants.{Two}
use Rattle.msh_journal.specs.Adding.{bytes_of}
use Rattle.msh_journal.specs.Payloads.{AreWritten, HoldsPayloads, gate_at}
use Rattle.msh_journal.specs.Reading.{RecordBrings}
use Rattle.msh_recovery.proofs.SizeLemmas.{front_len}
use Rattle.msh_recovery.specs.Records.{IsBodyOf, RecordLeads, alone}
use Rattle.msh_state.specs.Places.{EachOpen, places_after_all}
use Rattle.payload_gates.specs.Gates.{AreGates, Bring, IsHeldIn, delivery_in, moved, one_by_one}
use Rattle.payload_gates.proofs.FoldLemmas.{moves_what_waits}
use Rattle.payload_gates.proofs.GateLemmas.{one_by_one_cons, one_by_one_none}
use Rattle.payload_gates.proofs.OpenLemmas.{each_at}
use Rattle.payload_gates.proofs.RecordLemmas.{brings_what_comes}

-- ---- records

written_more : (records more : List (List Effect)) → AreWritten records → AreWritten more → AreWritten (records ++ more)
written_more [] more written next = next
written_more (effects ∷ records) more written next = (written.0, written_more records more written.1 next)

-- one of them
written_one : (before later : List (List Effect)) (effects : List Effect) → AreWritten (before ++ effects ∷ later) → IsBodyOf effects (effects_body effects)
written_one [] later effects written = written.0
written_one (first ∷ before) later effects written = written_one before later effects written.1

-- a body's effects have it
own_body : (effects : List Effect) (body : List ℕ) → IsBodyOf effects body → IsBodyOf effects (effects_body effects)
own_body effects body is = record { some = is.some; counted = is.counted; spelled = is.spelled; bytes = refl }

pub brings_leads : (body : List ℕ) (gate : ℕ) (start end : End) (before after : List Spot) → RecordBrings body gate start before end after → RecordLeads body start end
brings_leads body gate start end before after brings = (brings.effects, brings.is, brings.fit, brings.end_is)

-- ---- one record after another

-- no record has been read
pub payloads_none : (version : Version) → HoldsPayloads version [] empty_end []
payloads_none version = record { records = []; bodies_are = refl; written = tt; each = tt }

-- one more record
pub payloads_more : (version : Version) (bodies : List (List ℕ)) (body : List ℕ) (gate : ℕ) (start end : End) (before after : List Spot) → HoldsPayloads version bodies start before
    → RecordBrings body gate start before end after → gate ≡ length (front_of version bodies) → HoldsPayloads version (bodies ++ body ∷ []) end after
payloads_more version bodies body gate start end before after holds brings place =
    let effects = brings.effects in
    let front : gate_at version holds.records ≡ gate = sym (place ∙ ap (λ (l : List (List ℕ)). length (front_of version l)) holds.bodies_are) in
    let all : map effects_body (holds.records ++ effects ∷ []) ≡ bodies ++ body ∷ [] =
    map-append effects_body holds.records (effects ∷ [])
    ∙ ap (λ (l : List (List ℕ)). l ++ effects_body effects ∷ []) (sym holds.bodies_are)
    ∙ ap (λ (b : List ℕ). bodies ++ b ∷ []) (sym brings.is.bytes) in
    let P : List Spot → End → Type 0 = λ places e. EachOpen (IsHeldIn (gate_at version) (holds.records ++ effects ∷ [])) e.confirmed places e.inbox in
    let places : places_after_all effects (gate_at version holds.records) before ≡ after =
    ap (λ (n : ℕ). places_after_all effects n before) front ∙ sym brings.places_are in
    record {
      records = holds.records ++ effects ∷ [];
      bodies_are = sym all;
      written = written_more holds.records (effects ∷ []) holds.written (own_body effects body brings.is, tt);
      each = subst (λ (l : List Spot). P l end) places
          (subst (P (places_after_all effects (gate_at version holds.records) before)) (sym brings.end_is)
          (brings_what_comes (gate_at version) holds.records effects before start brings.fit holds.each));
    }

-- another size of the journal
pub payloads_resized : (version : Version) (bodies : List (List ℕ)) (size : ℕ) (end : End) (places : List Spot) → HoldsPayloads version bodies end places → HoldsPayloads version bodies (resized size end) places
payloads_resized version bodies size end places holds =
    record { records = holds.records; bodies_are = holds.bodies_are; written = holds.written; each = holds.each }

-- ---- one record

-- where the record of an open entry is
pub record IsRecordOf (version : Version) (bodies : List (List ℕ)) (gate : ℕ) (entry : InboxEntry) : Type 0 where
  pub before : List (List Effect)
  pub later : List (List Effect)
  pub effects : List Effect
  pub bodies_are : bodies ≡ map effects_body (before ++ effects ∷ later)
  pub is : IsBodyOf effects (effects_body effects)
  pub place : gate ≡ gate_at version before
  pub brings : Bring effects entry

pub record_of_entry : (version : Version) (bodies : List (List ℕ)) (end : End) (places : List Spot) (n gate len : ℕ) (entry : InboxEntry) → HoldsPayloads version bodies end places → end.confirmed ≤ n
    → slice_get places n ≡ Some (record { gate = gate; length = len }) → slice_get end.inbox n ≡ Some entry → IsRecordOf version bodies gate entry
record_of_entry version bodies end places n gate len entry holds waits place there =
    let held = each_at (IsHeldIn (gate_at version) holds.records) end.confirmed n places end.inbox (record { gate = gate; length = len }) entry holds.each waits place there in
    record {
      before = held.before;
      later = held.later;
      effects = held.effects;
      bodies_are = holds.bodies_are ∙ ap (λ (l : List (List Effect)). map effects_body l) held.records_are;
      is = written_one held.before held.later held.effects (subst AreWritten held.records_are holds.written);
      place = held.gate;
      brings = held.brings;
    }

-- its delivery is found there
pub fetched_entry : {D : Type 0} (M : DiskMeaning D) (old : Journal D) (id : List ℕ) (gate : ℕ) (found : Option Delivery)
    → ((before later : List (List Effect)) (effects : List Effect) → HasRecords M old (map effects_body (before ++ effects ∷ later)) → IsBodyOf effects (effects_body effects) → gate ≡ gate_at old.version before → found ≡ delivery_in id effects)
    → (bodies : List (List ℕ)) → HasRecords M old bodies → (entry : InboxEntry) → id ≡ entry.header.id → (r : IsRecordOf old.version bodies gate entry) → found ≡ Some r.brings.delivery
fetched_entry M old id gate found finds bodies has entry named r =
    finds r.before r.later r.effects (subst (HasRecords M old) r.bodies_are has) r.is r.place ∙ ap (λ (i : List ℕ). delivery_in i r.effects) named ∙ r.brings.found

-- ---- a compaction

alone_bodies : (effects : List Effect) → map alone effects ≡ map effects_body (one_by_one effects)
alone_bodies [] = ap (λ (l : List (List Effect)). map effects_body l) (sym one_by_one_none)
alone_bodies (e ∷ effects) =
    ap (λ (l : List (List ℕ)). alone e ∷ l) (alone_bodies effects) ∙ ap (λ (l : List (List Effect)). map effects_body l) (sym (one_by_one_cons e effects))

alone_written : (effects : List Effect) → AreSpelled effects → AreWritten (one_by_one effects)
alone_written [] spelled = subst AreWritten (sym one_by_one_none) tt
alone_written (e ∷ effects) spelled =
    subst AreWritten (sym (one_by_one_cons e effects)) (
      record { some = omega arith; counted = omega arith; spelled = (spelled.0, tt); bytes = refl },
      alone_written effects spelled.1,
    )

alone_sum : (effects : List Effect) → sum_by length (map alone effects) + 9 * length (map alone effects) ≡ bytes_of effects
unfolding record_len
alone_sum [] = refl
alone_sum (e ∷ effects) =
    let bytes : sum_by length (map alone (e ∷ effects)) ≡ length (alone e) + sum_by length (map alone effects) = sum_by-cons length (alone e) (map alone effects) in
    let lens : bytes_of (e ∷ effects) ≡ record_len (e ∷ []) + bytes_of effects = sum_by-cons (λ (f : Effect). record_len (f ∷ [])) e effects in
    let one : record_len (e ∷ []) ≡ length (alone e) + 9 = refl in
    omega (arith, bytes, lens, one, alone_sum effects)

-- the gate that follows the records of these effects
pub gate_of_alone : (effects : List Effect) → gate_at Two (one_by_one effects) ≡ 8 + bytes_of effects
gate_of_alone effects =
    let same : gate_at Two (one_by_one effects) ≡ length (front_of Two (map alone effects)) = ap (λ (l : List (List ℕ)). length (front_of Two l)) (sym (alone_bodies effects)) in
    omega (arith, same, front_len Two (map alone effects), alone_sum effects)

-- the records of a compaction, with the gates of its deliveries
pub payloads_folded : (end : End) (effects : List Effect) (gates : List ℕ) (places : List Spot) (size : ℕ) → IsFolded end effects → AreSpelled effects → AreGates (gate_at Two) [] effects gates
    → length places ≡ length end.inbox → HoldsPayloads Two (map alone effects) (resized size end) (moved end.confirmed gates places)
payloads_folded end effects gates places size folded spelled are long = record {
  records = one_by_one effects;
  bodies_are = alone_bodies effects;
  written = alone_written effects spelled;
  each = moves_what_waits (gate_at Two) end effects gates folded are places long;
}
