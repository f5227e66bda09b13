-- What the calls of some changes have done on a disk in memory that is to stop at one of them.
use Rattle.std.specs.Prelude.{Bool, true, false, ◌==◌, ◌-◌, if◌then◌else◌, option_map}
use Rattle.std.proofs.Common.{◌≡◌, inl, inr, ℕ, zero, suc, ◌≤◌, List, [], ◌∷◌, ◌++◌, length, Option, Some, sym, ◌∙◌, ap, arith, append-nil, append_assoc}
use Rattle.std.proofs.lemmas.Grind.{common_steps}
use Rattle.std.specs.List.{list_any}
use Rattle.as4_flow.specs.Flow.{one_more}
use Rattle.as4_disk.specs.declared.change.Change.{Change}
use Rattle.as4_disk.specs.declared.change.Turn.TheVariants.{Acts, Fails, Stops}
use Rattle.as4_disk.specs.Changes.{is_sync}
use Rattle.as4_disk.specs.Memory.{DiskState, MakesChange, called, changed, failed, halted, starved, stopped_at, turn_by, turn_of}
use Rattle.as4_disk.specs.Runs.{MakesAll}

turn_is : (old : DiskState) (stop : Option ℕ) → old.failing ≡ [] → old.stop ≡ stop → turn_of old ≡ turn_by stop
turn_is old stop none is =
    ap (λ (failing : List ℕ). if list_any (λ call. call == one_more old.calls) failing then Fails else turn_by old.stop) none
    ∙ ap turn_by is

-- what was added where the disk stops at this very call
halts : (old new : DiskState) (change : Change) (later : List Change) → new ≡ failed (halted change (called old)) → (new.first ≡ old.first) × (new.changes ≡ old.changes ++ stopped_at 1 (change ∷ later))
unfolding stopped_at
halts old new change later is = elim (is_sync change) as (λ (b : Bool). new ≡ failed (if b then called old else changed change (called old)) → (new.first ≡ old.first) × (new.changes ≡ old.changes ++ (if b then [] else change ∷ []))) [
  | true ↦ λ same. (ap (λ d. d.first) same, ap (λ d. d.changes) same ∙ sym (append-nil old.changes))
  | false ↦ λ made. (ap (λ d. d.first) made, ap (λ d. d.changes) made)
] is

acts_before : (n : ℕ) → turn_by (Some (suc (suc n))) ≡ Acts
acts_before n = grind (arith, common_steps)

stops_not_fails : Stops ≡ Fails → ⊥
stops_not_fails same = cc

stops_not_acts : Stops ≡ Acts → ⊥
stops_not_acts same = cc

acts_not_fails : Acts ≡ Fails → ⊥
acts_not_fails same = cc

acts_not_stops : Acts ≡ Stops → ⊥
acts_not_stops same = cc

abbrev Stopped : DiskState → DiskState → List Change → Type 0
Stopped old new changes = new.ran_out ≡ false → (new.first ≡ old.first) × (new.changes ≡ old.changes ++ changes)

ran_out : (old new : DiskState) (changes : List Change) → new ≡ starved (called old) → Stopped old new changes
ran_out old new changes is not_so = absurd (cc)

pub run_stops : (changes : List Change) (old new : DiskState) (ok : Bool) (call : ℕ) → MakesAll MakesChange changes old new ok → old.failing ≡ [] → old.stop ≡ Some call → 1 ≤ call → call ≤ length changes → (ok ≡ false) × Stopped old new (stopped_at call changes)
unfolding stopped_at
run_stops [] old new ok call run none is some within = absurd (omega (arith, some, within))
run_stops (change ∷ changes) old new ok zero run none is some within = absurd (omega (arith, some))
run_stops (change ∷ changes) old new ok (suc zero) (inl (inl fails, not_ok)) none is some within =
    absurd (stops_not_fails (sym (turn_is old (Some 1) none is) ∙ fails.0))
run_stops (change ∷ changes) old new ok (suc zero) (inl (inr (inl stops), not_ok)) none is some within = (not_ok, λ kept. halts old new change changes stops.1)
run_stops (change ∷ changes) old new ok (suc zero) (inl (inr (inr starves), not_ok)) none is some within = (not_ok, ran_out old new _ starves)
run_stops (change ∷ changes) old new ok (suc zero) (inr (mid, made, rest)) none is some within =
    absurd (stops_not_acts (sym (turn_is old (Some 1) none is) ∙ made.0))
run_stops (change ∷ changes) old new ok (suc (suc n)) (inl (inl fails, not_ok)) none is some within =
    absurd (acts_not_fails (sym (acts_before n) ∙ sym (turn_is old (Some (suc (suc n))) none is) ∙ fails.0))
run_stops (change ∷ changes) old new ok (suc (suc n)) (inl (inr (inl stops), not_ok)) none is some within =
    absurd (acts_not_stops (sym (acts_before n) ∙ sym (turn_is old (Some (suc (suc n))) none is) ∙ stops.0))
run_stops (change ∷ changes) old new ok (suc (suc n)) (inl (inr (inr starves), not_ok)) none is some within = (not_ok, ran_out old new _ starves)
run_stops (change ∷ changes) old new ok (suc (suc n)) (inr (mid, made, rest)) none is some within =
    let one_less : suc (suc n) - 1 ≡ suc n = omega arith in
    let later = run_stops changes mid new ok (suc n) rest
    (ap (λ d. d.failing) made.1 ∙ none)
    (ap (λ d. d.stop) made.1 ∙ ap (λ (stop : Option ℕ). option_map (λ call. call - 1) stop) is
    ∙ ap (λ (left : ℕ). Some left) one_less)
    (omega arith) (omega (arith, within)) in (
      later.0,
      λ kept. (
        (later.1 kept).0 ∙ ap (λ d. d.first) made.1,
        (later.1 kept).1 ∙ ap (λ (l : List Change). l ++ stopped_at (suc n) changes) (ap (λ d. d.changes) made.1)
            ∙ append_assoc old.changes (change ∷ []) (stopped_at (suc n) changes),
      ),
    )
