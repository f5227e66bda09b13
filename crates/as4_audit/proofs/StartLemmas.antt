-- The start of a leaf, found record by record.
use Rattle.std.proofs.Common.{◌≡◌, ℕ, zero, suc, List, [], ◌∷◌, Bool, true, false, if◌then◌else◌, Option, Some, None, ◌≤◌, refl, ap, sym, ◌∙◌, arith}
use Rattle.std.specs.Prelude.{◌&&◌, ◌==◌, is_some, nat_le, nat_lt}
use Rattle.std.proofs.lemmas.Bool.{and_parts, leb-true, ne_eqb}
use Rattle.as4_audit.specs.Start.{begins, goes_on, may_follow, run_from, stage_after, stage_of, start_of}
use Rattle.as4_effects.specs.declared.effect.Effect.{Effect}

-- the number of records of the start that are left, after a record of this stage; 0 is before the first record
abbrev pub start_left : Option ℕ → List (Option (List Effect)) → ℕ
start_left None records = 0
start_left (Some zero) records = start_of records
start_left (Some (suc stage)) records = run_from (suc stage) records

pub left_in_none : (stage : Option ℕ) → start_left stage [] ≡ 0
unfolding begins
left_in_none None = refl
left_in_none (Some zero) = refl
left_in_none (Some (suc stage)) = refl

left_run : (stage : ℕ) (rest : List (Option (List Effect))) → 1 ≤ stage → run_from stage rest ≡ start_left (Some stage) rest
left_run zero rest some = absurd (omega arith)
left_run (suc stage) rest some = refl

not_first : (stage : ℕ) → (suc stage == 0) ≡ false
not_first stage = ne_eqb (suc stage) 0 (λ e. omega arith)

first_goes : (next : ℕ) → goes_on 0 next ≡ true → (1 ≤ next) × (nat_le 1 next && nat_le next 2 ≡ true) × (may_follow 1 next ≡ true)
unfolding goes_on may_follow
first_goes next on =
    let low : nat_le 1 next ≡ true = (and_parts (nat_le 1 next) (nat_le next 2) on).0 in (leb-true 1 next low, on, rw low refl)

first_stays : (next : ℕ) → goes_on 0 next ≡ false → nat_le 1 next && nat_le next 2 ≡ false
unfolding goes_on
first_stays next off = off

later_goes : (stage next : ℕ) → goes_on (suc stage) next ≡ may_follow (suc stage) next
unfolding goes_on
later_goes stage next = rw (not_first stage) refl

follows_some : (stage next : ℕ) → may_follow (suc stage) next ≡ true → 1 ≤ next
unfolding may_follow
follows_some stage next on =
    let high : suc stage ≤ next = leb-true (suc stage) next (and_parts (nat_le (suc stage) next) (nat_lt (suc stage) 4) on).0 in omega arith

-- the record after this stage is of the start
on_by : (stage next : ℕ) (item : Option (List Effect)) (rest : List (Option (List Effect))) → stage_of item ≡ next → goes_on stage next ≡ true
    → start_left (Some stage) (item ∷ rest) ≡ suc (start_left (Some next) rest)
unfolding begins
on_by zero next item rest is on =
    let goes = first_goes next on in rw (is, goes.1, goes.2) (ap suc (left_run next rest goes.0))
on_by (suc stage) next item rest is on =
    let follows : may_follow (suc stage) next ≡ true = sym (later_goes stage next) ∙ on in
    rw (is, follows) (ap suc (left_run next rest (follows_some stage next follows)))

off_by : (stage : ℕ) (item : Option (List Effect)) (rest : List (Option (List Effect))) → goes_on stage (stage_of item) ≡ false
    → start_left (Some stage) (item ∷ rest) ≡ 0
unfolding begins
off_by zero item rest off = rw (first_stays (stage_of item) off) refl
off_by (suc stage) item rest off =
    let stays : may_follow (suc stage) (stage_of item) ≡ false = sym (later_goes stage (stage_of item)) ∙ off in rw stays refl

-- a record that is of the start
pub left_on : (stage : Option ℕ) (item : Option (List Effect)) (rest : List (Option (List Effect))) → is_some (stage_after stage item) ≡ true
    → start_left stage (item ∷ rest) ≡ suc (start_left (stage_after stage item) rest)
unfolding stage_after
left_on None item rest is = absurd cc
left_on (Some stage) item rest is = by_test (goes_on stage (stage_of item)) refl is
  where
    by_test : (b : Bool) → goes_on stage (stage_of item) ≡ b → is_some (if b then Some (stage_of item) else None) ≡ true
        → start_left (Some stage) (item ∷ rest) ≡ suc (start_left (if goes_on stage (stage_of item) then Some (stage_of item) else None) rest)
    by_test true on some = rw on (on_by stage (stage_of item) item rest refl on)
    by_test false off some = absurd cc

-- and one that isn't
pub left_off : (stage : Option ℕ) (item : Option (List Effect)) (rest : List (Option (List Effect))) → is_some (stage_after stage item) ≡ false
    → (start_left stage (item ∷ rest) ≡ 0) × (start_left (stage_after stage item) rest ≡ 0)
unfolding stage_after
left_off None item rest is = (refl, refl)
left_off (Some stage) item rest is = by_test (goes_on stage (stage_of item)) refl is
  where
    by_test : (b : Bool) → goes_on stage (stage_of item) ≡ b → is_some (if b then Some (stage_of item) else None) ≡ false
        → (start_left (Some stage) (item ∷ rest) ≡ 0) × (start_left (if goes_on stage (stage_of item) then Some (stage_of item) else None) rest ≡ 0)
    by_test true on none = absurd cc
    by_test false off none = (off_by stage item rest off, rw off refl)
