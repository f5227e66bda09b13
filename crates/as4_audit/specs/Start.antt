-- The start of a leaf: its longest prefix that has the form of a compaction (a submission or a header in each record,
-- then deliveries, then at most one setting of the clock). A leaf that doesn't begin with a carried submission or a kept
-- header has no start.
use Rattle.std.specs.Prelude.{ℕ, suc, List, [], ◌∷◌, Bool, false, ◌&&◌, ◌==◌, nat_le, nat_lt, if◌then◌else◌, Option, Some, None}
use Rattle.as4_effects.specs.declared.effect.Effect.{Effect}
use Rattle.as4_effects.specs.declared.effect.Effect.TheVariants as effect

-- where a compaction has a record of these effects: 1, carried submissions; 2, kept headers; 3, deliveries; 4, the clock;
-- 0, nowhere
unfoldable pub stage_of : Option (List Effect) → ℕ
stage_of (Some (effect.Carried carried ∷ [])) = 1
stage_of (Some (effect.Kept kept ∷ [])) = 2
stage_of (Some (effect.Delivered delivery ∷ [])) = 3
stage_of (Some (effect.Ticked tick ∷ [])) = 4
stage_of other = 0

-- a record of the second stage may follow one of the first; none follows the clock
unfoldable pub may_follow : ℕ → ℕ → Bool
may_follow stage next = nat_le stage next && nat_lt stage 4

-- the number of records that go on after a record of this stage
abbrev pub run_from : ℕ → List (Option (List Effect)) → ℕ
run_from stage [] = 0
run_from stage (item ∷ records) =
    if may_follow stage (stage_of item) then suc (run_from (stage_of item) records) else 0

-- it begins with a carried submission or a kept header
unfoldable pub begins : List (Option (List Effect)) → Bool
begins [] = false
begins (item ∷ records) = nat_le 1 (stage_of item) && nat_le (stage_of item) 2

-- the number of records of the start
abbrev pub start_of : List (Option (List Effect)) → ℕ
start_of records = if begins records then run_from 1 records else 0

-- whether a record of the second stage is of the start, after one of the first; the stage 0 is before the first record
unfoldable pub goes_on : ℕ → ℕ → Bool
goes_on stage next = if stage == 0 then nat_le 1 next && nat_le next 2 else may_follow stage next

-- the stage of the next record, if it is of the start too; None after the start
unfoldable pub stage_after : Option ℕ → Option (List Effect) → Option ℕ
stage_after None item = None
stage_after (Some stage) item = if goes_on stage (stage_of item) then Some (stage_of item) else None
