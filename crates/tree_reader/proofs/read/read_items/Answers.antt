use Rattle.std.proofs.Common.{◌<◌, ℕ, List, Bool, true, ◌==◌, [], ◌≡◌, None, length, arith}
use Rattle.std.proofs.lemmas.Bool.Decides.{nat_tests}
use Rattle.std.proofs.lemmas.List.{nil_from_length}
use Rattle.tree_reader.specs.declared.reading.Reading.{Reading}
use Rattle.tree_reader.specs.Halts.{IsDone}
use Rattle.tree_reader.specs.Views.{state_of}
use Rattle.tree_reader.proofs.EndLemmas.{reached_named}
use Rattle.tree_reader.proofs.HaltLemmas.{reached_more, meets_shortens, unfinished}
use Rattle.tree_reader.proofs.read.read_items.Goals as goal

pub advance-requires : goal.advance-requires
advance-requires c = reached_named c.args.bytes.now c.loop-rest.rest.now (state_of c.loop-rest.reading) c.loop-rest.invariant.reached

pub loop-rest-smaller : goal.loop-rest-smaller
loop-rest-smaller c = meets_shortens _ _ _ _ c.in-Ok.ensures

pub loop-rest-preserved : goal.loop-rest-preserved
loop-rest-preserved c =
    let shorter : length c.in-Ok.behind.now < length c.loop-rest.rest.now = meets_shortens _ _ _ _ c.in-Ok.ensures in
    record {
      within = omega arith;
      reached = reached_more _ _ _ _ _ c.loop-rest.invariant.reached c.in-Ok.ensures;
    }

nothing_left : (rest : List ℕ) (empty : Bool) → empty ≡ true → empty ≡ (length rest == 0) → rest ≡ []
nothing_left rest empty is test = nil_from_length rest (grind (arith, nat_tests))

not_done : (reading : Reading) → reading.root ≡ None → ¬ (IsDone (state_of reading))
not_done reading is is_done = rw is at is_done

pub returns-clause-halts : goal.returns-clause-halts
returns-clause-halts c =
    unfinished c.args.bytes.now c.loop-rest.rest.now (state_of c.loop-rest.reading)
    (nothing_left c.loop-rest.rest.now c.is_empty.result c.loop-rest-test.false c.is_empty.ensures) c.loop-rest.invariant.reached
    (not_done c.loop-rest.reading c.in-None.is)
