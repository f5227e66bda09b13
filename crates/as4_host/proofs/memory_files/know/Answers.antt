use Rattle.std.proofs.Common.{◌≤◌, [], None, length, arith}
use Rattle.std.proofs.lemmas.List.{take_all}
use Rattle.as4_host.specs.Rows.{value_at}
use Rattle.as4_host.proofs.RowLemmas.{gets_as, gets_then}
use Rattle.as4_host.proofs.KnownLemmas.{known_more}
use Rattle.as4_host.proofs.memory_files.know.Goals as goal

pub loop-name-preserved : goal.loop-name-preserved
loop-name-preserved c =
    let files = c.loop-name.files.items in
    let later = c.add.new.rows.items in
    let doors = c.loop-name.doors.items in
    let after = c.add-in-loop-name.new.rows.items in
    let gets_door = gets_as c.new.result [] (value_at doors) (value_at after) c.new.ensures c.add-in-loop-name.ensures.rows in
    record {
      known = known_more c.args.names.now c.loop-name.name-index c.name-item.result files later doors after
          c.loop-name-test.true c.name-item.is c.loop-name.invariant.known c.add.ensures.rows gets_door
          (rw c.bytes.ensures at c.in_ok-add.ensures.ok) (rw c.bytes-in-loop-name.ensures at c.in_ok-add-2.ensures.ok);
      files = gets_then None _ _ _ c.loop-name.invariant.files c.add.ensures.rows;
      doors = gets_then [] _ _ _ c.loop-name.invariant.doors gets_door;
    }

pub returns-clause-known : goal.returns-clause-known
returns-clause-known c =
    let end : length c.args.names.now ≤ c.loop-name.name-index = omega (arith, c.loop-name-test.false) in
    rw (take_all c.loop-name.name-index c.args.names.now end) at c.loop-name.invariant.known
