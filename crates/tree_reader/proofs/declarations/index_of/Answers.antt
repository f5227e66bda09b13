use Rattle.std.proofs.Common.{◌≡◌, ◌+◌, ◌-◌, arith}
use Rattle.tree_reader.proofs.DeclarationLemmas.{index_more}
use Rattle.tree_reader.proofs.declarations.index_of.Goals as goal

pub loop-at-preserved : goal.loop-at-preserved
loop-at-preserved c =
    let at_is : c.loop-at.at - 1 + 1 ≡ c.loop-at.at = omega arith in
    record {
      within = omega arith;
      indexed = index_more c.loop-at.index c.insert.new.self c.args.list.now (c.loop-at.at - 1) c.index-list-at.result (omega arith) c.index-list-at.is c.in_ok-insert.ensures.updates.0 (rw at_is c.loop-at.invariant.indexed);
    }
