use Rattle.std.proofs.Common.{sym}
use Rattle.tree_reader.proofs.EndLemmas.{end_is}
use Rattle.tree_reader.proofs.ReadingLemmas.{stack_got}
use Rattle.tree_reader.proofs.reading.behind_end.Goals as goal

pub returns-clause-tag : goal.returns-clause-tag
returns-clause-tag c =
    let name_on = c.in_ok-name_on.ensures.cases in
    let rest = c.in_ok-rest.ensures.cases in
    let behind = c.in_ok-behind.ensures.cases in
    let last = rw c.deref.ensures.value at c.in_ok-open.ensures.value in
    rw (stack_got c.args.reading.now.open.items c.in_ok-open.open.now (sym last)) (end_is c.in_ok-open.open.now.name.now _ _ _ _ name_on.0 name_on.1 rest.0 rest.1 behind.0 behind.1)
