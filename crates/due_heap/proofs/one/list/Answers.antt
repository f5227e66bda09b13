use Rattle.std.proofs.Common.{ap, arith}
use Rattle.due_heap.specs.Keeping.{slot_at}
use Rattle.due_heap.proofs.PlaceLemmas.{grown}
use Rattle.due_heap.proofs.one.list.Goals as goal

pub returns-in_err-resize-clause-same : goal.returns-in_err-resize-clause-same
returns-in_err-resize-clause-same c = λ n. ap (slot_at n) c.in_err-resize.ensures.items

pub returns-clause-same : goal.returns-clause-same
returns-clause-same c = grown c.args.slots.now.items c.resize.new.self.items c.max-len.result _ (omega arith) c.in_ok-resize.ensures.items
