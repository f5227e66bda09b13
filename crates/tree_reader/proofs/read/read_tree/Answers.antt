use Rattle.std.proofs.Common.{◌≡◌, ◌+◌, ◌-◌, ◌≤◌, length, arith}
use Rattle.tree_reader.specs.Documents.{behind_mark}
use Rattle.tree_reader.proofs.HaltLemmas.{document_read, one_tree, halt_only, halt_place, length-behind_mark}
use Rattle.tree_reader.proofs.read.read_tree.Goals as goal

pub refusal-requires : goal.refusal-requires
refusal-requires c =
    let left : c.in-Err.halt.left ≤ length (behind_mark c.args.bytes.now) = rw c.behind_mark.ensures at c.in-Err.ensures.within in
    omega (arith, length-behind_mark c.args.bytes.now)

pub returns-in-Ok-clause-ok : goal.returns-in-Ok-clause-ok
returns-in-Ok-clause-ok c = document_read c.args.bytes.now c.in-Ok.tree (omega arith) (rw c.behind_mark.ensures at c.in-Ok.ensures.halts)

pub returns-in-Ok-clause-only : goal.returns-in-Ok-clause-only
returns-in-Ok-clause-only c = λ tree document. one_tree c.args.bytes.now c.in-Ok.tree tree (rw c.behind_mark.ensures at c.in-Ok.ensures.halts) document

pub returns-in-Err-clause-only : goal.returns-in-Err-clause-only
returns-in-Err-clause-only c = λ tree document.
    rw c.refusal.ensures (halt_only c.args.bytes.now c.in-Err.halt.stop c.in-Err.halt.left _ tree (rw c.behind_mark.ensures at c.in-Err.ensures.halts) document)

pub returns-in-Err-clause-place : goal.returns-in-Err-clause-place
returns-in-Err-clause-place c =
    let left : c.in-Err.halt.left ≤ length (behind_mark c.args.bytes.now) = rw c.behind_mark.ensures at c.in-Err.ensures.within in
    let whole : (length c.args.bytes.now - c.in-Err.halt.left) + c.in-Err.halt.left ≡ length c.args.bytes.now = omega (arith, length-behind_mark c.args.bytes.now) in
    rw c.refusal.ensures (halt_place c.args.bytes.now c.in-Err.halt.stop c.in-Err.halt.left (length c.args.bytes.now - c.in-Err.halt.left) whole (rw c.behind_mark.ensures at c.in-Err.ensures.halts))
