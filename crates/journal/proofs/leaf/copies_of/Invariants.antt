use Rattle.std.proofs.Common.{◌≡◌, map, take}
use Rattle.journal.proofs.leaf.copies_of.Given as goal

abbrev pub invariant-loop-body : goal.invariant-loop-body
invariant-loop-body l = l.copies.items ≡ map (λ body. body.now) (take l.body-index l.bodies)
