use Rattle.package_writer.proofs.LeastLemmas.{SoFar}
use Rattle.package_writer.proofs.boundary.least_without.Given as goal

abbrev pub invariant-loop-number : goal.invariant-loop-number
invariant-loop-number l = SoFar l.numbers l.number-index l.least
