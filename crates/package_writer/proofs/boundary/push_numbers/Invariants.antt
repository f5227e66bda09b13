use Rattle.std.proofs.Common.{◌≡◌, ℕ, ◌++◌, length}
use Rattle.package_writer.specs.Numbers.{numbers_in}
use Rattle.package_writer.proofs.boundary.push_numbers.Given as goal

-- the numbers so far, and those of the rest
abbrev pub invariant-loop-at : goal.invariant-loop-at
invariant-loop-at l = l.fn.numbers.items ++ numbers_in l.bytes ≡ l.numbers.items ++ numbers_in l.rest

abbrev pub decreases-loop-at : goal.decreases-loop-at
decreases-loop-at l = length l.rest
