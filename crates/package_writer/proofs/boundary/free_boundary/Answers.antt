use Rattle.std.proofs.Common.{arith, sym, ◌∙◌, subst}
use Rattle.std.specs.List.Sorted.{IsPermutation}
use Rattle.package_writer.specs.Numbers.{IsLeastWithout}
use Rattle.package_writer.proofs.BoundaryLemmas.{least_is_boundary}
use Rattle.package_writer.proofs.boundary.free_boundary.Goals as goal

pub returns : goal.returns
returns c =
    least_is_boundary c.args.root.now c.args.payloads.now c.sort_unstable.new.self.items c.least_without.result c.least_without.type_inv
    (rw (← c.items.ensures, ← c.in_ok-numbers.ensures) c.sort_unstable.ensures.permutation) (rw (← c.as_slice.ensures.value) c.least_without.ensures)
