use Rattle.std.proofs.Common.{◌≡◌, [], ◌∷◌, ◌++◌}
use Rattle.std.proofs.lemmas.Grind.{common_steps}
use Rattle.std.proofs.Common.{arith}
use Rattle.as4_disk.proofs.MemoryLemmas.{held_after}
use Rattle.as4_disk.proofs.memory.MemoryDisk.make.Goals as goal

pub invariant_of-self-2 : goal.invariant_of-self-2
invariant_of-self-2 c =
    let pushed : c.push.new.self.items ≡ c.self.inside.changes.items ++ c.args.change ∷ [] = grind (arith, common_steps) in
    held_after c.self.inside.first _ c.self.inside.files _ _ _ c.args.change c.self.invariant.0 c.in_ok-keep.ensures.kept c.keep.ensures.same c.in_ok-apply.ensures.ok pushed
