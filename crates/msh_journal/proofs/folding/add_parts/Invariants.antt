use Rattle.std.proofs.Common.{◌≡◌, ℕ, ◌-◌, ◌<◌, ◌^◌, List, [], is_some, take}
use Rattle.as4_disk.specs.Leaving.{LeavesOnly}
use Rattle.as4_effects.specs.declared.effect.Effect.{Effect}
use Rattle.exchange_model.specs.Fold.{IsFolded}
use Rattle.journal.specs.State.{HasFold}
use Rattle.journal.specs.Store.{InVersion, OpensSettled}
use Rattle.msh_journal.specs.Adding.{HasAdded}
use Rattle.msh_journal.proofs.folding.add_parts.Given as goal

-- the parts before this one were added
abbrev pub invariant-parts : goal.invariant-parts
invariant-parts g l = record {
  added : (effects : List Effect) × IsFolded l.core.end effects × HasAdded g.D.Disk l.fn.journal l.journal (take l.part effects) l.gates.items;
  few : l.part < 2 ^ 32;
  run : (bodies : List (List ℕ)) → HasFold g.D.Disk l.fn.journal bodies [] → LeavesOnly g.D.Disk l.fn.journal.disk l.journal.disk (InVersion l.fn.journal.version (OpensSettled bodies));
  tells : is_some (g.D.Disk.seen l.journal.disk) ≡ is_some (g.D.Disk.seen l.fn.journal.disk);
  counted : g.D.Disk.fault_count l.journal.disk ≡ g.D.Disk.fault_count l.fn.journal.disk;
}

abbrev pub decreases-parts : goal.decreases-parts
decreases-parts g l = 2 ^ 32 - l.part
