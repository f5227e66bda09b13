use Rattle.std.proofs.Common.{List, ◌∙◌, ap}
use Rattle.std.specs.Prelude.{is_some}
use Rattle.as4_disk.specs.Files.{image_of}
use Rattle.as4_disk.specs.declared.change.Change.{Change}
use Rattle.as4_disk.specs.Picks.{pick_by}
use Rattle.as4_disk.proofs.CrashLemmas.{picked_first, picked_new, picked_changes, picked_may, only_reads}
use Rattle.as4_disk.proofs.memory.MemoryDisk.crash.Goals as goal

pub returns-in_default-clause-image : goal.returns-in_default-clause-image
returns-in_default-clause-image c q =
    c.of.ensures.read q
    ∙ picked_first c.args.self c.self.inside.first c.self.inside.files c.self.inside.changes.items (ap (λ disk. disk.first) c.self.view_is) (ap (λ disk. disk.changes) c.self.view_is) c.args.pick c.in_default.is (c.self.invariant.1 (ap is_some c.in_default.is)) q

pub returns-in_default-clause-left : goal.returns-in_default-clause-left
returns-in_default-clause-left c = picked_may c.args.pick c.args.self c.of.result (returns-in_default-clause-image c)

pub returns-in-New-clause-image : goal.returns-in-New-clause-image
returns-in-New-clause-image c q =
    c.of-in-New.ensures.read q
    ∙ picked_new c.args.self c.self.inside.first c.self.inside.files c.self.inside.changes.items (ap (λ disk. disk.first) c.self.view_is) (ap (λ disk. disk.changes) c.self.view_is) c.args.pick c.in-New.is c.self.invariant.0 q

pub returns-in-New-clause-left : goal.returns-in-New-clause-left
returns-in-New-clause-left c = picked_may c.args.pick c.args.self c.of-in-New.result (returns-in-New-clause-image c)

pub returns-clause-image : goal.returns-clause-image
returns-clause-image c q =
    c.of-2.ensures.read q
    ∙ c.in_ok-files.ensures q
    ∙ ap (λ (changes : List Change). pick_by c.args.pick q changes (image_of c.in-Some.first q) (image_of c.in-Some.first q)) c.deref.ensures.value
    ∙ picked_changes c.args.self c.self.inside.first c.self.inside.files c.self.inside.changes.items (ap (λ disk. disk.first) c.self.view_is) (ap (λ disk. disk.changes) c.self.view_is) c.args.pick c.in-Some.first c.in-Some.is q

pub returns-clause-left : goal.returns-clause-left
returns-clause-left c = picked_may c.args.pick c.args.self c.of-2.result (returns-clause-image c)

pub returns-in_default-clause-only : goal.returns-in_default-clause-only
returns-in_default-clause-only c = only_reads c.of.result c.self.inside.files c.of.ensures.read c.of.ensures.only

pub returns-in-New-clause-only : goal.returns-in-New-clause-only
returns-in-New-clause-only c = only_reads c.of-in-New.result c.self.inside.files c.of-in-New.ensures.read c.of-in-New.ensures.only

pub returns-clause-only : goal.returns-clause-only
returns-clause-only c = only_reads c.of-2.result c.in_ok-files.files c.of-2.ensures.read c.of-2.ensures.only
