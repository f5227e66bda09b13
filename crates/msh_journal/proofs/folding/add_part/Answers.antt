use Rattle.std.proofs.lemmas.Result.{IfOk-weaker}
use Rattle.payload_gates.proofs.FoldLemmas.{told_apart}
use Rattle.msh_journal.proofs.FoldingLemmas.{still_fold}
use Rattle.msh_journal.proofs.OpenEntryLemmas.{shown_some}
use Rattle.msh_journal.proofs.folding.add_part.Goals as goal

pub returns-in-Ok-None-clause-any_moment : goal.returns-in-Ok-None-clause-any_moment
returns-in-Ok-None-clause-any_moment g c bodies folded has =
    still_fold g.D.Disk g.met.D.Disk.only_now c.args.journal.now bodies folded has

pub returns-in-Err-clause-any_moment : goal.returns-in-Err-clause-any_moment
returns-in-Err-clause-any_moment g c bodies folded has =
    still_fold g.D.Disk g.met.D.Disk.only_now c.args.journal.now bodies folded has

pub add_folding-requires : goal.add_folding-requires
add_folding-requires g c =
    let core = c.args.core.now in
    let fold = c.in-Ok-Some.ensures in
    let shown = shown_some core.end core.places c.args.part c.in-Ok-Some.folding _ (rw c.in-Ok-Some.field-0-is at fold.2) in
    record { shown = (core.end, core.places, c.args.part, shown.0, shown.2, c.requires.held, c.requires.room fold.0 shown.0 fold.1 shown.1) }

pub returns-in-Ok-Some-clause-added : goal.returns-in-Ok-Some-clause-added
returns-in-Ok-Some-clause-added g c =
    let core = c.args.core.now in
    let fold = c.in-Ok-Some.ensures in
    let shown = shown_some core.end core.places c.args.part c.in-Ok-Some.folding _ (rw c.in-Ok-Some.field-0-is at fold.2) in
    IfOk-weaker c.add_folding.result _ _
    (λ more adds is.
    (fold.0, shown.0, fold.1, shown.1, adds is core.end core.places c.args.part shown.0 shown.2 (told_apart core.end fold.0 c.args.part shown.0 fold.1 c.requires.sound shown.1) c.requires.held))
    c.add_folding.ensures.added

pub returns-in-Ok-Some-clause-lost : goal.returns-in-Ok-Some-clause-lost
returns-in-Ok-Some-clause-lost g c =
    let core = c.args.core.now in
    let fold = c.in-Ok-Some.ensures in
    let shown = shown_some core.end core.places c.args.part c.in-Ok-Some.folding _ (rw c.in-Ok-Some.field-0-is at fold.2) in
    IfOk-weaker c.add_folding.result _ _
    (λ more lost gate is. lost gate is core.end core.places c.args.part shown.0 shown.2 c.requires.held)
    c.add_folding.ensures.lost
