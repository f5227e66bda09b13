use Rattle.msh_journal.proofs.FoldingLemmas.{fold_then, read_fold}
use Rattle.msh_journal.proofs.OpenEntryLemmas.{open_added, read_and_kept}
use Rattle.msh_journal.proofs.folding.add_open.Goals as goal

pub returns-in_err-frame-clause-any_moment : goal.returns-in_err-frame-clause-any_moment
returns-in_err-frame-clause-any_moment g c =
    read_fold g.D.Disk c.args.journal.now c.fetch_frame.new.journal c.fetch_frame.ensures.stays.quiet

pub returns-in_default-clause-any_moment : goal.returns-in_default-clause-any_moment
returns-in_default-clause-any_moment g c =
    read_fold g.D.Disk c.args.journal.now c.fetch_frame.new.journal c.fetch_frame.ensures.stays.quiet

pub returns-in_default-clause-lost : goal.returns-in_default-clause-lost
returns-in_default-clause-lost g c is = c.in_ok-frame.ensures.none c.in_default.is

pub returns-in_err-added-clause-any_moment : goal.returns-in_err-added-clause-any_moment
returns-in_err-added-clause-any_moment g c =
    let old = c.args.journal.now in
    let mid = c.fetch_frame.new.journal in
    let stays = c.fetch_frame.ensures.stays in
    fold_then g.D.Disk old mid c.fold_add-added.new.self stays.version stays.folds (read_fold g.D.Disk old mid stays.quiet) c.fold_add-added.ensures.any_moment

pub returns-in-Ok-clause-any_moment : goal.returns-in-Ok-clause-any_moment
returns-in-Ok-clause-any_moment g c =
    let old = c.args.journal.now in
    let mid = c.fetch_frame.new.journal in
    let stays = c.fetch_frame.ensures.stays in
    fold_then g.D.Disk old mid c.fold_add-added.new.self stays.version stays.folds (read_fold g.D.Disk old mid stays.quiet) c.fold_add-added.ensures.any_moment

pub returns-in-Err-clause-any_moment : goal.returns-in-Err-clause-any_moment
returns-in-Err-clause-any_moment g c =
    let old = c.args.journal.now in
    let mid = c.fetch_frame.new.journal in
    let stays = c.fetch_frame.ensures.stays in
    fold_then g.D.Disk old mid c.fold_add-added.new.self stays.version stays.folds (read_fold g.D.Disk old mid stays.quiet) c.fold_add-added.ensures.any_moment

pub returns-in-Ok-clause-kept : goal.returns-in-Ok-clause-kept
returns-in-Ok-clause-kept g c =
    read_and_kept g.D.Disk c.args.journal.now c.fetch_frame.new.journal c.fold_add-added.new.self c.fetch_frame.ensures.stays
    c.fold_add-added.ensures.same c.in-Some.frame c.in_ok-added.ensures.added

pub returns-in-Err-clause-starved : goal.returns-in-Err-clause-starved
returns-in-Err-clause-starved g c starved =
    read_and_kept g.D.Disk c.args.journal.now c.fetch_frame.new.journal c.fold_add-added.new.self c.fetch_frame.ensures.stays
    c.fold_add-added.ensures.same c.in-Some.frame c.in_ok-added.ensures.added

pub returns-in-Ok-clause-added : goal.returns-in-Ok-clause-added
returns-in-Ok-clause-added g c is end places part e is_open held =
    let long = rw c.in-Some.is at c.in_ok-frame.ensures.len in
    let frame_is = rw c.in-Some.is at c.in_ok-frame.ensures.frame in
    open_added g.D.Disk c.args.journal.now c.fetch_frame.new.journal c.fold_add-added.new.self c.fetch_frame.ensures.stays
    c.fold_add-added.ensures.same c.in-Some.frame c.in_ok-added.ensures.added end places part e c.args.id.now c.args.gate c.args.len is_open held long
    (frame_is end places part e is_open held) c.in_ok-added.field-0 c.in_ok-added.ensures.gate c.in_ok-added.ensures.place c.args.gates.now.items c.push.new.self.items c.in-Ok.ensures.items
