use Rattle.std.proofs.Common.{◌≡◌, drop, inl, length, map, refl, sym, ap, subst, ◌∙◌, arith}
use Rattle.std.proofs.lemmas.List.{length-drop}
use Rattle.exchange_model.specs.Fold.{folded_size}
use Rattle.journal.specs.declared.journal.Journal.{Journal}
use Rattle.journal.specs.declared.version.Version.{Version}
use Rattle.msh_recovery.specs.Records.{alone}
use Rattle.msh_state.specs.Places.{IsMeasured}
use Rattle.payload_gates.proofs.FoldLemmas.{gates_counted}
use Rattle.payload_gates.proofs.OpenLemmas.{each_length}
use Rattle.msh_journal.specs.Payloads.{HoldsPayloads}
use Rattle.msh_journal.proofs.FoldingLemmas.{confirmed_within, dropped_of, dropped_run, dropped_with, finished_run, folded_journal}
use Rattle.msh_journal.proofs.RunLemmas.{told_before}
use Rattle.msh_journal.proofs.folding.write_fold.Goals as goal

pub returns-in_err-fold_start-clause-any_moment : goal.returns-in_err-fold_start-clause-any_moment
returns-in_err-fold_start-clause-any_moment g c bodies size has folded = inl (c.fold_start.ensures.any_moment bodies has)

pub add_parts-requires-clause-held : goal.add_parts-requires-clause-held
add_parts-requires-clause-held g c b told =
    let old = c.args.journal.now in
    let started = c.fold_start.new.self in
    let was = told_before (g.D.Disk.seen old.disk) (g.D.Disk.seen started.disk) b c.fold_start.ensures.counts.tells told in
    let had = c.requires.held was.0 was.1 in
    let P : Version → Type 0 = λ v. HoldsPayloads v had.0 c.args.core.now.end c.args.core.now.places in
    (had.0, c.in_ok-fold_start.ensures.open had.0 had.1, subst P (sym c.fold_start.ensures.same.1) had.2)

pub add_parts-requires-clause-sound : goal.add_parts-requires-clause-sound
add_parts-requires-clause-sound g c = confirmed_within c.args.core.now.end c.folded_size.ensures.reached

pub fold_finish-requires-clause-settled : goal.fold_finish-requires-clause-settled
fold_finish-requires-clause-settled g c b told =
    let old = c.args.journal.now in
    let added = c.add_parts.new.journal in
    let was = told_before (g.D.Disk.seen old.disk) (g.D.Disk.seen added.disk) b (c.add_parts.ensures.counts.tells ∙ c.fold_start.ensures.counts.tells) told in
    let had = c.requires.held was.0 was.1 in
    let parts = c.in-Ok-Done.ensures.added c.in-Ok-Done.field-0-is in
    (had.0, map alone parts.0, (parts.2.added had.0 (c.in_ok-fold_start.ensures.open had.0 had.1)).1)

pub returns-in_err-fold_finish-in-Ok-Done-clause-any_moment :
    goal.returns-in_err-fold_finish-in-Ok-Done-clause-any_moment
returns-in_err-fold_finish-in-Ok-Done-clause-any_moment g c bodies size has folded =
    let parts = c.in-Ok-Done.ensures.added c.in-Ok-Done.field-0-is in
    let open_fold = c.in_ok-fold_start.ensures.open bodies has in
    let all = parts.2.added bodies open_fold in
    finished_run g.D.Disk c.args.journal.now c.fold_start.new.self c.add_parts.new.journal bodies (c.fold_start.ensures.any_moment bodies has) (c.add_parts.ensures.any_moment bodies open_fold)
    c.fold_start.ensures.same.1 c.args.core.now.end size c.fold_finish.new.self.disk parts.0 parts.2.version c.folded_size.ensures.reached parts.1 all.0 folded
    (c.fold_finish.ensures.any_moment bodies (map alone parts.0) all.1)

pub returns-in_ok-fold_finish-in-Ok-Done-clause-any_moment :
    goal.returns-in_ok-fold_finish-in-Ok-Done-clause-any_moment
returns-in_ok-fold_finish-in-Ok-Done-clause-any_moment g c bodies size has folded =
    let parts = c.in-Ok-Done.ensures.added c.in-Ok-Done.field-0-is in
    let open_fold = c.in_ok-fold_start.ensures.open bodies has in
    let all = parts.2.added bodies open_fold in
    finished_run g.D.Disk c.args.journal.now c.fold_start.new.self c.add_parts.new.journal bodies (c.fold_start.ensures.any_moment bodies has) (c.add_parts.ensures.any_moment bodies open_fold)
    c.fold_start.ensures.same.1 c.args.core.now.end size c.fold_finish.new.self.disk parts.0 parts.2.version c.folded_size.ensures.reached parts.1 all.0 folded
    (c.fold_finish.ensures.any_moment bodies (map alone parts.0) all.1)

pub returns-in_ok-fold_finish-in-Ok-Done-clause-kept : goal.returns-in_ok-fold_finish-in-Ok-Done-clause-kept
returns-in_ok-fold_finish-in-Ok-Done-clause-kept g c done =
    let old = c.args.journal.now in
    let core = c.args.core.now in
    let parts = c.in-Ok-Done.ensures.added c.in-Ok-Done.field-0-is in
    let finish = c.in_ok-fold_finish-in-Ok-Done.ensures in
    let long : length core.places ≡ length core.end.inbox = each_length IsMeasured core.end.confirmed core.places core.end.inbox c.folded_size.ensures.measured in (
      folded_size parts.0,
      (parts.0, parts.1, refl),
      folded_journal g.D.Disk old c.fold_start.new.self c.add_parts.new.journal c.fold_finish.new.self core.end parts.0 c.add_parts.new.gates.items c.folded_size.ensures.reached parts.1 parts.2
          c.in_ok-fold_start.ensures.open finish.folded finish.version finish.closed finish.gate (c.fold_finish.ensures.counts.tells ∙ c.add_parts.ensures.counts.tells ∙ c.fold_start.ensures.counts.tells)
          core.places long c.requires.held,
    )

pub returns-in_ok-fold_finish-in-Ok-Done-clause-counted : goal.returns-in_ok-fold_finish-in-Ok-Done-clause-counted
returns-in_ok-fold_finish-in-Ok-Done-clause-counted g c done =
    let core = c.args.core.now in
    let parts = c.in-Ok-Done.ensures.added c.in-Ok-Done.field-0-is in
    let long : length core.places ≡ length core.end.inbox = each_length IsMeasured core.end.confirmed core.places core.end.inbox c.folded_size.ensures.measured in
    let count : length c.add_parts.new.gates.items ≡ length (drop core.end.confirmed core.end.inbox) = gates_counted _ core.end parts.0 c.add_parts.new.gates.items parts.1 parts.2.noted in
    (omega (arith, count, length-drop core.end.confirmed core.end.inbox, confirmed_within core.end c.folded_size.ensures.reached), long)

pub returns-in-Err-clause-any_moment : goal.returns-in-Err-clause-any_moment
returns-in-Err-clause-any_moment g c bodies size has folded =
    let added = c.add_parts.new.journal in
    let dropped = c.fold_drop-in-Err.new.self in
    let same : dropped.disk ≡ added.disk = ap (λ (j : Journal g.row.D.Denot). j.disk) {x = dropped} {y = record added { fold = dropped.fold; fold_in_range = dropped.fold_in_range }} c.fold_drop-in-Err.ensures.same in
    dropped_run g.D.Disk c.args.journal.now c.fold_start.new.self added bodies
    (c.fold_start.ensures.any_moment bodies has) (c.add_parts.ensures.any_moment bodies (c.in_ok-fold_start.ensures.open bodies has)) c.fold_start.ensures.same.1 c.args.core.now.end size dropped.disk same

-- the fold was dropped, and the journal's records are as they were
pub returns-in-Err-clause-starved : goal.returns-in-Err-clause-starved
returns-in-Err-clause-starved g c starved =
    let drops = c.fold_drop-in-Err.ensures in
    dropped_of g.D.Disk c.args.journal.now c.fold_start.new.self c.add_parts.new.journal c.fold_drop-in-Err.new.self c.fold_start.ensures.same (c.in-Err.ensures.starved starved) drops.same drops.closed
    (c.add_parts.ensures.counts.tells ∙ c.fold_start.ensures.counts.tells) c.in_ok-fold_start.ensures.open drops.records

pub returns-in-Err-clause-starved_held : goal.returns-in-Err-clause-starved_held
returns-in-Err-clause-starved_held g c starved =
    let drops = c.fold_drop-in-Err.ensures in
    dropped_with g.D.Disk c.args.journal.now c.fold_start.new.self c.add_parts.new.journal c.fold_drop-in-Err.new.self c.fold_start.ensures.same (c.in-Err.ensures.starved starved) drops.same drops.closed
    (c.add_parts.ensures.counts.tells ∙ c.fold_start.ensures.counts.tells) c.in_ok-fold_start.ensures.open drops.records
