use Rattle.std.proofs.Common.{ℕ, Bool, is_some, sym, ap, subst, ◌∙◌, arith}
use Rattle.as4_disk.specs.Leaving.{FirstThen, Quiet}
use Rattle.as4_disk.proofs.RunLemmas.{quiet_then}
use Rattle.journal.specs.Faults.{IsCause}
use Rattle.journal.specs.Store.{picked_leaf}
use Rattle.msh_recovery.specs.Opens.{ReopensAs}
use Rattle.msh_recovery.specs.Unfit.{IsNoJournal}
use Rattle.msh_recovery.proofs.UnfitLemmas.{broken_no_journal}
use Rattle.msh_journal.proofs.OpeningLemmas.{no_journal_kept, opened_end, opening_run, settling_run}
use Rattle.msh_journal.proofs.RunLemmas.{told_before}
use Rattle.msh_journal.proofs.opening.open_end.Goals as goal

pub returns-in-Err-clause-failed_moment : goal.returns-in-Err-clause-failed_moment
returns-in-Err-clause-failed_moment g c b told =
    settling_run g.D.Disk c.args.disk c.in-Err.failed.1 (g.D.Disk.may_leave c.args.disk) b (c.in-Err.ensures.failed_moment b told)

pub bring_up-requires-clause-read : goal.bring_up-requires-clause-read
bring_up-requires-clause-read g c d told =
    let was = told_before (g.D.Disk.seen c.args.disk) (g.D.Disk.seen c.in-Ok.journal.disk) d c.in-Ok.ensures.tells told in
    (c.in-Ok.ensures.read was.0 was.1).0

pub bring_up-requires-clause-version : goal.bring_up-requires-clause-version
bring_up-requires-clause-version g c d told =
    let was = told_before (g.D.Disk.seen c.args.disk) (g.D.Disk.seen c.in-Ok.journal.disk) d c.in-Ok.ensures.tells told in
    c.in-Ok.ensures.new was.0 was.1 d told

pub returns-in-Ok-bring_up-clause-end : goal.returns-in-Ok-bring_up-clause-end
returns-in-Ok-bring_up-clause-end g c b told =
    let opened = c.in-Ok.ensures.read b told in
    let read = opened.0 in
    let d = read.settled.image in
    let keeps = opened.1 d read.settled.told in
    let up = c.in-Ok-bring_up.ensures.end read d read.settled.told in
    let found = opened_end g.D.Disk c.in-Ok.journal b d keeps read read.settled.told (c.in-Ok.ensures.new b told d read.settled.told) up.0 c.bring_up.new.core.end up.1 up.2 up.3 in
    (up.0, found.0, found.1, found.2)

pub returns-in-Ok-bring_up-clause-any_moment : goal.returns-in-Ok-bring_up-clause-any_moment
returns-in-Ok-bring_up-clause-any_moment g c b told =
    let opened = c.in-Ok.ensures.read b told in
    let read = opened.0 in
    let d = read.settled.image in
    opening_run g.D.Disk c.args.disk c.in-Ok.journal.disk c.bring_up.new.journal.disk (g.D.Disk.may_leave c.args.disk) b d (opened.1 d read.settled.told)
    (c.in-Ok.ensures.any_moment b told) (c.bring_up.ensures.any_moment read d read.settled.told)

pub returns-in-Err-bring_up-clause-failed_moment :
    goal.returns-in-Err-bring_up-clause-failed_moment
returns-in-Err-bring_up-clause-failed_moment g c b told =
    let opened = c.in-Ok.ensures.read b told in
    let read = opened.0 in
    let d = read.settled.image in
    let P : g.row.D.Denot → Type 0 = λ last. FirstThen g.D.Disk c.args.disk last (g.D.Disk.may_leave c.args.disk) (ReopensAs b) in
    subst P (sym c.into_disk.ensures)
    (opening_run g.D.Disk c.args.disk c.in-Ok.journal.disk c.bring_up.new.journal.disk (g.D.Disk.may_leave c.args.disk) b d (opened.1 d read.settled.told)
    (c.in-Ok.ensures.any_moment b told) (c.bring_up.ensures.any_moment read d read.settled.told))

pub returns-in-Err-clause-not_journal : goal.returns-in-Err-clause-not_journal
returns-in-Err-clause-not_journal g c at is b told =
    let found = c.in-Err.ensures.not_journal at is in
    let P : ℕ → Type 0 = λ n. IsNoJournal n (picked_leaf b) in
    subst P (sym found.0) (broken_no_journal (picked_leaf b) (found.1 b told))

pub returns-in-Err-bring_up-clause-not_journal : goal.returns-in-Err-bring_up-clause-not_journal
returns-in-Err-bring_up-clause-not_journal g c at is b told =
    let opened = c.in-Ok.ensures.read b told in
    let read = opened.0 in
    let d = read.settled.image in
    no_journal_kept at b d (opened.1 d read.settled.told) (c.in-Err-bring_up.ensures.not_journal at is read d read.settled.told)

pub returns-in-Err-bring_up-clause-untouched : goal.returns-in-Err-bring_up-clause-untouched
returns-in-Err-bring_up-clause-untouched g c at is b told =
    let wrong = returns-in-Err-bring_up-clause-not_journal g c at is b told in
    let read = (c.in-Ok.ensures.read b told).0 in
    let P : g.row.D.Denot → Type 0 = λ last. Quiet g.D.Disk c.args.disk last in
    subst P (sym c.into_disk.ensures)
    (quiet_then g.D.Disk c.args.disk c.in-Ok.journal.disk c.bring_up.new.journal.disk
    (c.in-Ok.ensures.quiet b told (λ new. omega (arith, new, wrong.0)))
    (c.in-Err-bring_up.ensures.untouched at is read.settled.image read.settled.told))

pub returns-in-Err-bring_up-clause-cause : goal.returns-in-Err-bring_up-clause-cause
returns-in-Err-bring_up-clause-cause g c =
    let count = g.D.Disk.fault_count in
    let now = count c.bring_up.new.journal.disk in
    let fault = c.in-Err-bring_up.fault in
    let P : ℕ → Type 0 = λ n. IsCause n now fault in
    let Q : g.row.D.Denot → Type 0 = λ d. IsCause (count c.args.disk) (count d) fault in
    subst Q (sym c.into_disk.ensures) (subst P c.in-Ok.ensures.fine c.in-Err-bring_up.ensures.counts.cause)

pub returns-in-Err-bring_up-clause-failed_tells : goal.returns-in-Err-bring_up-clause-failed_tells
returns-in-Err-bring_up-clause-failed_tells g c =
    let tells : g.row.D.Denot → Bool = λ d. is_some (g.D.Disk.seen d) in
    ap tells c.into_disk.ensures ∙ c.bring_up.ensures.counts.tells ∙ c.in-Ok.ensures.tells
