use Rattle.std.proofs.Common.{List, [], ◌∷◌, ◌++◌, refl, sym, subst, ◌∙◌}
use Rattle.std.proofs.lemmas.Result.{err_from_is_err_and}
use Rattle.as4_disk.proofs.RunLemmas.{quiet_then}
use Rattle.exchange_model.specs.End.{End, empty_end}
use Rattle.inbox.specs.Spots.{Spot}
use Rattle.msh_journal.specs.Reading.{HasReplayed, ReadsOn}
use Rattle.msh_journal.proofs.ReadingLemmas.{read_none, read_on, run_on, still_run}
use Rattle.msh_journal.proofs.RunLemmas.{quiet_none}
use Rattle.msh_journal.proofs.reading.read_all.Goals as goal

pub records-init : goal.records-init
records-init g c =
    let first = c.args.journal.now in
    let P : End → List Spot → Type 0 = λ e places. HasReplayed g.D.Disk first first e places [] in
    record {
      replayed = (
        [],
        subst (λ (e : End). P e c.args.core.now.places) (sym c.requires.new.0) (subst (P empty_end) (sym c.requires.new.1) (read_none g.D.Disk first c.requires.new.2)),
      );
      modes = refl;
      run = λ has b told. still_run g.D.Disk g.met.D.Disk.only_now first b has told;
      quiet = quiet_none g.D.Disk g.met.D.Disk.only_now first.disk;
      counted = refl;
    }

pub returns-in_err-replay_next-clause-any_moment : goal.returns-in_err-replay_next-clause-any_moment
returns-in_err-replay_next-clause-any_moment g c =
    let so_far = c.records.invariant in
    run_on g.D.Disk c.args.journal.now c.records.journal c.replay_next.new.journal c.records.core.end c.records.core.places so_far.replayed.0 so_far.replayed.1 so_far.run c.replay_next.ensures.any_moment

pub returns-in_err-replay_next-clause-not_journal : goal.returns-in_err-replay_next-clause-not_journal
returns-in_err-replay_next-clause-not_journal g c =
    let p = err_from_is_err_and c.from_residual.result c.from_residual.ensures.1 in
    let so_far = c.records.invariant.replayed in
    rw (p.1, p.2) (λ at is has b told. c.in_err-replay_next.ensures.not_journal at is so_far.0 (so_far.1.read has) so_far.1.leads b (so_far.1.told ∙ told))

pub returns-in_err-replay_next-clause-untouched : goal.returns-in_err-replay_next-clause-untouched
returns-in_err-replay_next-clause-untouched g c =
    let p = err_from_is_err_and c.from_residual.result c.from_residual.ensures.1 in
    rw (p.1, p.2) (λ at is.
    quiet_then g.D.Disk c.args.journal.now.disk c.records.journal.disk c.replay_next.new.journal.disk c.records.invariant.quiet (c.in_err-replay_next.ensures.untouched at is))

pub returns-clause-any_moment : goal.returns-clause-any_moment
returns-clause-any_moment g c =
    let so_far = c.records.invariant in
    run_on g.D.Disk c.args.journal.now c.records.journal c.replay_next.new.journal c.records.core.end c.records.core.places so_far.replayed.0 so_far.replayed.1 so_far.run c.replay_next.ensures.any_moment

pub records-preserved : goal.records-preserved
records-preserved g c =
    let so_far = c.records.invariant in
    let bodies = so_far.replayed.0 in
    let on : ReadsOn g.D.Disk c.records.journal c.replay_next.new.journal c.records.core.end c.records.core.places c.replay_next.new.core.end c.replay_next.new.core.places = c.in_ok-replay_next.ensures.more c.if-branch.true in
    record {
      replayed = (
        bodies ++ on.body ∷ [],
        read_on g.D.Disk c.args.journal.now c.records.journal c.replay_next.new.journal c.records.core.end c.replay_next.new.core.end c.records.core.places c.replay_next.new.core.places bodies so_far.replayed.1 on,
      );
      modes = c.replay_next.ensures.modes ∙ so_far.modes;
      run = run_on g.D.Disk c.args.journal.now c.records.journal c.replay_next.new.journal c.records.core.end c.records.core.places bodies so_far.replayed.1 so_far.run c.replay_next.ensures.any_moment;
      quiet = quiet_then g.D.Disk c.args.journal.now.disk c.records.journal.disk c.replay_next.new.journal.disk so_far.quiet (c.in_ok-replay_next.ensures.quiet c.if-branch.true);
      counted = c.in_ok-replay_next.ensures.counts.cause ∙ so_far.counted;
    }
