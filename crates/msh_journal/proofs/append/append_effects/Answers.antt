use Rattle.std.proofs.Common.{refl, arith}
use Rattle.std.proofs.lemmas.Result.{err_from_is_err_and}
use Rattle.exchange_model.specs.Apply.{applied}
use Rattle.msh_journal.proofs.AddingLemmas.{added_held, added_kept, added_run}
use Rattle.msh_journal.proofs.append.append_effects.Goals as goal

pub returns-in_err-gate-clause-any_moment : goal.returns-in_err-gate-clause-any_moment
returns-in_err-gate-clause-any_moment g c end next is leads =
    added_run g.D.Disk c.args.journal.now c.append.new.self c.args.frame.now end next c.append.ensures.any_moment is leads

pub returns-clause-any_moment : goal.returns-clause-any_moment
returns-clause-any_moment g c end next is leads =
    added_run g.D.Disk c.args.journal.now c.append.new.self c.args.frame.now end next c.append.ensures.any_moment is leads

pub returns-in_err-gate-clause-calls : goal.returns-in_err-gate-clause-calls
returns-in_err-gate-clause-calls g c =
    let ready = c.requires.ready in
    let failed = err_from_is_err_and c.from_residual.result c.from_residual.ensures.1 in
    rw failed.1 (c.in_err-gate.ensures.calls (omega (arith, ready.1.size, ready.2)))

pub returns-clause-kept : goal.returns-clause-kept
returns-clause-kept g c end next is leads =
    added_kept g.D.Disk c.args.journal.now c.append.new.self c.args.frame.now end next
    c.in_ok-gate.ensures.settled c.append.ensures.kept c.in_ok-gate.ensures.grows c.append.ensures.counts.tells is leads

pub returns-clause-held : goal.returns-clause-held
returns-clause-held g c end places effects has is fit =
    added_held g.D.Disk c.args.journal.now c.append.new.self c.args.frame.now end (applied effects end)
    c.in_ok-gate.ensures.settled c.append.ensures.kept c.in_ok-gate.ensures.grows c.append.ensures.counts.tells _ places _ c.in_ok-gate.ensures.gate has
    (record { effects = effects; is = is; fit = fit; end_is = refl; places_are = refl })
