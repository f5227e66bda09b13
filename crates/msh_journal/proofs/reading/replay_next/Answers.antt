use Rattle.std.proofs.Common.{◌≡◌, ◌+◌, ◌<◌, List, ℕ, length, ap, subst, sym, arith}
use Rattle.std.proofs.lemmas.Result.{err_from_is_err_and}
use Rattle.exchange_model.specs.End.{End}
use Rattle.journal.specs.Leaf.{limit_of, width_of}
use Rattle.msh_recovery.specs.Records.{RecordLeads}
use Rattle.msh_recovery.proofs.UnfitLemmas.{unfit_no_journal}
use Rattle.msh_journal.proofs.ReadingLemmas.{cut_next, room_led, unfit_next}
use Rattle.msh_journal.proofs.reading.replay_next.Goals as goal

pub returns-in_err-gate-clause-not_journal : goal.returns-in_err-gate-clause-not_journal
returns-in_err-gate-clause-not_journal g c =
    let p = err_from_is_err_and c.from_residual.result c.from_residual.ensures.1 in
    rw (p.1, p.2) (λ at is bodies has leads b told.
    let found = c.in_err-gate.ensures.not_journal at is in
    cut_next g.D.Disk c.args.journal.now bodies at c.args.core.now.end b has found.0 told leads (found.1 bodies has b told))

pub replay-led-requires : goal.replay-led-requires
replay-led-requires g c =
    let led = c.requires.led in
    let journal = c.args.journal.now in
    let grows = rw c.in-Some.is at c.in_ok-gate.ensures.grows in
    let within : journal.gate + (1 + width_of journal.version + length c.in-Some.body) < limit_of journal.version = omega (arith, grows.0, grows.1) in
    let room = room_led journal.version led.0 c.args.core.now.end journal.gate (length c.in-Some.body) led.1 led.2 within in
    record { room = omega (arith, room, ap length c.bytes.ensures) }

pub returns-in-Ok-false-clause-not_journal : goal.returns-in-Ok-false-clause-not_journal
returns-in-Ok-false-clause-not_journal g c at is bodies has leads b told =
    let old = c.args.journal.now in
    let new = c.next_record.new.self in
    let body = c.in-Some.body in
    let next = rw c.in-Some.is at c.in_ok-gate.ensures.«record» in
    let place = rw c.in-Some.is at c.in_ok-gate.ensures.place in
    let same = rw c.in-Some.is at c.in_ok-gate.ensures.same in
    let here : at ≡ old.gate = cc (place) in
    let none = c.in-Ok-false.ensures.unfit c.in-Ok-false.field-0-test in
    let P : End → List ℕ → Type 0 = λ after l. RecordLeads l c.args.core.now.end after in
    unfit_no_journal at _ (unfit_next g.D.Disk old new bodies body at c.args.core.now.end b has (next bodies has) c.next_record.ensures.kept.0 here same told leads
    (λ after more. none after (subst (P after) (sym c.bytes.ensures) more)))
