use Rattle.std.proofs.Common.{refl, sym, ap, subst, ◌∙◌}
use Rattle.as4_audit.specs.Made.{loads_of}
use Rattle.as4_audit.proofs.SubmitLemmas.{no_mode, no_stamp, submit_makes}
use Rattle.as4_values.specs.Moment.{IsStampOf}
use Rattle.as4_audit.proofs.own.submission_of.Goals as goal

pub returns-in_default : goal.returns-in_default
returns-in_default c end = no_mode c.args.modes.now end c.args.submission.now c.in_default.ensures.value

pub returns-in_default-stamp_ms : goal.returns-in_default-stamp_ms
returns-in_default-stamp_ms c end = no_stamp c.args.modes.now end c.args.submission.now (c.in_default-stamp_ms.ensures.none refl)

pub returns-in-Ok-Ok-Ok : goal.returns-in-Ok-Ok-Ok
returns-in-Ok-Ok-Ok c end made =
    let is = c.in-Ok-Ok-Ok in
    submit_makes c.args.modes.now end c.args.submission.now c.in-Some.mode.now c.event_at.result c.get-apart.ensures.kept c.in-Some.ensures.value
    (c.event_at.ensures.what ∙ rw (is.ensures, is.ensures', is.ensures'' ∙ ap loads_of c.items.ensures) refl)
    (subst (λ n. IsStampOf n c.args.submission.now.header.stamp) (sym c.event_at.ensures.stamp) c.in-Some-stamp_ms.ensures.some.0)
    (c.event_at.ensures.nonce ∙ c.in_ok-nonce.ensures) made
