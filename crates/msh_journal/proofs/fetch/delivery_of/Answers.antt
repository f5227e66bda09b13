use Rattle.std.proofs.Common.{◌≡◌, List, sym, ap, ◌∙◌}
use Rattle.as4_effects.specs.declared.effect.Effect.{Effect}
use Rattle.payload_gates.specs.Gates.{delivery_in}
use Rattle.msh_journal.proofs.fetch.delivery_of.Goals as goal

pub returns-in-Ok : goal.returns-in-Ok
returns-in-Ok c effects is =
    let read = c.in-Ok.ensures in
    let same : c.in-Ok.effects ≡ effects =
    c.one_body.ensures c.in-Ok.effects effects read.found.2 is.counted read.spelled is.spelled (sym read.found.0 ∙ is.bytes) in
    c.first_delivery.ensures ∙ ap (λ (l : List Effect). delivery_in c.args.id.now l) same
