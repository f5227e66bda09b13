use Rattle.std.proofs.Common.{ap, ◌∷◌, []}
use Rattle.as4_audit.proofs.KindLemmas.{no_carried, no_kept, refused_candidate}
use Rattle.as4_effects.specs.declared.effect.Effect.{Effect}
use Rattle.as4_audit.proofs.made.event_of_one.Goals as goal

pub returns-in-Carried : goal.returns-in-Carried
returns-in-Carried c = no_carried c.args.modes.now c.args.core.now.end c.args.effect.now c.in-Carried.field-0 c.in-Carried.is

pub returns-in-Kept : goal.returns-in-Kept
returns-in-Kept c = no_kept c.args.modes.now c.args.core.now.end c.args.effect.now c.in-Kept.field-0 c.in-Kept.is

pub returns-in_ok-found-in-Refused : goal.returns-in_ok-found-in-Refused
returns-in_ok-found-in-Refused c =
    let candidate = rw (c.from_ref.ensures.value, c.requires.same) at c.in_ok-found-in-Refused.ensures in
    refused_candidate c.args.modes.now c.args.core.now.end (c.args.effect.now ∷ []) [] c.in-Refused.number c.in-Refused.code
    c.in_ok-found-in-Refused.found (ap (λ (e : Effect). e ∷ []) c.in-Refused.is) candidate
