use Rattle.std.proofs.Common.{arith, subst, List, ◌∷◌}
use Rattle.as4_audit.specs.Made.{IsMade}
use Rattle.as4_audit.proofs.KindLemmas.{long_receipt, other_receipt, single}
use Rattle.as4_effects.specs.declared.effect.Effect.{Effect}
use Rattle.as4_effects.specs.declared.effect.Effect.TheVariants as effect
use Rattle.as4_audit.proofs.made.event_of_receipt.Goals as goal

pub returns-then-rest-gt1 : goal.returns-then-rest-gt1
returns-then-rest-gt1 c =
    long_receipt c.args.core.now.modes c.args.core.now.end c.args.number c.args.rest.now (let long = c.if-rest-gt1.true in omega (arith, long))

pub returns-in_default : goal.returns-in_default
returns-in_default c made =
    other_receipt c.args.core.now.modes c.args.core.now.end c.args.number c.index-rest-0.result c.in_default.not-Tried
    (subst (λ (es : List Effect). IsMade c.args.core.now.modes c.args.core.now.end (effect.Receipted c.args.number ∷ es))
    (single c.args.rest.now c.index-rest-0.result c.requires.some c.if-rest-gt1.false c.index-rest-0.is) made)
