-- The record of one event is short: only the last of its effects may be long.
use Rattle.std.proofs.Common.{◌≡◌, ap, length-append, ◌+◌, ◌*◌, ◌≤◌, ◌^◌, List, [], ◌∷◌, length, arith}
use Rattle.std.specs.List.{sum_by}
use Rattle.std.proofs.lemmas.List.Sums.{sum_by-cons}
use Rattle.as4_effects.specs.Effects.{carried_limit, effects_body, most_bytes_of}
use Rattle.as4_effects.specs.declared.effect.Effect.{Effect}
use Rattle.as4_effects.specs.declared.effect.Effect.TheVariants as effect
use Rattle.as4_effects.proofs.LengthLemmas.{number_length}
use Rattle.as4_effects.specs.Bodies.{number_body}
use Rattle.msh_state.specs.Rooms.{TakesNoRoom}
use Rattle.msh_state.specs.Standing.{TakeOneRoom}
use Rattle.exchange_model.specs.Table.{Rests}
use Rattle.exchange_model.specs.declared.outcome.Outcome.{Outcome}
use Rattle.exchange_model.specs.declared.reply.Reply.{Reply}

small : (e : Effect) → TakesNoRoom e → most_bytes_of e ≤ 77
unfolding TakesNoRoom
small (effect.Submitted submission) none = absurd none
small (effect.Ticked tick) none = omega arith
small (effect.Tried number) none = absurd none
small (effect.Delivered delivery) none = absurd none
small (effect.Receipted number) none = omega arith
small (effect.Refused number code) none = omega arith
small (effect.Confirmed upto) none = omega arith
small (effect.Carried carried) none = absurd none
small (effect.Kept kept) none = absurd none

any : (e : Effect) → most_bytes_of e ≤ carried_limit
any (effect.Submitted submission) = omega arith
any (effect.Ticked tick) = omega arith
any (effect.Tried number) = omega arith
any (effect.Delivered delivery) = omega arith
any (effect.Receipted number) = omega arith
any (effect.Refused number code) = omega arith
any (effect.Confirmed upto) = omega arith
any (effect.Carried carried) = omega arith
any (effect.Kept kept) = omega arith

summed : (effects : List Effect) → TakeOneRoom effects → sum_by most_bytes_of effects ≤ carried_limit + 77 * length effects
summed [] one = omega arith
summed (e ∷ []) one = omega (arith, any e, sum_by-cons most_bytes_of e [])
summed (e ∷ f ∷ effects) one = omega (arith, small e one.0, summed (f ∷ effects) one.1, sum_by-cons most_bytes_of e (f ∷ effects))

pub short_body : (effects : List Effect) → TakeOneRoom effects → length effects ≤ 256 → length (effects_body effects) ≤ 2 + sum_by most_bytes_of effects
    → length (effects_body effects) ≤ 2 ^ 30
short_body effects one few most = omega (arith, few, most, summed effects one)

none : length (effects_body []) ≡ 2
unfolding effects_body
none = omega (arith, number_length 2 0, length-append (number_body 2 0) [])

pub short_rest : (outcome : Outcome) (r : Reply) → Rests r outcome → length (effects_body outcome.effects) ≤ 2 ^ 30
short_rest outcome r rests = omega (arith, ap (λ (o : Outcome). length (effects_body o.effects)) rests, none)
