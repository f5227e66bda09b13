use Rattle.std.proofs.Common.{◌≡◌, [], ◌∷◌, arith, drop, sym, ◌∙◌, ap}
use Rattle.std.proofs.lemmas.Grind.{common_steps}
use Rattle.std.specs.Vec.Iter.{into_iter_items}
use Rattle.exchange_model.specs.Apply.{after_all}
use Rattle.msh_state.specs.Places.{places_after_all}
use Rattle.msh_core.proofs.MeasuredLemmas.{places_done, places_on}
use Rattle.msh_core.proofs.PlanLemmas.{CanGo, goes_on}
use Rattle.msh_core.proofs.applying.apply_all.Goals as goal

pub loop-effect-preserved : goal.loop-effect-preserved
loop-effect-preserved c =
    let can : CanGo c.loop-effect.tables.end c.loop-effect.tables.rooms
    (c.in-Some.effect ∷ into_iter_items c.next.new.self) (drop c.loop-effect.index c.items-queues.result.now) =
    rw (sym c.in-Some.ensures.steps.0) c.loop-effect.invariant.can in
    let next = goes_on c.loop-effect.tables.end c.loop-effect.tables.rooms c.apply.new.self.rooms c.in-Some.effect
    (into_iter_items c.next.new.self) c.loop-effect.index c.items-queues.result.now can c.apply.ensures.rooms in
    record {
      can = rw c.apply.ensures.end next.on;
      leads = ap (after_all (into_iter_items c.next.new.self)) c.apply.ensures.end
          ∙ ap (λ effects. after_all effects c.loop-effect.tables.end) (sym c.in-Some.ensures.steps.0)
          ∙ c.loop-effect.invariant.leads;
      places = places_on c.in-Some.effect (into_iter_items c.next.new.self) c.args.gate _ _ c.apply.ensures.places
          ∙ ap (λ effects. places_after_all effects c.args.gate c.loop-effect.tables.places) (sym c.in-Some.ensures.steps.0)
          ∙ c.loop-effect.invariant.places;
    }

pub returns-clause-places : goal.returns-clause-places
returns-clause-places c =
    let rest = into_iter_items c.loop-effect.effect-iterator in
    let none : rest ≡ [] = grind (arith, common_steps) in
    places_done rest c.args.gate c.loop-effect.tables.places none ∙ c.loop-effect.invariant.places
