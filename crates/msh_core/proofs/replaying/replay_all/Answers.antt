use Rattle.std.proofs.Common.{◌≡◌, ◌+◌, [], ◌∷◌, arith, true, ap, subst, sym, ◌∙◌}
use Rattle.std.proofs.lemmas.Grind.{common_steps}
use Rattle.std.specs.Vec.Iter.{into_iter_items}
use Rattle.exchange_model.specs.Apply.{is_fit}
use Rattle.exchange_model.specs.End.{End}
use Rattle.msh_state.specs.Places.{places_after_all}
use Rattle.msh_core.proofs.MeasuredLemmas.{places_done, places_on}
use Rattle.msh_core.proofs.ReplayLemmas.{IsBehind, one_made}
use Rattle.msh_core.proofs.replaying.replay_all.Goals as goal

pub loop-effect-preserved : goal.loop-effect-preserved
loop-effect-preserved c =
    let here = c.loop-effect in
    let rest = into_iter_items c.next.new.self in
    let behind : IsBehind c.args.effects c.args.tables.now.end here.index (c.in-Some.effect ∷ rest) here.tables.end =
    rw (sym c.in-Some.ensures.steps.0) here.invariant.behind in
    let fits : is_fit c.in-Some.effect here.tables.end ≡ true = sym c.fits.ensures ∙ c.if-not-fits.false in
    record {
      behind = subst (λ (e : End). IsBehind c.args.effects c.args.tables.now.end (here.index + 1) rest e) (sym c.in_ok-replay_one.ensures.ok)
          (one_made c.args.effects c.args.tables.now.end here.index c.in-Some.effect rest here.tables.end behind fits);
      places = places_on c.in-Some.effect rest c.args.gate _ _ c.in_ok-replay_one.ensures.places
          ∙ ap (λ effects. places_after_all effects c.args.gate here.tables.places) (sym c.in-Some.ensures.steps.0)
          ∙ here.invariant.places;
      consistent = λ consistent. c.replay_one.ensures.consistent (here.invariant.consistent consistent);
    }

pub returns-clause-places : goal.returns-clause-places
returns-clause-places c =
    let rest = into_iter_items c.loop-effect.effect-iterator in
    let none : rest ≡ [] = grind (arith, common_steps) in
    places_done rest c.args.gate c.loop-effect.tables.places none ∙ c.loop-effect.invariant.places
