use Rattle.std.proofs.Common.{ap, arith, subst, sym}
use Rattle.drill_texts.specs.Modes.{AreDrillModes}
use Rattle.hub_world.specs.Ends.{TrioState}
use Rattle.hub_world.proofs.state.HubState.new.Goals as goal

pub invariant_of-result : goal.invariant_of-result
invariant_of-result c = record {
  made = subst AreDrillModes (sym c.new-2.ensures.items) (record {
    counted = omega arith;
    made = λ k d within. absurd (omega (arith, within));
    named = λ i j d before within. absurd (omega (arith, within));
  });
  few = omega arith;
  shared = λ never. absurd cc;
  new = λ _. (ap (λ (t : TrioState). t.ends) c.in_ok-trio.ensures, omega arith);
}
