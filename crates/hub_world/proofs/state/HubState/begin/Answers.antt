use Rattle.std.proofs.Common.{ap, ◌∙◌}
use Rattle.hub_world.specs.Ends.{TrioState}
use Rattle.hub_world.proofs.state.HubState.begin.Goals as goal

pub invariant_of-self : goal.invariant_of-self
invariant_of-self c = record {
  made = c.self.invariant.made;
  few = c.self.invariant.few;
  shared = λ begun. ap (λ (t : TrioState). t.modes) (c.replace.ensures.after ∙ c.in_ok-trio.ensures) ∙ c.as_slice.ensures.value;
  new = λ never. absurd cc;
}
