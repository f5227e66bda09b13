use Rattle.std.proofs.Common.{ap, ◌∙◌}
use Rattle.drill_world.specs.Endpoints.{EndpointState}
use Rattle.drill_world.proofs.state.DrillState.begin.Goals as goal

pub invariant_of-self : goal.invariant_of-self
invariant_of-self c = record {
  made = c.self.invariant.made;
  few = c.self.invariant.few;
  shared = λ begun. (
    ap (λ (e : EndpointState). e.modes) (c.replace.ensures.after ∙ c.in-Ok-Ok.ensures) ∙ c.as_slice-modes.ensures.value,
    ap (λ (e : EndpointState). e.modes) (c.replace-in-Ok-Ok.ensures.after ∙ c.in-Ok-Ok.ensures') ∙ c.as_slice-modes.ensures.value,
  );
  new = λ never. absurd cc;
}
