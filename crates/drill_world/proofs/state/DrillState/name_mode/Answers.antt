use Rattle.std.proofs.Common.{refl, ◌∙◌}
use Rattle.drill_world.proofs.state.DrillState.name_mode.Goals as goal

pub returns-clause-adds : goal.returns-clause-adds
returns-clause-adds c =
    let added = c.in_ok-name_mode.ensures.adds in
    (c.of.ensures ∙ c.new.ensures.items, (added.0, added.1, rw (← c.self.view_is, added.2) refl))
