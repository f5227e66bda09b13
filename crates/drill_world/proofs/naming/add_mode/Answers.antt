use Rattle.std.proofs.Common.{List, [], ◌∷◌, ◌++◌, ap, ◌∙◌}
use Rattle.mode_values.specs.declared.mode.Mode.{Mode}
use Rattle.drill_world.proofs.naming.add_mode.Goals as goal

pub returns-clause-adds : goal.returns-clause-adds
returns-clause-adds c = (
  c.in_ok-mode.mode,
  c.in_ok-mode.ensures,
  c.push_reserved.ensures.items ∙ ap (λ (l : List Mode). l ++ c.in_ok-mode.mode ∷ []) c.in_ok-reserve.ensures.items,
)
