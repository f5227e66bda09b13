-- The size of a tree: how many bytes its texts and its attributes' values have.
use Rattle.std.specs.Prelude.{ℕ, ◌+◌, length}
use Rattle.std.specs.List.{sum_by}
use Rattle.as4_envelope.specs.declared.tree.Attribute.{Attribute}
use Rattle.as4_envelope.specs.declared.tree.Element.{Element}
use Rattle.as4_envelope.specs.declared.tree.Element.TheOpen.{Element-F}
use Rattle.as4_envelope.specs.declared.tree.Element.TheFolds.{fold-Element}

abbrev pub value_size : Attribute → ℕ
value_size a = length a.value

-- one element: its text, its attributes' values, and its children
abbrev pub size_step : Element-F ℕ → ℕ
size_step e = length e.text + sum_by value_size e.attributes + sum_by (λ child. child) e.children

unfoldable pub size : Element → ℕ
size = fold-Element ℕ size_step
