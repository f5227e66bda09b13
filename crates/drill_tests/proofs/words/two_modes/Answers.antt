use Rattle.std.proofs.Common.{◌≡◌, ◌≢◌, ℕ, List, [], ◌∷◌, ◌++◌, length, sym, ◌∙◌, ap, subst, arith}
use Rattle.std.specs.Prelude.{None, codes}
use Rattle.mode_values.specs.declared.mode.Mode.{Mode}
use Rattle.drill_script.specs.declared.line.Way.TheVariants.{Push, Pull}
use Rattle.drill_texts.specs.Modes.{AreDrillModes, IsSomeDrillMode}
use Rattle.drill_texts.proofs.ListLemmas.{two_are_modes}
use Rattle.drill_tests.proofs.words.two_modes.Goals as goal

pub returns-in-Ok-Ok : goal.returns-in-Ok-Ok
returns-in-Ok-Ok c =
    let pushed : Mode = c.in-Ok-Ok.pushed in
    let pulled : Mode = c.in-Ok-Ok.pulled in
    let first : c.push_reserved.new.self.items ≡ pushed ∷ [] = c.push_reserved.ensures.items ∙ ap (λ (l : List Mode). l ++ pushed ∷ []) c.in_ok-list.ensures.items in
    let whole : c.of.result ≡ pushed ∷ pulled ∷ [] = c.of.ensures ∙ c.push_reserved-in-Ok-Ok.ensures.items ∙ ap (λ (l : List Mode). l ++ pulled ∷ []) first in
    let one : IsSomeDrillMode pushed = (None, codes "m", Push, 3, 5000, c.in-Ok-Ok.ensures) in
    let other : IsSomeDrillMode pulled = (None, codes "m2", Pull, 3, 5000, c.in-Ok-Ok.ensures') in
    let differ : pushed.name ≢ pulled.name = λ same. (let clash : codes "m" ≡ codes "m2" = sym one.5.named ∙ same ∙ other.5.named in absurd (omega (arith, ap (λ (l : List ℕ). length l) clash))) in
    subst AreDrillModes (sym whole) (two_are_modes pushed pulled one other differ)
