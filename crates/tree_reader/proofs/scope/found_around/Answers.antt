use Rattle.std.proofs.Common.{◌≡◌, ◌+◌, ◌-◌, ℕ, List, Option, Some, None, get_or, take, sym, ap, ◌∙◌, arith}
use Rattle.tree_reader.specs.Scopes.{found, scope_of}
use Rattle.tree_reader.specs.Views.{stack_of}
use Rattle.tree_reader.proofs.ScopeLemmas.{found_at, or_else}
use Rattle.tree_reader.proofs.scope.found_around.Goals as goal

pub returns-in-Some : goal.returns-in-Some
returns-in-Some c =
    let around = c.args.around.now in
    let prefix = c.args.prefix.now in
    let o = c.index-around-at.result in
    let at_is : c.loop-at.at - 1 + 1 ≡ c.loop-at.at = omega arith in
    let here : Some c.in-Some.space.now ≡ found (get_or around (c.loop-at.at - 1) o).declared prefix = c.in-Some.ensures in
    sym (c.loop-at.invariant.left
    ∙ (rw at_is at (found_at around (c.loop-at.at - 1) o prefix (omega arith))
    ∙ ap (λ (b : Option (List ℕ)). or_else b (found (scope_of (stack_of (take (c.loop-at.at - 1) around))) prefix)) (sym here)))

pub loop-at-preserved : goal.loop-at-preserved
loop-at-preserved c =
    let around = c.args.around.now in
    let prefix = c.args.prefix.now in
    let o = c.index-around-at.result in
    let at_is : c.loop-at.at - 1 + 1 ≡ c.loop-at.at = omega arith in
    let none : None ≡ found (get_or around (c.loop-at.at - 1) o).declared prefix = c.in_default.ensures in
    record {
      within = omega arith;
      left = c.loop-at.invariant.left
          ∙ (rw at_is at (found_at around (c.loop-at.at - 1) o prefix (omega arith))
          ∙ ap (λ (b : Option (List ℕ)). or_else b (found (scope_of (stack_of (take (c.loop-at.at - 1) around))) prefix)) (sym none));
    }
