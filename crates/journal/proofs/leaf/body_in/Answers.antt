use Rattle.std.proofs.Common.{◌≡◌, ℕ, ◌-◌, List, Option, Bor, length, take, drop, refl, sym, ap, subst, ◌∙◌, arith, length-drop}
use Rattle.std.specs.Prelude.{IfNone}
use Rattle.std.proofs.lemmas.List.{take_all}
use Rattle.journal.specs.Leaf.{width_of}
use Rattle.journal.specs.Reading.{IsBodyAt, HasNoBody}
use Rattle.journal.proofs.ReadingLemmas.{take_least}
use Rattle.journal.proofs.leaf.body_in.Goals as goal

pub returns-in_err-len-clause-none : goal.returns-in_err-len-clause-none
returns-in_err-len-clause-none c =
    let P : Option (Bor (List ℕ)) → Type 0 = λ found. IfNone found (HasNoBody c.args.version c.args.gate c.args.behind.now) in
    subst P (sym c.from_residual.ensures) (c.in_err-len.ensures.none c.args.behind.now (refl, take_least c.min.result (width_of c.args.version) c.args.behind.now (omega (arith, c.min.ensures, c.width-width.ensures))))

pub returns-clause-some : goal.returns-clause-some
returns-clause-some c =
    let behind = c.args.behind.now in
    let w = c.width-width.result in
    let rest_is : take (length behind - w) (drop w behind) ≡ drop (width_of c.args.version) behind = take_all _ _ (omega (arith, length-drop w behind)) ∙ ap (λ (n : ℕ). drop n behind) c.width-width.ensures in
    let P : List ℕ → Type 0 = IsBodyAt c.args.version c.args.gate behind in
    subst P (ap (λ (l : List ℕ). take c.in_ok-len.len l) (sym rest_is)) (c.in_ok-len.ensures.body behind (refl, take_least c.min.result (width_of c.args.version) c.args.behind.now (omega (arith, c.min.ensures, c.width-width.ensures))))
