use Rattle.std.proofs.Common.{◌≡◌, true, false, sym, ◌∙◌}
use Rattle.conformance.proofs.CutLemmas.{cut_line, uncut_line}
use Rattle.conformance.proofs.heads.ends_in_target.Goals as goal

pub returns-then-is_method : goal.returns-then-is_method
returns-then-is_method c = (
  λ t. (c.in-Some.method.now, c.in-Some.target.now, c.is_method.ensures.0 c.if-is_method.true, c.all_pass.ensures.0 t, c.in-Some.ensures.found),
  λ is. c.all_pass.ensures.1 (cut_line c.args.line.now c.in-Some.method.now c.in-Some.target.now c.in-Some.ensures.found c.in-Some.ensures.first is).1,
)

pub returns-else-is_method : goal.returns-else-is_method
returns-else-is_method c = (
  λ t. let e : true ≡ false = sym t ∙ c.if-is_method.false in absurd cc,
  λ is. c.is_method.ensures.1 (cut_line c.args.line.now c.in-Some.method.now c.in-Some.target.now c.in-Some.ensures.found c.in-Some.ensures.first is).0,
)

pub returns-in-None : goal.returns-in-None
returns-in-None c = (λ t. let e : false ≡ true = t in absurd cc, λ is. absurd (uncut_line c.args.line.now c.in-None.ensures.none is))
