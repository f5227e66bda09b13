use Rattle.std.proofs.Common.{rules, arith, sym, ◌∙◌}
use Rattle.std.proofs.lemmas.Bool.Decides.{nat_tests}
use Rattle.std.proofs.lemmas.List.{nil_from_length}
use Rattle.httparse.specs.Grammar.{crlf, lf}
use Rattle.as4_http.proofs.LineLemmas.{not_found, found_one}
use Rattle.as4_http.proofs.TrailerLemmas.{missing_one, missing_two, missing_three, enough_one, enough_two, enough_three}
use Rattle.as4_http.proofs.trailers.missing.Goals as goal

pub returns-then-is_empty-clause-least : goal.returns-then-is_empty-clause-least
returns-then-is_empty-clause-least c = missing_one c.args.line.now c.requires

pub returns-then-is_empty-clause-enough : goal.returns-then-is_empty-clause-enough
returns-then-is_empty-clause-enough c = λ may. enough_one c.args.line.now lf (nil_from_length c.args.line.now (grind (arith, nat_tests)))

pub returns-then-eq-clause-least : goal.returns-then-eq-clause-least
returns-then-eq-clause-least c = missing_one c.args.line.now c.requires

pub returns-then-eq-clause-enough : goal.returns-then-eq-clause-enough
returns-then-eq-clause-enough c = λ may. enough_one c.args.line.now crlf (search rules)

pub returns-then-is_some-clause-least : goal.returns-then-is_some-clause-least
returns-then-is_some-clause-least c = missing_two c.args.line.now c.requires (search rules) (search rules)

pub returns-then-is_some-clause-enough : goal.returns-then-is_some-clause-enough
returns-then-is_some-clause-enough c = enough_two c.args.line.now c.requires (search rules) (search rules) (found_one 58 c.args.line.now c.memchr.result (sym c.is_some.ensures ∙ c.if-is_some.true) c.memchr.ensures)

pub returns-clause-least : goal.returns-clause-least
returns-clause-least c = missing_three c.args.line.now c.requires (search rules) (search rules) (not_found 58 c.args.line.now c.memchr.result (sym c.is_some.ensures ∙ c.if-is_some.false) c.memchr.ensures)

pub returns-clause-enough : goal.returns-clause-enough
returns-clause-enough c = enough_three c.args.line.now c.requires (search rules) (search rules) (not_found 58 c.args.line.now c.memchr.result (sym c.is_some.ensures ∙ c.if-is_some.false) c.memchr.ensures)
