use Rattle.std.proofs.Common.{[], arith, rules, sym, append-nil}
use Rattle.as4_http.proofs.TrailerLemmas.{may_trailers, trailers_over}
use Rattle.as4_http.proofs.trailers.unended_line.Goals as goal

pub returns-then-saturating_add-passed-clause-passed : goal.returns-then-saturating_add-passed-clause-passed
returns-then-saturating_add-passed-clause-passed c =
    λ is. trailers_over c.args.line.now c.args.line.now [] c.args.passed (sym (append-nil c.args.line.now)) (c.may_end.ensures.may (search rules))
    (λ more fields last behind reads. omega (arith, c.missing.ensures.least more fields last behind reads, c.requires.within, c.saturating_add.ensures, c.if-saturating_add-passed.true))

pub returns-clause-cut : goal.returns-clause-cut
returns-clause-cut c =
    λ is. may_trailers c.args.line.now c.missing.result c.args.passed (c.missing.ensures.enough (c.may_end.ensures.may (search rules))) (omega (arith, c.requires.within, c.saturating_add.ensures))
