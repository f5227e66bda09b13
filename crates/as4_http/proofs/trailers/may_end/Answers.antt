use Rattle.std.proofs.Common.{sym, ◌∙◌}
use Rattle.as4_http.proofs.TrailerLemmas.{unended_may, unended_never}
use Rattle.as4_http.proofs.trailers.may_end.Goals as goal

pub returns-clause-may : goal.returns-clause-may
returns-clause-may c =
    λ is. unended_may c.args.line.now c.parse_headers.new.headers c.parse_headers.result (sym c.is_ok.ensures.value ∙ is) c.requires c.parse_headers.ensures.complete c.parse_headers.ensures.unfinished

pub returns-clause-never : goal.returns-clause-never
returns-clause-never c =
    λ is. unended_never c.args.line.now c.parse_headers.result (sym c.is_ok.ensures.value ∙ is) c.requires c.parse_headers.ensures.invalid c.parse_headers.ensures.too_many
