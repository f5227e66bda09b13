use Rattle.as4_http.proofs.TrailerLemmas.{line_complete, line_partial, line_err}
use Rattle.as4_http.proofs.trailers.ends_trailers.Goals as goal

pub returns-in-Ok-Complete-clause-ok : goal.returns-in-Ok-Complete-clause-ok
returns-in-Ok-Complete-clause-ok c =
    let of = rw c.in-Ok-Complete.field-0-is at c.in-Ok-Complete.ensures.complete in
    line_complete c.args.line.now of.0 of.1 _ c.requires of.2.reads

pub returns-in-Ok-Partial-clause-ok : goal.returns-in-Ok-Partial-clause-ok
returns-in-Ok-Partial-clause-ok c =
    let none = rw c.in-Ok-Partial.field-0-is at c.in-Ok-Partial.ensures.partial in
    let may = rw c.in-Ok-Partial.field-0-is at c.in-Ok-Partial.ensures.unfinished in
    line_partial c.args.line.now c.requires none may

pub returns-in-Err-clause-none : goal.returns-in-Err-clause-none
returns-in-Err-clause-none c =
    line_err c.args.line.now c.in-Err.field-0 c.requires c.in-Err.ensures.invalid c.in-Err.ensures.too_many
