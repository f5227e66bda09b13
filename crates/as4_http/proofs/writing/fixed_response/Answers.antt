use Rattle.std.proofs.Common.{refl}
use Rattle.std.specs.Fmt.{digits}
use Rattle.as4_http.specs.Written.{response_text, fields_and_body}
use Rattle.as4_http.proofs.WrittenLemmas.{fixed_at, last_fixed}
use Rattle.as4_http.proofs.writing.fixed_response.Goals as goal

pub returns-then-status-eq202 : goal.returns-then-status-eq202
unfolding response_text fields_and_body digits
returns-then-status-eq202 c = fixed_at c.args.status 202 _ c.if-status-eq202.true refl

pub returns-then-status-eq400 : goal.returns-then-status-eq400
unfolding response_text fields_and_body digits
returns-then-status-eq400 c = fixed_at c.args.status 400 _ c.if-status-eq400.true refl

pub returns-then-status-eq413 : goal.returns-then-status-eq413
unfolding response_text fields_and_body digits
returns-then-status-eq413 c = fixed_at c.args.status 413 _ c.if-status-eq413.true refl

pub returns : goal.returns
unfolding response_text fields_and_body digits
returns c = fixed_at c.args.status 503 _ (last_fixed c.args.status c.requires c.if-status-eq202.false c.if-status-eq400.false c.if-status-eq413.false) refl
