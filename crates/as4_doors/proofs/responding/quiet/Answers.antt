use Rattle.std.proofs.Common.{Bool, None, [], sym, ap}
use Rattle.as4_http.specs.Written.{response_text}
use Rattle.as4_doors.specs.Responses.{connection}
use Rattle.as4_doors.specs.WrittenText.{fixed_text}
use Rattle.as4_doors.proofs.responding.quiet.Goals as goal

pub returns-clause-response : goal.returns-clause-response
unfolding fixed_text
returns-clause-response c = ap (λ (kept : Bool). response_text 202 None (connection kept) []) (sym c.if-kept.false)
