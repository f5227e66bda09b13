use Rattle.as4_doors.proofs.RespondedLemmas.{one_response_of, one_refusal_response_of}
use Rattle.as4_doors.proofs.laws.one_response.Goals as goal

pub returns-clause-response : goal.returns-clause-response
returns-clause-response c = one_response_of

pub returns-clause-refused : goal.returns-clause-refused
returns-clause-refused c = one_refusal_response_of
