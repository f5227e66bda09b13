use Rattle.as4_http.proofs.ResponseLemmas.{response_one}
use Rattle.as4_http.proofs.responses.one_response.Goals as goal

pub returns : goal.returns
returns c = response_one
