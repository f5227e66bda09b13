use Rattle.as4_http.proofs.ResponseLemmas.{goes_on}
use Rattle.as4_http.proofs.responses.response_goes_on.Goals as goal

pub returns : goal.returns
returns c = goes_on
