use Rattle.as4_http.proofs.RequestLemmas.{request_one}
use Rattle.as4_http.proofs.requests.one_request.Goals as goal

pub returns : goal.returns
returns c = request_one
