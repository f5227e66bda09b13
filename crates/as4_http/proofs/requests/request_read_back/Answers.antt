use Rattle.as4_http.proofs.ReadBackLemmas.{request_back}
use Rattle.as4_http.proofs.requests.request_read_back.Goals as goal

pub returns : goal.returns
returns c = request_back
