use Rattle.as4_http.proofs.RequestLemmas.{goes_on, kept_goes_on}
use Rattle.as4_http.proofs.requests.request_goes_on.Goals as goal

pub returns : goal.returns
returns c = record { request = goes_on; kept = kept_goes_on }
