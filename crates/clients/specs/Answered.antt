-- What the end of a call says of an answer, where the host is observable.
use Rattle.std.specs.Prelude.{◌≡◌, ◌≢◌, ℕ, List}
use Rattle.as4_http.specs.Responses.{BeginsResponse, HasNoResponse}
use Rattle.as4_http.specs.declared.message.Response.{Response}
use Rattle.clients.specs.declared.ending.CollectEnd.{CollectEnd}
use Rattle.clients.specs.declared.ending.CollectEnd.TheVariants as collect
use Rattle.clients.specs.declared.ending.SubmitEnd.{SubmitEnd}
use Rattle.clients.specs.declared.ending.SubmitEnd.TheVariants as submit

-- the bytes begin with a response of which this holds
abbrev pub Responds : (Response → Type 0) → List ℕ → Type 0
Responds P bytes = (response : Response) × (rest : List ℕ) × BeginsResponse bytes response rest × P response

-- what the end of a submission says of the answer
abbrev pub IsAnswerTo : SubmitEnd → List ℕ → Type 0
IsAnswerTo (submit.Accepted text) bytes = Responds (λ r. (r.status ≡ 200) × (r.body ≡ text)) bytes
IsAnswerTo (submit.Refused status text) bytes = Responds (λ r. (r.status ≡ status) × (status ≢ 200) × (r.body ≡ text)) bytes
IsAnswerTo submit.BadResponse bytes = HasNoResponse bytes
IsAnswerTo other bytes = Unit {0}

-- what the end of a collection says of the last answer
abbrev pub IsLastAnswer : CollectEnd → List ℕ → Type 0
IsLastAnswer collect.NoEntry bytes = Responds (λ r. r.status ≡ 404) bytes
IsLastAnswer (collect.Refused status) bytes = Responds (λ r. (r.status ≡ status) × (status ≢ 200) × (status ≢ 404) × (status ≢ 410)) bytes
IsLastAnswer collect.BadResponse bytes = HasNoResponse bytes
IsLastAnswer other bytes = Unit {0}
