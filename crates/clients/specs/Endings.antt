-- How calls end.
use Rattle.std.specs.Prelude.{ℕ, ◌==◌, if◌then◌else◌, Result, Ok, Err}
use Rattle.as4_http.specs.declared.message.Response.{Response}
use Rattle.as4_http.specs.declared.refusal.HttpRefusal.TheVariants as http
use Rattle.clients.specs.declared.ending.CollectEnd.{CollectEnd}
use Rattle.clients.specs.declared.ending.CollectEnd.TheVariants as collect
use Rattle.clients.specs.declared.ending.SubmitEnd.{SubmitEnd}
use Rattle.clients.specs.declared.ending.SubmitEnd.TheVariants as submit
use Rattle.clients.specs.declared.ending.Visit.{Visit}
use Rattle.clients.specs.declared.ending.Visit.TheVariants as visit
use Rattle.link_exchange.specs.declared.exchanging.Lost.{Lost}
use Rattle.link_exchange.specs.declared.exchanging.Lost.TheVariants as lost

-- how a submission ends without a response
abbrev pub submit_lost : Lost → SubmitEnd
submit_lost lost.Unreached = submit.LinkFault
submit_lost lost.Unsent = submit.WriteFault
submit_lost (lost.Unread http.Cut) = submit.BadResponse
submit_lost (lost.Unread http.Bad) = submit.BadResponse
submit_lost (lost.Unread http.TooLong) = submit.BadResponse
submit_lost (lost.Unread http.ReadFault) = submit.ReadFault
submit_lost (lost.Unread http.NoMemory) = submit.NoMemory
submit_lost lost.NoMemory = submit.NoMemory

-- how a submission ends
abbrev pub submit_end : Result Response Lost → SubmitEnd
submit_end (Ok response) =
    if response.status == 200 then submit.Accepted response.body else submit.Refused response.status response.body
submit_end (Err lost) = submit_lost lost

-- how a collection ends without a response
abbrev pub collect_lost : Lost → CollectEnd
collect_lost lost.Unreached = collect.LinkFault
collect_lost lost.Unsent = collect.WriteFault
collect_lost (lost.Unread http.Cut) = collect.BadResponse
collect_lost (lost.Unread http.Bad) = collect.BadResponse
collect_lost (lost.Unread http.TooLong) = collect.BadResponse
collect_lost (lost.Unread http.ReadFault) = collect.ReadFault
collect_lost (lost.Unread http.NoMemory) = collect.NoMemory
collect_lost lost.NoMemory = collect.NoMemory

-- what a response of this status says of a number
abbrev pub visit_by : ℕ → Visit
visit_by status =
    if status == 200 then visit.Collected
    else (if status == 410 then visit.Gone
    else (if status == 404 then visit.Ends collect.NoEntry else visit.Ends (collect.Refused status)))

-- what became of a number whose file is written, by the response to its confirmation
abbrev pub visit_end : Result Response Lost → Visit
visit_end (Ok response) = visit_by response.status
visit_end (Err lost) = visit.Ends (collect_lost lost)
