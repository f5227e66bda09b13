-- The message that a response brings.
use Rattle.std.specs.Prelude.{◌≡◌, ◌≢◌, ◌==◌, ◌||◌, ℕ, [], if◌then◌else◌, Result, Ok, Err}
use Rattle.as4_http.specs.declared.message.Method.TheVariants.{Post}
use Rattle.as4_http.specs.declared.message.Request.{Request}
use Rattle.as4_http.specs.declared.message.Response.{Response}
use Rattle.as4_doors.specs.Asking.{AsksFor, IsRefusedBy}
use Rattle.as4_doors.specs.declared.door.DoorKind.TheVariants.{Peer}
use Rattle.exchange_model.specs.declared.what.What.{What}
use Rattle.sessions.specs.declared.rounds.RoundEnd.{RoundEnd}
use Rattle.sessions.specs.declared.rounds.RoundEnd.TheVariants as round

-- a request at the peer's door with the media text and the body of the response
abbrev pub as_request : Response → Request
as_request response = record { method = Post; target = []; media = response.media; body = response.body }

-- how a round ends with a response of this status that has no body
abbrev pub end_bare : ℕ → RoundEnd
end_bare status = if (status == 200) || (status == 202) then round.Done else round.Status status

-- How a round ends whose response brings no message. A response without a body ends it by its status. A body that is no
-- message is refused as a request's is.
abbrev pub BringsNone : Response → RoundEnd → Type 0
BringsNone response (round.Odd refusal) = (response.body ≢ []) × IsRefusedBy Peer (as_request response) refusal
BringsNone response round.NoMemory = response.body ≢ []
BringsNone response end = (response.body ≡ []) × (end ≡ end_bare response.status)

-- what a response brings
abbrev pub Brings : Response → Result What RoundEnd → Type 0
Brings response (Ok what) = (response.body ≢ []) × AsksFor Peer (as_request response) what
Brings response (Err end) = BringsNone response end
