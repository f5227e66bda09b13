-- What rounds do.
use Rattle.std.specs.Prelude.{◌≡◌, ◌⊎◌, ℕ, Bool, false, List, Option, Some, None, Result, Ok, Err, is_some}
use Rattle.as4_disk.specs.declared.disk.Disk.{Ghosts as DiskMeaning}
use Rattle.as4_flow.specs.Draws.{Draws}
use Rattle.as4_flow.specs.declared.clock.Clock.{Ghosts as ClockMeaning}
use Rattle.as4_flow.specs.declared.nonces.Nonces.{Ghosts as NoncesMeaning}
use Rattle.as4_host.specs.declared.link.Link.{Ghosts as LinkMeaning}
use Rattle.as4_http.specs.declared.message.Response.{Response}
use Rattle.exchange_model.specs.declared.event.Event.{Event}
use Rattle.exchange_model.specs.declared.reply.Reply.{Reply}
use Rattle.exchange_model.specs.declared.reply.Reply.TheVariants as reply
use Rattle.exchange_model.specs.declared.what.What.{What}
use Rattle.exchange_model.specs.declared.what.What.TheVariants as what
use Rattle.office.specs.declared.call.Call.{Call}
use Rattle.office.specs.declared.fault.OfficeFault.{OfficeFault}
use Rattle.pass_book.specs.States.{PassState}
use Rattle.sessions.specs.Shared.{SendsUnder}
use Rattle.sessions.specs.declared.naming.Opening.{Ghosts as OpeningMeaning}
use Rattle.sessions.specs.declared.rounds.RoundEnd.{RoundEnd}
use Rattle.sessions.specs.declared.rounds.RoundEnd.TheVariants as round
use Rattle.sessions.specs.declared.sending.Sending.{Sending}
use Rattle.rounds.specs.Endings.{end_by, end_halted, end_lost}
use Rattle.link_exchange.specs.Exchanges.{Exchanges}
use Rattle.rounds.specs.Receiving.{Brings}
use Rattle.link_exchange.specs.declared.exchanging.Lost.{Lost}
use Rattle.rounds.specs.declared.pulling.Pulled.{Pulled}

-- what a round uses, at one moment: the caller's pass, the link, the clock and the source of nonces
pub record Using (L C N : Type 0) : Type 0 where
  pub pass : PassState Call
  pub link : L
  pub clock : C
  pub nonces : N

abbrev pub using : {L C N : Type 0} → PassState Call → L → C → N → Using L C N
using pass link clock nonces = record { pass = pass; link = link; clock = clock; nonces = nonces }

-- where a message that is pushed goes
abbrev pub push_address : Reply → Option (List ℕ)
push_address (reply.Push address message) = Some address
push_address other = None

-- where a pull request goes
abbrev pub pull_address : Reply → Option (List ℕ)
pull_address (reply.Request address message) = Some address
pull_address other = None

-- how a round that pulls ended, and whether it received a message
abbrev pub pulled : RoundEnd → Bool → Pulled
pulled end received = record { end = end; received = received }

-- a reply with its request, or how the round ends without it
abbrev pub Follows : Result Sending OfficeFault → Result Sending RoundEnd → Type 0
Follows (Ok sending) (Ok told) = told ≡ sending
Follows (Ok sending) (Err end) = ⊥
Follows (Err fault) (Ok told) = ⊥
Follows (Err fault) (Err end) = end ≡ end_halted fault

-- how a round ends after its last exchange
abbrev pub EndsAs : Result Sending RoundEnd → RoundEnd → Type 0
EndsAs (Ok sending) end = end ≡ end_by sending.reply
EndsAs (Err other) end = end ≡ other

module _ {D J L In Out C N : Type 0} (M : DiskMeaning D) (O : OpeningMeaning J) (K : LinkMeaning L In Out) (T : ClockMeaning C) (R : NoncesMeaning N) where
  -- An event of this kind was made, with a moment and a nonce that were drawn, once each. A shared office handled it.
  pub record Steps (kind : What) (back : Option (List ℕ)) (old new : Using L C N) (sending : Result Sending OfficeFault) : Type 0 where
    pub event : Event
    pub asked : event.what ≡ kind
    pub moment : Draws event.stamp (T.to_come old.clock) (T.to_come new.clock)
    pub nonce : Draws event.nonce (R.to_come old.nonces) (R.to_come new.nonces)
    pub link : new.link ≡ old.link
    pub sends : SendsUnder M O back old.pass new.pass event sending

  -- the message of a response was handled
  pub record Handles (response : Response) (back : Option (List ℕ)) (old new : Using L C N) (result : Result Sending RoundEnd) : Type 0 where
    pub kind : What
    pub brought : Brings response (Ok kind)
    pub sending : Result Sending OfficeFault
    pub steps : Steps kind back old new sending
    pub follows : Follows sending result

  -- a response brought no message, and nothing was done
  pub record BroughtNone (response : Response) (old new : Using L C N) (result : Result Sending RoundEnd) : Type 0 where
    pub end : RoundEnd
    pub brought : Brings response (Err end)
    pub result_is : result ≡ Err end
    pub same : new ≡ old

  abbrev pub Receives : Response → Option (List ℕ) → Using L C N → Using L C N → Result Sending RoundEnd → Type 0
  Receives response back old new result = Handles response back old new result ⊎ BroughtNone response old new result

  -- after an exchange: the response is handled, or the round ends without one
  abbrev pub After : Result Response Lost → Option (List ℕ) → Using L C N → Using L C N → Result Sending RoundEnd → Type 0
  After (Ok response) back old new result = Receives response back old new result
  After (Err why) back old new result = (result ≡ Err (end_lost why)) × (new ≡ old)

  -- a request was sent to the address, and its response was handled; an answer to that goes back to the address `back`
  pub record Delivers (address request : List ℕ) (back : Option (List ℕ)) (old new : Using L C N) (result : Result Sending RoundEnd) : Type 0 where
    pub told : Result Response Lost
    pub link : L
    pub exchanges : Exchanges K old.link link address request told
    pub after : After told back (record old { link = link }) new result

  -- a request, if there is one, is sent to the address, and its response is handled; else the round ends so
  abbrev pub Sends : List ℕ → Option (List ℕ) → RoundEnd → Using L C N → Using L C N → RoundEnd → Type 0
  Sends address (Some request) without old new end =
      (result : Result Sending RoundEnd) × Delivers address request None old new result × EndsAs result end
  Sends address None without old new end = (end ≡ without) × (new ≡ old)

  -- the message that was taken is sent to its address
  abbrev pub SendsOut : Option (List ℕ) → Sending → Using L C N → Using L C N → RoundEnd → Type 0
  SendsOut (Some address) sending old new end = Sends address sending.request round.Done old new end
  SendsOut None sending old new end = (end ≡ end_by sending.reply) × (new ≡ old)

  abbrev pub PushesOn : Result Sending OfficeFault → Using L C N → Using L C N → RoundEnd → Type 0
  PushesOn (Ok sending) old new end = SendsOut (push_address sending.reply) sending old new end
  PushesOn (Err fault) old new end = (end ≡ end_halted fault) × (new ≡ old)

  -- a round that pushes
  pub record Pushes (old new : Using L C N) (end : RoundEnd) : Type 0 where
    pub middle : Using L C N
    pub sending : Result Sending OfficeFault
    pub takes : Steps what.Take None old middle sending
    pub goes_on : PushesOn sending middle new end

  -- the answer to what a pull request brought is sent to the same address
  abbrev pub Answers : List ℕ → Result Sending RoundEnd → Using L C N → Using L C N → Pulled → Type 0
  Answers address (Ok sending) old new by =
      Sends address sending.request (end_by sending.reply) old new by.end × (by.received ≡ is_some sending.request)
  Answers address (Err other) old new by = (by ≡ pulled other false) × (new ≡ old)

  -- the pull request was sent, and then the answer to what it brought
  pub record Pulls (address request : List ℕ) (old new : Using L C N) (by : Pulled) : Type 0 where
    pub middle : Using L C N
    pub first : Result Sending RoundEnd
    pub delivers : Delivers address request (Some address) old middle first
    pub answers : Answers address first middle new by

  abbrev pub PullsWith : List ℕ → Option (List ℕ) → Using L C N → Using L C N → Pulled → Type 0
  PullsWith address (Some request) old new by = Pulls address request old new by
  PullsWith address None old new by = (by ≡ pulled round.Done false) × (new ≡ old)

  -- the pull request is sent to its address
  abbrev pub AsksOut : Option (List ℕ) → Sending → Using L C N → Using L C N → Pulled → Type 0
  AsksOut (Some address) sending old new by = PullsWith address sending.request old new by
  AsksOut None sending old new by = (by ≡ pulled (end_by sending.reply) false) × (new ≡ old)

  abbrev pub PullsOn : Result Sending OfficeFault → Using L C N → Using L C N → Pulled → Type 0
  PullsOn (Ok sending) old new by = AsksOut (pull_address sending.reply) sending old new by
  PullsOn (Err fault) old new by = (by ≡ pulled (end_halted fault) false) × (new ≡ old)

  -- a round that pulls by the mode of this name
  pub record AsksFirst (mode : List ℕ) (old new : Using L C N) (by : Pulled) : Type 0 where
    pub middle : Using L C N
    pub sending : Result Sending OfficeFault
    pub asks : Steps (what.Ask mode) None old middle sending
    pub goes_on : PullsOn sending middle new by

  -- without memory for the name nothing is done
  abbrev pub PullsBy : List ℕ → Using L C N → Using L C N → Pulled → Type 0
  PullsBy mode old new by = AsksFirst mode old new by ⊎ ((by ≡ pulled round.NoMemory false) × (new ≡ old))
