-- Rounds, put together from what their calls ensure.
use Rattle.std.proofs.Common.{◌≡◌, ℕ, List, Option, Some, None, Result, refl, sym, subst}
use Rattle.as4_disk.specs.declared.disk.Disk.{Ghosts as DiskMeaning}
use Rattle.as4_flow.specs.Draws.{Draws}
use Rattle.as4_flow.specs.declared.clock.Clock.{Ghosts as ClockMeaning}
use Rattle.as4_flow.specs.declared.nonces.Nonces.{Ghosts as NoncesMeaning}
use Rattle.as4_host.specs.declared.link.Link.{Ghosts as LinkMeaning}
use Rattle.as4_values.specs.declared.message.Message.{Message}
use Rattle.exchange_model.specs.declared.event.Event.{Event}
use Rattle.exchange_model.specs.declared.reply.Reply.{Reply}
use Rattle.exchange_model.specs.declared.reply.Reply.TheVariants as reply
use Rattle.exchange_model.specs.declared.what.What.{What}
use Rattle.office.specs.declared.call.Call.{Call}
use Rattle.office.specs.declared.fault.OfficeFault.{OfficeFault}
use Rattle.pass_book.specs.States.{PassState}
use Rattle.sessions.specs.Shared.{SendsUnder}
use Rattle.sessions.specs.declared.naming.Opening.{Ghosts as OpeningMeaning}
use Rattle.sessions.specs.declared.rounds.RoundEnd.{RoundEnd}
use Rattle.sessions.specs.declared.sending.Sending.{Sending}
use Rattle.rounds.specs.Rounds.{Answers, Delivers, PullsWith, Steps, Using, pull_address, push_address, using}
use Rattle.rounds.specs.declared.pulling.Pulled.{Pulled}

module _ {D J L In Out C N : Type 0} (M : DiskMeaning D) (O : OpeningMeaning J) (K : LinkMeaning L In Out) (T : ClockMeaning C) (R : NoncesMeaning N) where
  -- an event was made, and a shared office handled it
  pub stepped : (kind : What) (back : Option (List ℕ)) (pass later : PassState Call) (link : L) (clock clock_later : C) (nonces nonces_later : N)
      (event : Event) (sending : Result Sending OfficeFault) → event.what ≡ kind
      → Draws event.stamp (T.to_come clock) (T.to_come clock_later) → Draws event.nonce (R.to_come nonces) (R.to_come nonces_later)
      → SendsUnder M O back pass later event sending
      → Steps M O K T R kind back (using pass link clock nonces) (using later link clock_later nonces_later) sending
  stepped kind back pass later link clock clock_later nonces nonces_later event sending asked moment nonce sends =
      record { event = event; asked = asked; moment = moment; nonce = nonce; link = refl; sends = sends }

  -- a pull request was sent, and what came was answered
  pub pulls_with : (address request : List ℕ) (given : Option (List ℕ)) (old middle new : Using L C N) (first : Result Sending RoundEnd) (by : Pulled)
      → given ≡ Some request → Delivers M O K T R address request (Some address) old middle first → Answers M O K T R address first middle new by
      → PullsWith M O K T R address given old new by
  pulls_with address request given old middle new first by is delivers answers =
      subst (λ (g : Option (List ℕ)). PullsWith M O K T R address g old new by) (sym is)
      (record { middle = middle; first = first; delivers = delivers; answers = answers })

-- a reply that is no push has no address to push to
pub no_push : (r : Reply) → ((address : List ℕ) (message : Message) → ¬ (r ≡ reply.Push address message)) → push_address r ≡ None
no_push (reply.Submitted a b) other = refl
no_push reply.NoMode other = refl
no_push reply.OutboxFull other = refl
no_push reply.TooLarge other = refl
no_push (reply.Ticked a) other = refl
no_push (reply.Push a b) other = absurd (other a b refl)
no_push reply.Nothing other = refl
no_push (reply.Request a b) other = refl
no_push (reply.Answer a) other = refl
no_push reply.Quiet other = refl
no_push (reply.Entry a b) other = refl
no_push reply.NoEntry other = refl
no_push reply.Gone other = refl
no_push (reply.Confirmed a) other = refl
no_push (reply.Pending a) other = refl
no_push reply.Receipted other = refl
no_push reply.Failed other = refl
no_push (reply.RefusedWith a) other = refl
no_push reply.Unknown other = refl
no_push (reply.Full a b) other = refl
no_push (reply.Stopped a b) other = refl

-- a reply that is no pull request has no address to pull from
pub no_request : (r : Reply) → ((address : List ℕ) (message : Message) → ¬ (r ≡ reply.Request address message)) → pull_address r ≡ None
no_request (reply.Submitted a b) other = refl
no_request reply.NoMode other = refl
no_request reply.OutboxFull other = refl
no_request reply.TooLarge other = refl
no_request (reply.Ticked a) other = refl
no_request (reply.Push a b) other = refl
no_request reply.Nothing other = refl
no_request (reply.Request a b) other = absurd (other a b refl)
no_request (reply.Answer a) other = refl
no_request reply.Quiet other = refl
no_request (reply.Entry a b) other = refl
no_request reply.NoEntry other = refl
no_request reply.Gone other = refl
no_request (reply.Confirmed a) other = refl
no_request (reply.Pending a) other = refl
no_request reply.Receipted other = refl
no_request reply.Failed other = refl
no_request (reply.RefusedWith a) other = refl
no_request reply.Unknown other = refl
no_request (reply.Full a b) other = refl
no_request (reply.Stopped a b) other = refl
