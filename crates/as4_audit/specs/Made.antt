-- Made records: which effects can be those of one event, at an endpoint with these modes. The machine's table says what an
-- event does (exchange_model, specs/Table.antt); here are the records that it can leave.
use Rattle.std.specs.Prelude.{◌≡◌, ◌≤◌, ◌⊎◌, ℕ, List, [], ◌∷◌, Some, None, IsSome, false, true, length, map, option_map}
use Rattle.as4_effects.specs.Sound.{nonce_in}
use Rattle.as4_effects.specs.declared.effect.Effect.{Effect}
use Rattle.as4_effects.specs.declared.effect.Effect.TheVariants as effect
use Rattle.as4_effects.specs.declared.queue.Queue.{Queue}
use Rattle.as4_effects.specs.declared.queue.Queue.TheVariants as queue
use Rattle.as4_effects.specs.declared.submission.Submission.{Submission}
use Rattle.as4_values.specs.declared.payload.Load.{Load}
use Rattle.as4_values.specs.declared.payload.Payload.{Payload}
use Rattle.exchange_model.specs.Apply.{after, first_unfit}
use Rattle.exchange_model.specs.End.{End}
use Rattle.exchange_model.specs.Questions.{head_of}
use Rattle.exchange_model.specs.Submitting.{IsSubmissionOf, are_too_large}
use Rattle.exchange_model.specs.Table.{Step, has_room}
use Rattle.exchange_model.specs.declared.event.Event.{Event}
use Rattle.exchange_model.specs.declared.outcome.Outcome.{Outcome}
use Rattle.exchange_model.specs.declared.sent.Sent.{Sent}
use Rattle.mode_values.specs.ModeMatch.{channel_mode, mode_named, mode_of}
use Rattle.mode_values.specs.declared.mode.Mode.{Mode}

-- the loads whose submission has these payloads
abbrev pub loads_of : List Payload → List Load
loads_of payloads = map (λ (payload : Payload). record { media = payload.media; content = payload.content }) payloads

-- the submission that a mode gives for the header's conversation, the payloads as loads, the moment of the header's stamp,
-- and the nonce in its identifier
pub record IsSubmitted (modes : List Mode) (end : End) (s : Submission) : Type 0 where
  pub mode : Mode
  pub named : mode_named modes mode.name ≡ Some mode
  pub ms : ℕ
  pub dated : ms ≤ 253402300799999
  pub small : are_too_large (loads_of s.payloads) ≡ false
  pub made : IsSubmissionOf mode (length end.sent) end.moment ms (nonce_in s.number s.header.id) s.header.conversation (loads_of s.payloads) s

-- the head of this queue is the submission of this number
abbrev pub IsHead : Queue → End → ℕ → Type 0
IsHead q end number = option_map (λ (s : Sent). s.submission.number) (head_of q end) ≡ Some number

-- it is the head of a channel that a mode names
abbrev pub IsChannelHead : List Mode → End → ℕ → Type 0
IsChannelHead modes end number = (mpc : List ℕ) × IsSome (channel_mode modes mpc) × IsHead (queue.Channel mpc) end number

-- refusals and no other effects
abbrev pub AreRefusals : List Effect → Type 0
AreRefusals [] = Unit {0}
AreRefusals (effect.Refused number code ∷ effects) = AreRefusals effects
AreRefusals other = ⊥

-- the effects of one event by their kinds: one submission, one setting of the clock, one try of a head, one delivery by a
-- mode, one receipt, one confirmation; a receipt and then a try of the head that a channel has after it; 1 to 256
-- refusals
unfoldable pub AreOfEvent : List Mode → End → List Effect → Type 0
AreOfEvent modes end (effect.Submitted s ∷ []) = IsSubmitted modes end s
AreOfEvent modes end (effect.Ticked tick ∷ []) = Unit {0}
AreOfEvent modes end (effect.Tried number ∷ []) = IsHead queue.Push end number ⊎ IsChannelHead modes end number
AreOfEvent modes end (effect.Delivered d ∷ []) = IsSome (mode_of modes d.header)
AreOfEvent modes end (effect.Receipted number ∷ []) = Unit {0}
AreOfEvent modes end (effect.Receipted number ∷ effect.Tried head ∷ []) =
    IsChannelHead modes (after (effect.Receipted number) end) head
AreOfEvent modes end (effect.Confirmed upto ∷ []) = Unit {0}
AreOfEvent modes end (effect.Refused number code ∷ effects) = AreRefusals effects × (length effects ≤ 255)
AreOfEvent modes end other = ⊥

-- a record's effects fit one after the other, and the journal has room for it
pub record Fits (end : End) (effects : List Effect) : Type 0 where
  pub fit : first_unfit effects end ≡ None
  pub room : has_room end effects ≡ true

-- the record of these effects is made: they are of one event, and fit
pub record IsMade (modes : List Mode) (end : End) (effects : List Effect) : Type 0 where
  pub kind : AreOfEvent modes end effects
  pub fits : Fits end effects

-- the machine's table gives exactly these effects for the event
abbrev pub Makes : List Mode → End → Event → List Effect → Type 0
Makes modes end event effects = (outcome : Outcome) × Step modes end event outcome × (outcome.effects ≡ effects)
