-- What a request at the local door submits has a short conversation.
use Rattle.std.proofs.Common.{ℕ, ◌≤◌, List, [], Option, Some, None, length}
use Rattle.std.specs.Prelude.{IfSome, nat_le, nat_lt}
use Rattle.std.specs.List.{All}
use Rattle.std.proofs.lemmas.List.Elements.{All-nil, All-cons, All-contains}
use Rattle.as4_doors.specs.Targets.{IsConversation, AsksBy}
use Rattle.as4_effects.specs.declared.effect.Effect.{Effect}
use Rattle.as4_effects.specs.declared.effect.Effect.TheVariants as effect
use Rattle.as4_effects.specs.declared.submission.Submission.{Submission}
use Rattle.as4_http.specs.declared.message.Method.{Method}
use Rattle.as4_values.specs.declared.payload.Load.{Load}
use Rattle.exchange_model.specs.End.{End}
use Rattle.exchange_model.specs.Submitting.{are_too_large}
use Rattle.exchange_model.specs.Table.{Rests, Gives, Submits, Confirms, RowOf, has_room}
use Rattle.exchange_model.specs.declared.event.Event.{Event}
use Rattle.exchange_model.specs.declared.outcome.Outcome.{Outcome}
use Rattle.exchange_model.specs.declared.reply.Reply.{Reply}
use Rattle.exchange_model.specs.declared.reply.Reply.TheVariants as reply
use Rattle.exchange_model.specs.declared.what.What.{What}
use Rattle.exchange_model.specs.declared.what.What.TheVariants as what
use Rattle.mode_values.specs.ModeMatch.{mode_named}
use Rattle.mode_values.specs.declared.mode.Mode.{Mode}
use Rattle.submitted_laws.proofs.Cases.{by_option, by_bool}
use Rattle.submitted_laws.specs.Door.{IsSubmittedAtDoor}
use Rattle.submitted_laws.specs.Submitted.{IsShortlySubmitted}

-- what the effects submit is short
abbrev IsShortEffect : Effect → Type 0
IsShortEffect (effect.Submitted s) = IsShortlySubmitted s
IsShortEffect other = Unit {0}

abbrev SubmitsShortly : Outcome → Type 0
SubmitsShortly outcome = All IsShortEffect outcome.effects

rests : (r : Reply) (outcome : Outcome) → Rests r outcome → SubmitsShortly outcome
rests r outcome is = rw is (All-nil IsShortEffect)

gives : (e : Effect) (r : Reply) (outcome : Outcome) → IsShortEffect e → Gives e r outcome → SubmitsShortly outcome
gives e r outcome short is = rw is (All-cons IsShortEffect e [] short (All-nil IsShortEffect))

conversation_within : (piece : List ℕ) (conversation : Option (List ℕ)) → IsConversation piece conversation → IfSome conversation (λ text. length text ≤ 255)
conversation_within piece None is = tt
conversation_within piece (Some text) is = is.1

submits : (modes : List Mode) (end : End) (event : Event) (name : List ℕ) (conversation : Option (List ℕ)) (loads : List Load) (outcome : Outcome)
    → IfSome conversation (λ text. length text ≤ 255) → Submits modes end event name conversation loads outcome → SubmitsShortly outcome
unfolding Submits
submits modes end event name conversation loads outcome talks row =
    by_option _ _ _ (mode_named modes name) row (rests reply.NoMode outcome) (λ mode k.
    by_bool _ _ _ (nat_le 1048576 (length end.sent)) k (rests reply.OutboxFull outcome) (λ l.
    by_bool _ _ _ (are_too_large loads) l (rests reply.TooLarge outcome) (λ t.
    gives (effect.Submitted t.0) (reply.Submitted t.0.number t.0.header.id) outcome
    (record {
      mode = mode;
      number = length end.sent;
      now = end.moment;
      ms = event.stamp;
      nonce = event.nonce;
      conversation = conversation;
      loads = loads;
      made = t.1;
      talks = talks;
    })
    t.2)))

confirms : (end : End) (upto : ℕ) (outcome : Outcome) → Confirms end upto outcome → SubmitsShortly outcome
unfolding Confirms
confirms end upto outcome row =
    by_bool _ _ _ (nat_lt upto end.confirmed) row (rests reply.Gone outcome) (λ k.
    by_bool _ _ _ (nat_le (length end.inbox) upto) k (rests reply.NoEntry outcome)
    (gives (effect.Confirmed upto) (reply.Confirmed upto) outcome tt))

-- by what the request asks for
by_what : (modes : List Mode) (end : End) (event : Event) (method : Method) (names : List (List ℕ)) (media : Option (List ℕ)) (body : List ℕ)
    (w : What) (outcome : Outcome) → AsksBy method names media body w → RowOf modes end event w outcome → SubmitsShortly outcome
by_what modes end event method names media body (what.Submit name conversation loads) outcome asks row =
    submits modes end event name conversation loads outcome (conversation_within asks.1 conversation asks.5) row
by_what modes end event method names media body what.Tick outcome asks row = absurd asks
by_what modes end event method names media body what.Take outcome asks row = absurd asks
by_what modes end event method names media body (what.Ask mode) outcome asks row = absurd asks
by_what modes end event method names media body (what.AskWith mode n) outcome asks row = absurd asks
by_what modes end event method names media body (what.Came m) outcome asks row = absurd asks
by_what modes end event method names media body (what.Read n) outcome asks row = rests _ outcome row
by_what modes end event method names media body (what.Confirm upto) outcome asks row = confirms end upto outcome row
by_what modes end event method names media body (what.Status id) outcome asks row = rests _ outcome row

pub door_submits_shortly : (s : Submission) → IsSubmittedAtDoor s → IsShortlySubmitted s
door_submits_shortly s is =
    let row : SubmitsShortly is.step.row =
    by_what is.modes is.end is.event is.request.method is.asks.0 is.request.media is.request.body is.event.what is.step.row is.asks.2 is.step.decided in
    let short : SubmitsShortly is.outcome =
    by_bool _ _ _ (has_room is.end is.step.row.effects) is.step.limited (λ same. rw same row) (rests _ is.outcome) in
    All-contains IsShortEffect is.outcome.effects (effect.Submitted s) short is.submits
