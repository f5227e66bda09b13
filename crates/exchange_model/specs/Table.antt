-- The machine: what an endpoint does with an event, row by row. In each function the first row that fits decides.
--
--     event                 where                                            effect       reply
--     Submit                no mode of that name                             none         NoMode
--                           1,048,576 submissions                            none         OutboxFull
--                           too many loads, a media text of no part, or
--                           too many bytes                                   none         TooLarge
--                           else                                             Submitted    Submitted
--     Tick                  stamp at most the moment                         none         Ticked 0
--                           else                                             Ticked       Ticked, those that fail now
--     Take                  no head in the push queue                        none         Nothing
--                           else                                             Tried        Push
--     Ask                   no pull mode of that name                        none         NoMode
--                           else                                             none         Request, a pull request
--     AskWith               no pull mode of that name                        none         NoMode
--                           below the confirmed count                        none         Gone
--                           at least the inbox's length                      none         NoEntry
--                           else                                             none         Request, a pair
--     Came, user message    no mode matches                                  none         error 0010
--                           its identifier is in the inbox                   none         receipt
--                           else                                             Delivered    receipt
--     Came, pull request    no mode names the channel                        none         error 0001
--                           no head in the channel                           none         error 0006
--                           else                                             Tried        the user message
--     Came, receipt         its reference names no submission                none         error 0003
--                           it has a copy that is not the header             none         error 0302
--                           the submission is pending                        Receipted    Quiet
--                           else                                             none         Quiet
--     Came, pair            its receipt gives an error                       none         that error
--                           no mode names the channel                        none         error 0001
--                           else, after the receipt's effect, if any:
--                           no head in the channel                           that         error 0006
--                           else                                             that, Tried  the user message
--     Came, errors          each pending submission that a failure names     Refused      Quiet
--     Read                  below the confirmed count                        none         Gone
--                           at least the inbox's length                      none         NoEntry
--                           else                                             none         Entry
--     Confirm               below the confirmed count                        none         Gone
--                           at least the inbox's length                      none         NoEntry
--                           else                                             Confirmed    Confirmed
--     Status                not submitted here                               none         Unknown
--                           else                                             none         Pending, Receipted, Failed,
--                                                                                         RefusedWith
--     any                   the journal has no room for the effects' record  none         Full
--
-- One-Way/Push and One-Way/Pull: ebMS 3.0 Core, section 2.2, and AS4 Profile, section 2; retries and duplicates: AS4
-- Profile, section 3.2; receipts: ebMS 3.0 Core, section 5.2.3.3, and AS4 Profile, section 5.1.8; errors: ebMS 3.0
-- Core, section 6; pull requests: ebMS 3.0 Core, sections 3.2 and 5.2.3.1; several units in one message: ebMS 3.0 Core,
-- section 5.2.1. What these leave open is this handler's own.
use Rattle.std.specs.Prelude.{◌≡◌, ◌≢◌, ℕ, ◌+◌, ◌⊎◌, List, [], ◌∷◌, ◌++◌, Bool, true, false, ◌||◌, is_some, ◌==◌, nat_lt, nat_le, if◌then◌else◌, Option, Some, None, MatchOption, length, slice_get}
use Rattle.std.specs.Bool.{MatchBool}
use Rattle.std.specs.List.{count_by}
use Rattle.std.specs.Option.{option_and_then}
use Rattle.as4_codes.specs.Signals.{IsReceiptOf, IsErrorSignalOf, IsPullOf, IsPairOf}
use Rattle.as4_effects.specs.declared.delivery.Delivery.{Delivery}
use Rattle.as4_effects.specs.declared.effect.Effect.{Effect}
use Rattle.as4_effects.specs.declared.effect.Effect.TheVariants as effect
use Rattle.as4_effects.specs.declared.effect.Tick.{Tick}
use Rattle.as4_effects.specs.declared.queue.Queue.TheVariants as queue
use Rattle.as4_effects.specs.declared.submission.Submission.{Submission}
use Rattle.mode_values.specs.ModeMatch.{mode_of, mode_named, channel_mode}
use Rattle.as4_values.specs.declared.header.UserHeader.{UserHeader}
use Rattle.as4_values.specs.declared.message.Pair.{Pair}
use Rattle.as4_values.specs.declared.message.Message.{Message}
use Rattle.as4_values.specs.declared.message.Message.TheVariants as message
use Rattle.mode_values.specs.declared.mode.Mode.{Mode}
use Rattle.as4_values.specs.declared.payload.Load.{Load}
use Rattle.as4_values.specs.declared.payload.Payload.{Payload}
use Rattle.as4_values.specs.declared.route.Route.{Route}
use Rattle.as4_values.specs.declared.route.Route.TheVariants as route
use Rattle.as4_values.specs.declared.signal.Signal.{Signal}
use Rattle.as4_values.specs.declared.signal_body.SignalBody.{SignalBody}
use Rattle.as4_values.specs.declared.signal_body.SignalBody.TheVariants as body
use Rattle.exchange_model.specs.Apply.{after_all, record_len}
use Rattle.exchange_model.specs.End.{End}
use Rattle.exchange_model.specs.Questions.{is_pending, is_spent, is_known, head_of, sent_of}
use Rattle.exchange_model.specs.Refusing.{refusals_of}
use Rattle.exchange_model.specs.Submitting.{IsSubmissionOf, are_too_large, address_of}
use Rattle.exchange_model.specs.declared.event.Event.{Event}
use Rattle.exchange_model.specs.declared.inbox_entry.InboxEntry.{InboxEntry}
pub use Rattle.exchange_model.specs.declared.outcome.Outcome.{Outcome}
use Rattle.exchange_model.specs.declared.reply.Reply.{Reply}
use Rattle.exchange_model.specs.declared.reply.Reply.TheVariants as reply
use Rattle.as4_effects.specs.declared.mark.Mark.{Mark}
use Rattle.as4_effects.specs.declared.mark.Mark.TheVariants as mark
use Rattle.exchange_model.specs.declared.sent.Sent.{Sent}
use Rattle.exchange_model.specs.declared.what.What.{What}
use Rattle.exchange_model.specs.declared.what.What.TheVariants as what

-- no effect
abbrev pub Rests : Reply → Outcome → Type 0
Rests r outcome = outcome ≡ record { effects = []; reply = r }

-- one effect
abbrev pub Gives : Effect → Reply → Outcome → Type 0
Gives e r outcome = outcome ≡ record { effects = e ∷ []; reply = r }

-- an error signal about a message, and no effect
abbrev pub Errs : ℕ → List ℕ → Event → Outcome → Type 0
Errs code about event outcome =
    (signal : Signal) × IsErrorSignalOf code (Some about) event.stamp event.nonce signal
    × Rests (reply.Answer (message.Signal signal)) outcome

-- a receipt of a message, and these effects
abbrev pub Receipts : UserHeader → List Effect → Event → Outcome → Type 0
Receipts header effects event outcome =
    (signal : Signal) × IsReceiptOf header event.stamp event.nonce signal
    × (outcome ≡ record { effects = effects; reply = reply.Answer (message.Signal signal) })

-- the user message of a submission
abbrev pub message_of : Submission → Message
message_of s = message.User s.header s.payloads

-- Submit
abbrev pub TakesIn : Mode → End → Event → Option (List ℕ) → List Load → Outcome → Type 0
TakesIn mode end event conversation loads outcome =
    (s : Submission) × IsSubmissionOf mode (length end.sent) end.moment event.stamp event.nonce conversation loads s
    × Gives (effect.Submitted s) (reply.Submitted s.number s.header.id) outcome

unfoldable pub Submits : List Mode → End → Event → List ℕ → Option (List ℕ) → List Load → Outcome → Type 0
Submits modes end event name conversation loads outcome =
    MatchOption (mode_named modes name) (Rests reply.NoMode outcome) (λ mode.
    MatchBool (nat_le 1048576 (length end.sent)) (Rests reply.OutboxFull outcome)
    (MatchBool (are_too_large loads) (Rests reply.TooLarge outcome)
    (TakesIn mode end event conversation loads outcome)))

-- Tick
unfoldable pub Ticks : End → Event → Outcome → Type 0
Ticks end event outcome =
    MatchBool (nat_le event.stamp end.moment) (Rests (reply.Ticked 0) outcome)
    ((tick : Tick) × (tick.moment ≡ event.stamp)
    × Gives (effect.Ticked tick) (reply.Ticked (count_by (is_spent event.stamp) end.sent)) outcome)

-- Take
unfoldable pub Takes : End → Outcome → Type 0
Takes end outcome =
    MatchOption (head_of queue.Push end) (Rests reply.Nothing outcome) (λ s.
    Gives (effect.Tried s.submission.number)
    (reply.Push (address_of s.submission.route) (message_of s.submission)) outcome)

-- Ask
abbrev pub AsksBy : Route → Event → Outcome → Type 0
AsksBy (route.Push address) event outcome = Rests reply.NoMode outcome
AsksBy (route.Pull mpc address) event outcome =
    (signal : Signal) × IsPullOf mpc event.stamp event.nonce signal
    × Rests (reply.Request address (message.Signal signal)) outcome

unfoldable pub Asks : List Mode → Event → List ℕ → Outcome → Type 0
Asks modes event name outcome =
    MatchOption (mode_named modes name) (Rests reply.NoMode outcome) (λ mode. AsksBy mode.route event outcome)

-- AskWith
abbrev pub AsksWithEntry : List ℕ → List ℕ → Event → Option InboxEntry → Outcome → Type 0
AsksWithEntry mpc address event None outcome = Rests reply.NoEntry outcome
AsksWithEntry mpc address event (Some entry) outcome =
    (pair : Pair) × IsPairOf entry.header mpc event.stamp event.nonce pair
    × Rests (reply.Request address (message.Pair pair)) outcome

abbrev pub AsksWithBy : Route → End → Event → ℕ → Outcome → Type 0
AsksWithBy (route.Push address) end event n outcome = Rests reply.NoMode outcome
AsksWithBy (route.Pull mpc address) end event n outcome =
    MatchBool (nat_lt n end.confirmed) (Rests reply.Gone outcome)
    (AsksWithEntry mpc address event (slice_get end.inbox n) outcome)

unfoldable pub AsksWith : List Mode → End → Event → List ℕ → ℕ → Outcome → Type 0
AsksWith modes end event name n outcome =
    MatchOption (mode_named modes name) (Rests reply.NoMode outcome) (λ mode. AsksWithBy mode.route end event n outcome)

-- Came, user message
abbrev pub Delivers : Event → UserHeader → List Payload → Outcome → Type 0
Delivers event header payloads outcome =
    (d : Delivery) × (d.header ≡ header) × (d.payloads ≡ payloads)
    × Receipts header (effect.Delivered d ∷ []) event outcome

unfoldable pub UserComes : List Mode → End → Event → UserHeader → List Payload → Outcome → Type 0
UserComes modes end event header payloads outcome =
    MatchOption (mode_of modes header) (Errs 10 header.id event outcome) (λ mode.
    MatchBool (is_known header.id end.inbox) (Receipts header [] event outcome)
    (Delivers event header payloads outcome))

-- Came, pull request
unfoldable pub PullComes : List Mode → End → Event → List ℕ → List ℕ → Outcome → Type 0
PullComes modes end event id mpc outcome =
    MatchOption (channel_mode modes mpc) (Errs 1 id event outcome) (λ mode.
    MatchOption (head_of (queue.Channel mpc) end) (Errs 6 id event outcome) (λ s.
    Gives (effect.Tried s.submission.number) (reply.Answer (message_of s.submission)) outcome))

-- Came, receipt
abbrev pub Settles : Sent → Outcome → Type 0
Settles s outcome =
    MatchBool (is_pending s) (Gives (effect.Receipted s.submission.number) reply.Quiet outcome)
    (Rests reply.Quiet outcome)

-- a copy is there, and it isn't this header
abbrev pub IsOther : Option UserHeader → UserHeader → Type 0
IsOther None header = ⊥
IsOther (Some copy) header = copy ≢ header

unfoldable pub ReceiptComes : End → Event → List ℕ → Option (List ℕ) → Option UserHeader → Outcome → Type 0
ReceiptComes end event id ref_to copy outcome =
    MatchOption (option_and_then (λ ref. sent_of ref end.sent) ref_to) (Errs 3 id event outcome) (λ s.
    (IsOther copy s.submission.header × Errs 302 id event outcome)
    ⊎ ((¬ IsOther copy s.submission.header) × Settles s outcome))

-- Came, a signal; this includes the row of errors
abbrev pub SignalComes : List Mode → End → Event → List ℕ → Option (List ℕ) → SignalBody → Outcome → Type 0
SignalComes modes end event id ref_to (body.Pull mpc) outcome = PullComes modes end event id mpc outcome
SignalComes modes end event id ref_to (body.Receipt copy) outcome = ReceiptComes end event id ref_to copy outcome
SignalComes modes end event id ref_to (body.Errors items) outcome =
    outcome ≡ record { effects = refusals_of ref_to end.sent items; reply = reply.Quiet }

-- Came, pair: the row of its receipt; unless that gives an error, the row of its pull request follows, at the endpoint
-- after the receipt's effect. One record holds the effects of both rows. Where no mode names the channel, nothing
-- changes
abbrev pub is_quiet : Reply → Bool
is_quiet reply.Quiet = true
is_quiet other = false

abbrev pub names_channel : List Mode → SignalBody → Bool
names_channel modes (body.Pull mpc) = is_some (channel_mode modes mpc)
names_channel modes other = false

abbrev pub PullsBehind : List Mode → End → Event → Signal → Outcome → Outcome → Type 0
PullsBehind modes end event pull settled outcome =
    (pulled : Outcome) × SignalComes modes (after_all settled.effects end) event pull.id pull.ref_to pull.body pulled
    × (outcome ≡ record {
      effects = if names_channel modes pull.body then settled.effects ++ pulled.effects else [];
      reply = pulled.reply;
    })

unfoldable pub PairComes : List Mode → End → Event → Signal → Signal → Outcome → Type 0
PairComes modes end event receipt pull outcome =
    (settled : Outcome) × SignalComes modes end event receipt.id receipt.ref_to receipt.body settled
    × MatchBool (is_quiet settled.reply) (PullsBehind modes end event pull settled outcome) (outcome ≡ settled)

abbrev pub Comes : List Mode → End → Event → Message → Outcome → Type 0
Comes modes end event (message.User header payloads) outcome = UserComes modes end event header payloads outcome
Comes modes end event (message.Signal signal) outcome =
    SignalComes modes end event signal.id signal.ref_to signal.body outcome
Comes modes end event (message.Pair pair) outcome = PairComes modes end event pair.receipt pair.pull outcome

-- Read
abbrev pub entry_reply : Option InboxEntry → Reply
entry_reply None = reply.NoEntry
entry_reply (Some entry) = reply.Entry entry.header entry.payloads

unfoldable pub read_reply : End → ℕ → Reply
read_reply end n = if nat_lt n end.confirmed then reply.Gone else entry_reply (slice_get end.inbox n)

-- Confirm
unfoldable pub Confirms : End → ℕ → Outcome → Type 0
Confirms end upto outcome =
    MatchBool (nat_lt upto end.confirmed) (Rests reply.Gone outcome)
    (MatchBool (nat_le (length end.inbox) upto) (Rests reply.NoEntry outcome)
    (Gives (effect.Confirmed upto) (reply.Confirmed upto) outcome))

-- Status
abbrev pub mark_reply : ℕ → Mark → Reply
mark_reply tries mark.Pending = reply.Pending tries
mark_reply tries mark.Receipted = reply.Receipted
mark_reply tries mark.Failed = reply.Failed
mark_reply tries (mark.Refused code) = reply.RefusedWith code

abbrev pub standing_reply : Option Sent → Reply
standing_reply None = reply.Unknown
standing_reply (Some s) = mark_reply s.tries s.mark

-- the rows of an event
abbrev pub RowOf : List Mode → End → Event → What → Outcome → Type 0
RowOf modes end event (what.Submit mode conversation loads) outcome = Submits modes end event mode conversation loads outcome
RowOf modes end event what.Tick outcome = Ticks end event outcome
RowOf modes end event what.Take outcome = Takes end outcome
RowOf modes end event (what.Ask mode) outcome = Asks modes event mode outcome
RowOf modes end event (what.AskWith mode n) outcome = AsksWith modes end event mode n outcome
RowOf modes end event (what.Came came) outcome = Comes modes end event came outcome
RowOf modes end event (what.Read n) outcome = Rests (read_reply end n) outcome
RowOf modes end event (what.Confirm upto) outcome = Confirms end upto outcome
RowOf modes end event (what.Status id) outcome = Rests (standing_reply (sent_of id end.sent)) outcome

-- the most bytes of a journal (this handler's own)
abbrev pub journal_limit : ℕ
journal_limit = 4294967296

-- the journal has room for a record of these effects
unfoldable pub has_room : End → List Effect → Bool
has_room end effects = (length effects == 0) || nat_le (end.size + record_len effects) journal_limit

-- the row, where the journal has room for its record; else the reply `Full`
abbrev pub IsLimited : End → Outcome → Outcome → Type 0
IsLimited end row outcome =
    MatchBool (has_room end row.effects) (outcome ≡ row)
    (Rests (reply.Full end.size (record_len row.effects)) outcome)

-- an endpoint with these modes gives this outcome to an event
pub record Step (modes : List Mode) (end : End) (event : Event) (outcome : Outcome) : Type 0 where
  pub row : Outcome
  pub decided : RowOf modes end event event.what row
  pub limited : IsLimited end row outcome
