-- The replies that requests of a door get: none of them has a response that always closes the connection, but for a full
-- journal.
use Rattle.std.proofs.Common.{◌≡◌, ℕ, Bool, true, false, if◌then◌else◌, List, [], Option, Some, None, length, nat_le, nat_lt, slice_get, refl, sym, ap, ◌∙◌, inl, inr, true≢false}
use Rattle.std.specs.Option.{option_and_then}
use Rattle.as4_doors.specs.Asking.{AsksFor}
use Rattle.as4_doors.specs.Responses.{IsRefusalResponse, line_response, plain_media}
use Rattle.as4_doors.specs.declared.door.DoorKind.{DoorKind}
use Rattle.as4_doors.specs.declared.door.DoorKind.TheVariants.{Peer, Local}
use Rattle.as4_effects.specs.declared.effect.Effect.{Effect}
use Rattle.as4_effects.specs.declared.mark.Mark.{Mark}
use Rattle.as4_effects.specs.declared.mark.Mark.TheVariants as mark
use Rattle.as4_effects.specs.declared.queue.Queue.TheVariants as queue
use Rattle.as4_http.specs.declared.message.Request.{Request}
use Rattle.as4_message.specs.declared.received.Refusal.{Refusal}
use Rattle.as4_values.specs.declared.header.UserHeader.{UserHeader}
use Rattle.as4_values.specs.declared.message.Message.{Message}
use Rattle.as4_values.specs.declared.message.Message.TheVariants as message
use Rattle.as4_values.specs.declared.message.Pair.{Pair}
use Rattle.as4_values.specs.declared.payload.Load.{Load}
use Rattle.as4_values.specs.declared.payload.Payload.{Payload}
use Rattle.as4_values.specs.declared.signal_body.SignalBody.{SignalBody}
use Rattle.as4_values.specs.declared.signal_body.SignalBody.TheVariants as body
use Rattle.exchange_laws.proofs.EndSteps.{by_option, by_bool}
use Rattle.exchange_laws.proofs.PairRows.{pair_cases}
use Rattle.exchange_model.specs.End.{End}
use Rattle.exchange_model.specs.Questions.{head_of, is_known, is_pending, sent_of}
use Rattle.exchange_model.specs.Submitting.{are_too_large}
use Rattle.exchange_model.specs.Table.{Comes, Confirms, Errs, PairComes, PullComes, ReceiptComes, RowOf, Settles, SignalComes, Step, Submits, UserComes, entry_reply, has_room, mark_reply, read_reply, standing_reply}
use Rattle.exchange_model.specs.declared.event.Event.{Event}
use Rattle.exchange_model.specs.declared.inbox_entry.InboxEntry.{InboxEntry}
use Rattle.exchange_model.specs.declared.outcome.Outcome.{Outcome}
use Rattle.exchange_model.specs.declared.reply.Reply.{Reply}
use Rattle.exchange_model.specs.declared.reply.Reply.TheVariants as reply
use Rattle.exchange_model.specs.declared.sent.Sent.{Sent}
use Rattle.exchange_model.specs.declared.what.What.{What}
use Rattle.exchange_model.specs.declared.what.What.TheVariants as what
use Rattle.mode_values.specs.ModeMatch.{mode_of, mode_named, channel_mode}
use Rattle.mode_values.specs.declared.mode.Mode.{Mode}
use Rattle.msh_transitions.specs.Given.{bare_reply}
use Rattle.office.specs.Observed.{RepliesToRead, StepWhere}
use Rattle.sessions.specs.Answering.{TellsReply}
use Rattle.sessions.specs.declared.ended.Ended.{Ended}
use Rattle.as4_keep.specs.Connections.{is_full}
use Rattle.as4_keep.specs.InOrder.{SaysConnection}

-- a reply that a request of a door may get
abbrev pub is_answer : Reply → Bool
is_answer (reply.Stopped before after) = false
is_answer (reply.Ticked failed) = false
is_answer (reply.Push address message) = false
is_answer reply.Nothing = false
is_answer (reply.Request address message) = false
is_answer other = true

abbrev pub Answers : Outcome → Type 0
Answers outcome = is_answer outcome.reply ≡ true

by_reply : (effects : List Effect) (r : Reply) (outcome : Outcome) → is_answer r ≡ true → outcome ≡ record { effects = effects; reply = r } → Answers outcome
by_reply effects r outcome is same = ap (λ (o : Outcome). is_answer o.reply) same ∙ is

errs : (code : ℕ) (about : List ℕ) (event : Event) (outcome : Outcome) → Errs code about event outcome → Answers outcome
errs code about event outcome h = by_reply [] (reply.Answer (message.Signal h.0)) outcome refl h.2

submits : (modes : List Mode) (end : End) (event : Event) (name : List ℕ) (conversation : Option (List ℕ)) (loads : List Load) (outcome : Outcome)
    → Submits modes end event name conversation loads outcome → Answers outcome
unfolding Submits
submits modes end event name conversation loads outcome h =
    by_option _ _ _ (mode_named modes name) h (by_reply [] reply.NoMode outcome refl) (λ mode _ k.
    by_bool _ _ _ (nat_le 1048576 (length end.sent)) k (λ _. by_reply [] reply.OutboxFull outcome refl) (λ _ l.
    by_bool _ _ _ (are_too_large loads) l (λ _. by_reply [] reply.TooLarge outcome refl) (λ _ t. by_reply _ _ outcome refl t.2)))

user_comes : (modes : List Mode) (end : End) (event : Event) (header : UserHeader) (payloads : List Payload) (outcome : Outcome)
    → UserComes modes end event header payloads outcome → Answers outcome
unfolding UserComes
user_comes modes end event header payloads outcome h =
    by_option _ _ _ (mode_of modes header) h (errs 10 header.id event outcome) (λ mode _ k.
    by_bool _ _ _ (is_known header.id end.inbox) k (λ _ r. by_reply _ _ outcome refl r.2) (λ _ d. by_reply _ _ outcome refl d.3.2))

pull_comes : (modes : List Mode) (end : End) (event : Event) (id mpc : List ℕ) (outcome : Outcome) → PullComes modes end event id mpc outcome → Answers outcome
unfolding PullComes
pull_comes modes end event id mpc outcome h =
    by_option _ _ _ (channel_mode modes mpc) h (errs 1 id event outcome) (λ mode _ k.
    by_option _ _ _ (head_of (queue.Channel mpc) end) k (errs 6 id event outcome) (λ s _. by_reply _ _ outcome refl))

settles : (s : Sent) (outcome : Outcome) → Settles s outcome → Answers outcome
settles s outcome k = by_bool _ _ _ (is_pending s) k (λ _. by_reply _ _ outcome refl) (λ _. by_reply [] reply.Quiet outcome refl)

receipt_comes : (end : End) (event : Event) (id : List ℕ) (ref_to : Option (List ℕ)) (copy : Option UserHeader) (outcome : Outcome)
    → ReceiptComes end event id ref_to copy outcome → Answers outcome
unfolding ReceiptComes
receipt_comes end event id ref_to copy outcome h =
    by_option _ _ _ (option_and_then (λ ref. sent_of ref end.sent) ref_to) h (errs 3 id event outcome) (λ s _ k.
    elim k as (λ _. Answers outcome) [ inl other ↦ errs 302 id event outcome other.1 | inr own ↦ settles s outcome own.1 ])

signal_comes : (modes : List Mode) (end : End) (event : Event) (id : List ℕ) (ref_to : Option (List ℕ)) (b : SignalBody) (outcome : Outcome)
    → SignalComes modes end event id ref_to b outcome → Answers outcome
signal_comes modes end event id ref_to (body.Pull mpc) outcome h = pull_comes modes end event id mpc outcome h
signal_comes modes end event id ref_to (body.Receipt copy) outcome h = receipt_comes end event id ref_to copy outcome h
signal_comes modes end event id ref_to (body.Errors items) outcome h = by_reply _ reply.Quiet outcome refl h

pair_comes : (modes : List Mode) (end : End) (event : Event) (pair : Pair) (outcome : Outcome)
    → PairComes modes end event pair.receipt pair.pull outcome → Answers outcome
pair_comes modes end event pair outcome h = elim (pair_cases modes end event pair outcome h) as (λ _. Answers outcome) [
  | inl r ↦ errs r.code r.about event outcome r.errs
  | inr s ↦ elim s.row as (λ _. Answers outcome) [
    | inl a ↦ pull_comes modes end event pair.pull.id s.mpc outcome a.row
    | inr b ↦ by_reply _ b.pulled.reply outcome (pull_comes modes _ event pair.pull.id s.mpc b.pulled b.row) b.is
  ]
]

comes : (modes : List Mode) (end : End) (event : Event) (m : Message) (outcome : Outcome) → Comes modes end event m outcome → Answers outcome
comes modes end event (message.User header payloads) outcome h = user_comes modes end event header payloads outcome h
comes modes end event (message.Signal signal) outcome h = signal_comes modes end event signal.id signal.ref_to signal.body outcome h
comes modes end event (message.Pair pair) outcome h = pair_comes modes end event pair outcome h

reads : (end : End) (n : ℕ) → is_answer (read_reply end n) ≡ true
unfolding read_reply
reads end n = by_test (nat_lt n end.confirmed)
  where
    entry : (o : Option InboxEntry) → is_answer (entry_reply o) ≡ true
    entry None = refl
    entry (Some e) = refl

    by_test : (b : Bool) → is_answer (if b then reply.Gone else entry_reply (slice_get end.inbox n)) ≡ true
    by_test true = refl
    by_test false = entry (slice_get end.inbox n)

confirms : (end : End) (upto : ℕ) (outcome : Outcome) → Confirms end upto outcome → Answers outcome
unfolding Confirms
confirms end upto outcome h =
    by_bool _ _ _ (nat_lt upto end.confirmed) h (λ _. by_reply [] reply.Gone outcome refl) (λ _ k.
    by_bool _ _ _ (nat_le (length end.inbox) upto) k (λ _. by_reply [] reply.NoEntry outcome refl) (λ _. by_reply _ _ outcome refl))

stands : (o : Option Sent) → is_answer (standing_reply o) ≡ true
stands None = refl
stands (Some s) = marked s.tries s.mark
  where
    marked : (tries : ℕ) (m : Mark) → is_answer (mark_reply tries m) ≡ true
    marked tries mark.Pending = refl
    marked tries mark.Receipted = refl
    marked tries mark.Failed = refl
    marked tries (mark.Refused code) = refl

-- by the rows of the event
row_answers : (modes : List Mode) (end : End) (event : Event) (door : DoorKind) (request : Request) (w : What) (outcome : Outcome)
    → AsksFor door request w → RowOf modes end event w outcome → Answers outcome
row_answers modes end event door request (what.Submit mode conversation loads) outcome asks h = submits modes end event mode conversation loads outcome h
row_answers modes end event door request (what.Came m) outcome asks h = comes modes end event m outcome h
row_answers modes end event door request (what.Read n) outcome asks h = by_reply [] (read_reply end n) outcome (reads end n) h
row_answers modes end event door request (what.Confirm upto) outcome asks h = confirms end upto outcome h
row_answers modes end event door request (what.Status id) outcome asks h =
    by_reply [] (standing_reply (sent_of id end.sent)) outcome (stands (sent_of id end.sent)) h
row_answers modes end event Peer request what.Tick outcome asks h = absurd asks
row_answers modes end event Local request what.Tick outcome asks h = absurd asks.2
row_answers modes end event Peer request what.Take outcome asks h = absurd asks
row_answers modes end event Local request what.Take outcome asks h = absurd asks.2
row_answers modes end event Peer request (what.Ask mode) outcome asks h = absurd asks
row_answers modes end event Local request (what.Ask mode) outcome asks h = absurd asks.2
row_answers modes end event Peer request (what.AskWith mode n) outcome asks h = absurd asks
row_answers modes end event Local request (what.AskWith mode n) outcome asks h = absurd asks.2

step_answers : (modes : List Mode) (end : End) (event : Event) (door : DoorKind) (request : Request) (outcome : Outcome)
    → AsksFor door request event.what → Step modes end event outcome → Answers outcome
step_answers modes end event door request outcome asks step =
    by_bool _ _ _ (has_room end step.row.effects) step.limited
    (λ _ same. ap (λ (o : Outcome). is_answer o.reply) same ∙ row_answers modes end event door request event.what step.row asks step.decided)
    (λ _. by_reply [] _ outcome refl)

-- the payloads of an entry make no difference
bare_answers : (r : Reply) → is_answer (bare_reply r) ≡ is_answer r
unfolding bare_reply
bare_answers (reply.Submitted number id) = refl
bare_answers reply.NoMode = refl
bare_answers reply.OutboxFull = refl
bare_answers reply.TooLarge = refl
bare_answers (reply.Ticked failed) = refl
bare_answers (reply.Push address message) = refl
bare_answers reply.Nothing = refl
bare_answers (reply.Request address message) = refl
bare_answers (reply.Answer message) = refl
bare_answers reply.Quiet = refl
bare_answers (reply.Entry header payloads) = refl
bare_answers reply.NoEntry = refl
bare_answers reply.Gone = refl
bare_answers (reply.Confirmed upto) = refl
bare_answers (reply.Pending tries) = refl
bare_answers reply.Receipted = refl
bare_answers reply.Failed = refl
bare_answers (reply.RefusedWith code) = refl
bare_answers reply.Unknown = refl
bare_answers (reply.Full size need) = refl
bare_answers (reply.Stopped before after) = refl

unseen_answers : (end : End) (n : ℕ) (r : Reply) → RepliesToRead false end n r → is_answer r ≡ true
unseen_answers end n r (inl same) = sym (bare_answers r) ∙ ap is_answer same ∙ bare_answers (read_reply end n) ∙ reads end n
unseen_answers end n r (inr gone) = ap is_answer gone

pub where_answers : (observable : Bool) (modes : List Mode) (end : End) (event : Event) (door : DoorKind) (request : Request) (outcome : Outcome)
    → AsksFor door request event.what → StepWhere observable modes end event outcome → Answers outcome
where_answers true modes end event door request outcome asks step = step_answers modes end event door request outcome asks step
where_answers false modes end event door request outcome asks (inl step) = step_answers modes end event door request outcome asks step
where_answers false modes end event door request outcome asks (inr unseen) = unseen_answers end unseen.number outcome.reply unseen.reply

-- the response to such a reply says whether the connection goes on
pub says_so : (kept : Bool) (r : Reply) (end : Ended) (bytes : List ℕ) → is_answer r ≡ true → TellsReply kept r end bytes → is_full end ≡ true → SaysConnection kept bytes
unfolding line_response
says_so kept (reply.Answer message) end bytes is tells full = (200, Some tells.1.0, tells.1.1, tells.1.3)
says_so kept reply.Quiet end bytes is tells full = (202, None, [], tells.1)
says_so kept (reply.Submitted number id) end bytes is tells full = (200, Some plain_media, _, tells.1)
says_so kept reply.NoMode end bytes is tells full = (404, Some plain_media, _, tells.1)
says_so kept reply.OutboxFull end bytes is tells full = (409, Some plain_media, _, tells.1)
says_so kept reply.TooLarge end bytes is tells full = (409, Some plain_media, _, tells.1)
says_so kept (reply.Entry header payloads) end bytes is tells full = (200, Some tells.1.0, tells.1.1, tells.1.3)
says_so kept reply.NoEntry end bytes is tells full = (404, Some plain_media, _, tells.1)
says_so kept reply.Gone end bytes is tells full = (410, Some plain_media, _, tells.1)
says_so kept (reply.Confirmed upto) end bytes is tells full = (200, Some plain_media, _, tells.1)
says_so kept (reply.Pending tries) end bytes is tells full = (200, Some plain_media, _, tells.1)
says_so kept reply.Receipted end bytes is tells full = (200, Some plain_media, _, tells.1)
says_so kept reply.Failed end bytes is tells full = (200, Some plain_media, _, tells.1)
says_so kept (reply.RefusedWith code) end bytes is tells full = (200, Some plain_media, _, tells.1)
says_so kept reply.Unknown end bytes is tells full = (404, Some plain_media, _, tells.1)
says_so kept (reply.Full size need) end bytes is tells full = absurd (true≢false (sym full ∙ ap is_full tells.0))
says_so kept (reply.Stopped before after) end bytes is tells full = absurd (true≢false (sym is))
says_so kept (reply.Ticked failed) end bytes is tells full = absurd (true≢false (sym is))
says_so kept (reply.Push address message) end bytes is tells full = absurd (true≢false (sym is))
says_so kept reply.Nothing end bytes is tells full = absurd (true≢false (sym is))
says_so kept (reply.Request address message) end bytes is tells full = absurd (true≢false (sym is))

pub refusal_says_so : (kept : Bool) (refusal : Refusal) (moment nonce : ℕ) (bytes : List ℕ) → IsRefusalResponse kept refusal moment nonce bytes → SaysConnection kept bytes
refusal_says_so kept refusal moment nonce bytes says = (200, Some says.2.0, says.2.1, says.2.3)
