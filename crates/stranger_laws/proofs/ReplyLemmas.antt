-- Which replies the rows of the table give: a receipt has a reference, only a tick is answered with `Ticked`, and no row
-- says that the journal is full.
use Rattle.std.proofs.Common.{◌≡◌, ℕ, inl, inr, List, [], Bool, true, false, Option, Some, None, length, refl, sym, subst}
use Rattle.std.specs.Prelude.{nat_le, nat_lt, slice_get, if◌then◌else◌}
use Rattle.std.specs.Option.{option_and_then}
use Rattle.mode_values.specs.ModeMatch.{mode_named, mode_of, channel_mode}
use Rattle.mode_values.specs.declared.mode.Mode.{Mode}
use Rattle.as4_values.specs.declared.header.UserHeader.{UserHeader}
use Rattle.as4_values.specs.declared.message.Message.{Message}
use Rattle.as4_values.specs.declared.message.Message.TheVariants as message
use Rattle.as4_values.specs.declared.message.Pair.{Pair}
use Rattle.as4_values.specs.declared.payload.Load.{Load}
use Rattle.as4_values.specs.declared.payload.Payload.{Payload}
use Rattle.as4_values.specs.declared.route.Route.{Route}
use Rattle.as4_values.specs.declared.route.Route.TheVariants as route
use Rattle.as4_values.specs.declared.signal_body.SignalBody.{SignalBody}
use Rattle.as4_values.specs.declared.signal_body.SignalBody.TheVariants as body
use Rattle.as4_effects.specs.declared.effect.Effect.{Effect}
use Rattle.as4_effects.specs.declared.mark.Mark.{Mark}
use Rattle.as4_effects.specs.declared.mark.Mark.TheVariants as mark
use Rattle.as4_effects.specs.declared.queue.Queue.TheVariants as queue
use Rattle.exchange_model.specs.End.{End}
use Rattle.exchange_model.specs.Questions.{head_of, is_known, is_pending, sent_of}
use Rattle.exchange_model.specs.Submitting.{are_too_large}
use Rattle.exchange_model.specs.Table.{Errs, Receipts, Submits, Ticks, Takes, Asks, AsksBy, AsksWith, AsksWithBy, AsksWithEntry, UserComes, PullComes, Settles, ReceiptComes, SignalComes, PairComes, Comes, Confirms, RowOf, entry_reply, read_reply, mark_reply, standing_reply}
use Rattle.exchange_model.specs.declared.event.Event.{Event}
use Rattle.exchange_model.specs.declared.inbox_entry.InboxEntry.{InboxEntry}
use Rattle.exchange_model.specs.declared.outcome.Outcome.{Outcome}
use Rattle.exchange_model.specs.declared.reply.Reply.{Reply}
use Rattle.exchange_model.specs.declared.reply.Reply.TheVariants as reply
use Rattle.exchange_model.specs.declared.sent.Sent.{Sent}
use Rattle.exchange_model.specs.declared.what.What.{What}
use Rattle.exchange_model.specs.declared.what.What.TheVariants as what
use Rattle.exchange_laws.proofs.EndSteps.{by_option, by_bool}
use Rattle.exchange_laws.proofs.PairRows.{pair_cases}
use Rattle.stranger_laws.specs.Belonging.{AsksToPull, BelongsTo, IsReceived}

-- a receipt has a reference
abbrev pub RefersIf : Option (List ℕ) → SignalBody → Type 0
RefersIf ref_to (body.Receipt copy) = (id : List ℕ) × (ref_to ≡ Some id)
RefersIf ref_to (body.Pull mpc) = Unit {0}
RefersIf ref_to (body.Errors items) = Unit {0}

abbrev pub HasReference : Message → Type 0
HasReference (message.User header payloads) = Unit {0}
HasReference (message.Signal signal) = RefersIf signal.ref_to signal.body
HasReference (message.Pair pair) = RefersIf pair.receipt.ref_to pair.receipt.body

-- a reply to such an event
abbrev pub Suits : What → Reply → Type 0
Suits w (reply.Push address m) = HasReference m × (w ≡ what.Take)
Suits w (reply.Request address m) = HasReference m × AsksToPull w
Suits w (reply.Answer m) = HasReference m × IsReceived w
Suits w (reply.Ticked failed) = w ≡ what.Tick
Suits w (reply.Full size need) = ⊥
Suits w other = Unit {0}

-- a signal with a reference has one, whatever its body is
refers_any : (id : List ℕ) (ref_to : Option (List ℕ)) (b : SignalBody) → ref_to ≡ Some id → RefersIf ref_to b
refers_any id ref_to (body.Receipt copy) e = (id, e)
refers_any id ref_to (body.Pull mpc) e = tt
refers_any id ref_to (body.Errors items) e = tt

-- by the value of the outcome
suits_by : (w : What) (r : Reply) (effects : List Effect) (outcome : Outcome) → Suits w r
    → outcome ≡ record { effects = effects; reply = r } → Suits w outcome.reply
suits_by w r effects outcome suits e = subst (λ (o : Outcome). Suits w o.reply) (sym e) suits

-- Submit
submits : (modes : List Mode) (end : End) (event : Event) (name : List ℕ) (conversation : Option (List ℕ)) (loads : List Load) (outcome : Outcome)
    → (w : What) → Submits modes end event name conversation loads outcome → Suits w outcome.reply
unfolding Submits
submits modes end event name conversation loads outcome w h =
    by_option _ _ _ (mode_named modes name) h (suits_by w reply.NoMode _ outcome tt) (λ mode _ k.
    by_bool _ _ _ (nat_le 1048576 (length end.sent)) k (λ _. suits_by w reply.OutboxFull _ outcome tt) (λ _ l.
    by_bool _ _ _ (are_too_large loads) l (λ _. suits_by w reply.TooLarge _ outcome tt) (λ _ t.
    suits_by w (reply.Submitted t.0.number t.0.header.id) _ outcome tt t.2)))

-- Tick
ticks : (end : End) (event : Event) (outcome : Outcome) → Ticks end event outcome → Suits what.Tick outcome.reply
unfolding Ticks
ticks end event outcome h =
    by_bool _ _ _ (nat_le event.stamp end.moment) h (λ _. suits_by what.Tick (reply.Ticked 0) _ outcome refl) (λ _ t.
    suits_by what.Tick (reply.Ticked _) _ outcome refl t.2)

-- Take
takes : (end : End) (outcome : Outcome) → Takes end outcome → Suits what.Take outcome.reply
unfolding Takes
takes end outcome h =
    by_option _ _ _ (head_of queue.Push end) h (suits_by what.Take reply.Nothing _ outcome tt)
    (λ s _. suits_by what.Take (reply.Push _ _) _ outcome (tt, refl))

-- Ask
asks : (modes : List Mode) (event : Event) (name : List ℕ) (outcome : Outcome) → Asks modes event name outcome → Suits (what.Ask name) outcome.reply
unfolding Asks
asks modes event name outcome h =
    by_option _ _ _ (mode_named modes name) h (suits_by (what.Ask name) reply.NoMode _ outcome tt) (λ mode _ k. asked mode.route k)
  where
    asked : (r : Route) → AsksBy r event outcome → Suits (what.Ask name) outcome.reply
    asked (route.Push address) k = suits_by (what.Ask name) reply.NoMode _ outcome tt k
    asked (route.Pull mpc address) k =
        suits_by (what.Ask name) (reply.Request address (message.Signal k.0)) _ outcome (subst (RefersIf k.0.ref_to) (sym k.1.asks) tt, tt) k.2

-- AskWith
asks_with : (modes : List Mode) (end : End) (event : Event) (name : List ℕ) (n : ℕ) (outcome : Outcome)
    → AsksWith modes end event name n outcome → Suits (what.AskWith name n) outcome.reply
unfolding AsksWith
asks_with modes end event name n outcome h =
    by_option _ _ _ (mode_named modes name) h (suits_by (what.AskWith name n) reply.NoMode _ outcome tt) (λ mode _ k. asked mode.route k)
  where
    paired : (mpc address : List ℕ) (o : Option InboxEntry) → AsksWithEntry mpc address event o outcome → Suits (what.AskWith name n) outcome.reply
    paired mpc address None k = suits_by (what.AskWith name n) reply.NoEntry _ outcome tt k
    paired mpc address (Some entry) k =
        suits_by (what.AskWith name n) (reply.Request address (message.Pair k.0)) _ outcome
        (refers_any entry.header.id k.0.receipt.ref_to k.0.receipt.body k.1.receipt.refers, tt) k.2

    asked : (r : Route) → AsksWithBy r end event n outcome → Suits (what.AskWith name n) outcome.reply
    asked (route.Push address) k = suits_by (what.AskWith name n) reply.NoMode _ outcome tt k
    asked (route.Pull mpc address) k =
        by_bool _ _ _ (nat_lt n end.confirmed) k (λ _. suits_by (what.AskWith name n) reply.Gone _ outcome tt) (λ _. paired mpc address (slice_get end.inbox n))

-- Came
errs : (code : ℕ) (about : List ℕ) (event : Event) (outcome : Outcome) (m : Message) → Errs code about event outcome → Suits (what.Came m) outcome.reply
errs code about event outcome m h =
    suits_by (what.Came m) (reply.Answer (message.Signal h.0)) _ outcome (refers_any about h.0.ref_to h.0.body h.1.refers, tt) h.2

receipts : (header : UserHeader) (effects : List Effect) (event : Event) (outcome : Outcome) (m : Message) → Receipts header effects event outcome
    → Suits (what.Came m) outcome.reply
receipts header effects event outcome m h =
    suits_by (what.Came m) (reply.Answer (message.Signal h.0)) effects outcome (refers_any header.id h.0.ref_to h.0.body h.1.refers, tt) h.2

user_comes : (modes : List Mode) (end : End) (event : Event) (header : UserHeader) (payloads : List Payload) (outcome : Outcome) (m : Message)
    → UserComes modes end event header payloads outcome → Suits (what.Came m) outcome.reply
unfolding UserComes
user_comes modes end event header payloads outcome m h =
    by_option _ _ _ (mode_of modes header) h (errs 10 header.id event outcome m) (λ mode _ k.
    by_bool _ _ _ (is_known header.id end.inbox) k (λ _. receipts header [] event outcome m) (λ _ d.
    receipts header _ event outcome m d.3))

pull_comes : (modes : List Mode) (end : End) (event : Event) (id mpc : List ℕ) (outcome : Outcome) (m : Message)
    → PullComes modes end event id mpc outcome → Suits (what.Came m) outcome.reply
unfolding PullComes
pull_comes modes end event id mpc outcome m h =
    by_option _ _ _ (channel_mode modes mpc) h (errs 1 id event outcome m) (λ mode _ k.
    by_option _ _ _ (head_of (queue.Channel mpc) end) k (errs 6 id event outcome m) (λ s _. suits_by (what.Came m) (reply.Answer _) _ outcome (tt, tt)))

receipt_comes : (end : End) (event : Event) (id : List ℕ) (ref_to : Option (List ℕ)) (copy : Option UserHeader) (outcome : Outcome) (m : Message)
    → ReceiptComes end event id ref_to copy outcome → Suits (what.Came m) outcome.reply
unfolding ReceiptComes
receipt_comes end event id ref_to copy outcome m h =
    by_option _ _ _ (option_and_then (λ ref. sent_of ref end.sent) ref_to) h (errs 3 id event outcome m) (λ s _ k.
    elim k [ inl other ↦ errs 302 id event outcome m other.1 | inr own ↦ settles s own.1 ])
  where
    settles : (s : Sent) → Settles s outcome → Suits (what.Came m) outcome.reply
    settles s k = by_bool _ _ _ (is_pending s) k (λ _. suits_by (what.Came m) reply.Quiet _ outcome tt) (λ _. suits_by (what.Came m) reply.Quiet _ outcome tt)

signal_comes : (modes : List Mode) (end : End) (event : Event) (id : List ℕ) (ref_to : Option (List ℕ)) (b : SignalBody) (outcome : Outcome)
    (m : Message) → SignalComes modes end event id ref_to b outcome → Suits (what.Came m) outcome.reply
signal_comes modes end event id ref_to (body.Pull mpc) outcome m h = pull_comes modes end event id mpc outcome m h
signal_comes modes end event id ref_to (body.Receipt copy) outcome m h = receipt_comes end event id ref_to copy outcome m h
signal_comes modes end event id ref_to (body.Errors items) outcome m h = suits_by (what.Came m) reply.Quiet _ outcome tt h

pair_comes : (modes : List Mode) (end : End) (event : Event) (pair : Pair) (outcome : Outcome) (m : Message)
    → PairComes modes end event pair.receipt pair.pull outcome → Suits (what.Came m) outcome.reply
pair_comes modes end event pair outcome m h = elim (pair_cases modes end event pair outcome h) [
  | inl r ↦ errs r.code r.about event outcome m r.errs
  | inr s ↦ elim s.row [
    | inl a ↦ pull_comes modes end event pair.pull.id s.mpc outcome m a.row
    | inr b ↦ subst (λ (o : Outcome). Suits (what.Came m) o.reply) (sym b.is) (pull_comes modes _ event pair.pull.id s.mpc b.pulled m b.row)
  ]
]

comes : (modes : List Mode) (end : End) (event : Event) (m : Message) (outcome : Outcome) → Comes modes end event m outcome
    → Suits (what.Came m) outcome.reply
comes modes end event (message.User header payloads) outcome h = user_comes modes end event header payloads outcome (message.User header payloads) h
comes modes end event (message.Signal signal) outcome h = signal_comes modes end event signal.id signal.ref_to signal.body outcome (message.Signal signal) h
comes modes end event (message.Pair pair) outcome h = pair_comes modes end event pair outcome (message.Pair pair) h

-- Read
reads : (end : End) (n : ℕ) (w : What) → Suits w (read_reply end n)
unfolding read_reply
reads end n w = by_test (nat_lt n end.confirmed)
  where
    entry : (o : Option InboxEntry) → Suits w (entry_reply o)
    entry None = tt
    entry (Some e) = tt

    by_test : (b : Bool) → Suits w (if b then reply.Gone else entry_reply (slice_get end.inbox n))
    by_test true = tt
    by_test false = entry (slice_get end.inbox n)

-- Confirm
confirms : (end : End) (upto : ℕ) (outcome : Outcome) (w : What) → Confirms end upto outcome → Suits w outcome.reply
unfolding Confirms
confirms end upto outcome w h =
    by_bool _ _ _ (nat_lt upto end.confirmed) h (λ _. suits_by w reply.Gone _ outcome tt) (λ _ k.
    by_bool _ _ _ (nat_le (length end.inbox) upto) k (λ _. suits_by w reply.NoEntry _ outcome tt) (λ _.
    suits_by w (reply.Confirmed upto) _ outcome tt))

-- Status
stands : (o : Option Sent) (w : What) → Suits w (standing_reply o)
stands None w = tt
stands (Some s) w = marked s.mark
  where
    marked : (m : Mark) → Suits w (mark_reply s.tries m)
    marked mark.Pending = tt
    marked mark.Receipted = tt
    marked mark.Failed = tt
    marked (mark.Refused code) = tt

-- by the rows of the event
pub row_suits : (modes : List Mode) (end : End) (event : Event) (w : What) (outcome : Outcome) → RowOf modes end event w outcome
    → Suits w outcome.reply
row_suits modes end event (what.Submit mode conversation loads) outcome h = submits modes end event mode conversation loads outcome _ h
row_suits modes end event what.Tick outcome h = ticks end event outcome h
row_suits modes end event what.Take outcome h = takes end outcome h
row_suits modes end event (what.Ask mode) outcome h = asks modes event mode outcome h
row_suits modes end event (what.AskWith mode n) outcome h = asks_with modes end event mode n outcome h
row_suits modes end event (what.Came m) outcome h = comes modes end event m outcome h
row_suits modes end event (what.Read n) outcome h = suits_by _ (read_reply end n) _ outcome (reads end n _) h
row_suits modes end event (what.Confirm upto) outcome h = confirms end upto outcome _ h
row_suits modes end event (what.Status id) outcome h =
    suits_by _ (standing_reply (sent_of id end.sent)) _ outcome (stands (sent_of id end.sent) _) h

-- a reply that suits its event belongs to it
pub belongs : (w : What) (r : Reply) → Suits w r → BelongsTo w r
belongs w (reply.Push address m) suits = suits.1
belongs w (reply.Request address m) suits = suits.1
belongs w (reply.Answer m) suits = suits.1
belongs w (reply.Ticked failed) suits = tt
belongs w (reply.Full size need) suits = tt
belongs w reply.Quiet suits = tt
belongs w (reply.Submitted number id) suits = tt
belongs w reply.NoMode suits = tt
belongs w reply.OutboxFull suits = tt
belongs w reply.TooLarge suits = tt
belongs w (reply.Entry header payloads) suits = tt
belongs w reply.NoEntry suits = tt
belongs w reply.Gone suits = tt
belongs w (reply.Confirmed upto) suits = tt
belongs w (reply.Pending tries) suits = tt
belongs w reply.Receipted suits = tt
belongs w reply.Failed suits = tt
belongs w (reply.RefusedWith code) suits = tt
belongs w reply.Unknown suits = tt
belongs w (reply.Stopped before after) suits = tt
belongs w reply.Nothing suits = tt
