-- The other endpoint can take each message that an endpoint sends.
use Rattle.std.proofs.Common.{◌≡◌, ℕ, ◌≤◌, ◌⊎◌, inl, inr, List, [], ◌∷◌, Bool, true, false, Option, Some, None, length, length-append, refl, sym, subst, arith}
use Rattle.std.specs.Prelude.{IsTrue, nat_le, nat_lt, ◌&&◌, slice_get}
use Rattle.std.specs.Option.{option_and_then}
use Rattle.std.proofs.lemmas.Bool.Decides.{nat_tests}
use Rattle.mode_values.specs.ModeMatch.{mode_named, mode_of, channel_mode}
use Rattle.as4_values.specs.declared.header.UserHeader.{UserHeader}
use Rattle.as4_values.specs.declared.message.Pair.{Pair}
use Rattle.as4_values.specs.declared.message.Message.{Message}
use Rattle.as4_values.specs.declared.message.Message.TheVariants as message
use Rattle.mode_values.specs.declared.mode.Mode.{Mode}
use Rattle.as4_values.specs.declared.payload.Load.{Load}
use Rattle.as4_values.specs.declared.payload.Payload.{Payload}
use Rattle.as4_values.specs.declared.route.Route.{Route}
use Rattle.as4_values.specs.declared.route.Route.TheVariants as route
use Rattle.as4_values.specs.declared.signal.Signal.{Signal}
use Rattle.as4_values.specs.declared.signal_body.SignalBody.{SignalBody}
use Rattle.as4_values.specs.declared.signal_body.SignalBody.TheVariants as body
use Rattle.as4_effects.specs.Sound.{fits_an_effect, delivered_body, submitted_body}
use Rattle.as4_effects.specs.declared.effect.Effect.{Effect}
use Rattle.as4_effects.specs.declared.queue.Queue.TheVariants as queue
use Rattle.as4_effects.specs.declared.submission.Submission.{Submission}
use Rattle.exchange_model.specs.Coming.{is_deliverable, may_come}
use Rattle.exchange_model.specs.End.{End}
use Rattle.exchange_model.specs.Questions.{head_of, is_known, is_pending, sent_of}
use Rattle.exchange_model.specs.Submitting.{are_too_large}
use Rattle.exchange_model.specs.Table.{Errs, Receipts, Submits, Ticks, Takes, Asks, AsksBy, AsksWith, AsksWithBy, AsksWithEntry, UserComes, PullComes, Settles, IsOther, ReceiptComes, SignalComes, PairComes, Comes, Confirms, RowOf, IsLimited, Step, has_room, message_of, read_reply, standing_reply}
use Rattle.exchange_model.specs.World.{sends}
use Rattle.exchange_model.specs.declared.event.Event.{Event}
use Rattle.exchange_model.specs.declared.inbox_entry.InboxEntry.{InboxEntry}
use Rattle.exchange_model.specs.declared.outcome.Outcome.{Outcome}
use Rattle.exchange_model.specs.declared.reply.Reply.{Reply}
use Rattle.exchange_model.specs.declared.reply.Reply.TheVariants as reply
use Rattle.exchange_model.specs.declared.sent.Sent.{Sent}
use Rattle.exchange_model.specs.declared.what.What.{What}
use Rattle.exchange_model.specs.declared.what.What.TheVariants as what
use Rattle.exchange_model.proofs.ListLemmas.{Has}
use Rattle.exchange_laws.proofs.EndSteps.{by_option, by_bool}
use Rattle.exchange_laws.proofs.PairRows.{pair_cases}
use Rattle.exchange_laws.proofs.OwnRows.{read_silent, standing_silent}

-- the header and the payloads are shorter than the whole submission
delivered_shorter : (number : ℕ) (header : UserHeader) (payloads : List Payload) (route : Route) (retries period moment : ℕ)
    → length (delivered_body header payloads) ≤ length (submitted_body number header payloads route retries period moment)
delivered_shorter number header payloads route retries period moment = simp length-append (omega arith)

-- shorter bytes fit too
shorter_fits : (short long : List ℕ) → length short ≤ length long → fits_an_effect long ≡ true → fits_an_effect short ≡ true
unfolding fits_an_effect
shorter_fits short long less fits = grind (arith, nat_tests)

-- two tests that both hold
both : (a b : Bool) → a ≡ true → b ≡ true → (a && b) ≡ true
both true b ha hb = hb
both false b ha hb = absurd cc

-- the message of a submission is deliverable
pub submission_may_come : (s : Submission) → may_come (what.Came (message_of s)) ≡ true
unfolding may_come is_deliverable
submission_may_come s =
    let shorter = delivered_shorter s.number s.header s.payloads s.route s.retries s.period s.moment in
    both _ _ s.paired (shorter_fits _ _ shorter s.fits)

-- so is each signal
pub signal_may_come : (signal : Signal) → may_come (what.Came (message.Signal signal)) ≡ true
unfolding may_come
signal_may_come signal = refl

pair_may_come : (pair : Pair) → may_come (what.Came (message.Pair pair)) ≡ true
unfolding may_come
pair_may_come pair = refl

-- the other endpoint can take the messages of the reply
abbrev pub MayBeTaken : Reply → Type 0
MayBeTaken r = (m : Message) → Has (sends r) m → IsTrue (may_come (what.Came m))

-- nothing is sent
sends_none : (r : Reply) (effects : List Effect) (outcome : Outcome) → sends r ≡ []
    → outcome ≡ record { effects = effects; reply = r } → MayBeTaken outcome.reply
sends_none r effects outcome none e =
    subst (λ (o : Outcome). MayBeTaken o.reply) (sym e) (λ m h. absurd (subst (λ (ms : List Message). Has ms m) none h))

-- one message is sent
sends_one : (r : Reply) (effects : List Effect) (outcome : Outcome) (m : Message) → sends r ≡ m ∷ []
    → may_come (what.Came m) ≡ true
    → outcome ≡ record { effects = effects; reply = r } → MayBeTaken outcome.reply
sends_one r effects outcome m one may e =
    subst (λ (o : Outcome). MayBeTaken o.reply) (sym e) (λ x h. only x (subst (λ (ms : List Message). Has ms x) one h))
  where
    only : (x : Message) → Has (m ∷ []) x → may_come (what.Came x) ≡ true
    only x (inl same) = subst (λ (y : Message). may_come (what.Came y) ≡ true) same may
    only x (inr none) = absurd none

-- Submit
submits : (modes : List Mode) (end : End) (event : Event) (name : List ℕ) (conversation : Option (List ℕ))
    (loads : List Load) (outcome : Outcome)
    → Submits modes end event name conversation loads outcome → MayBeTaken outcome.reply
unfolding Submits
submits modes end event name conversation loads outcome h =
    by_option _ _ _ (mode_named modes name) h (sends_none reply.NoMode _ outcome refl) (λ mode _ k.
    by_bool _ _ _ (nat_le 1048576 (length end.sent)) k (λ _. sends_none reply.OutboxFull _ outcome refl) (λ _ l.
    by_bool _ _ _ (are_too_large loads) l (λ _. sends_none reply.TooLarge _ outcome refl) (λ _ t.
    sends_none (reply.Submitted t.0.number t.0.header.id) _ outcome refl t.2)))

-- Tick
ticks : (end : End) (event : Event) (outcome : Outcome) → Ticks end event outcome → MayBeTaken outcome.reply
unfolding Ticks
ticks end event outcome h =
    by_bool _ _ _ (nat_le event.stamp end.moment) h (λ _. sends_none (reply.Ticked 0) _ outcome refl) (λ _ t.
    sends_none (reply.Ticked _) _ outcome refl t.2)

-- Take
takes : (end : End) (outcome : Outcome) → Takes end outcome → MayBeTaken outcome.reply
unfolding Takes
takes end outcome h =
    by_option _ _ _ (head_of queue.Push end) h (sends_none reply.Nothing _ outcome refl) (λ s _ g.
    sends_one _ _ outcome (message_of s.submission) refl (submission_may_come s.submission) g)

-- Ask
asks : (modes : List Mode) (event : Event) (name : List ℕ) (outcome : Outcome) → Asks modes event name outcome
    → MayBeTaken outcome.reply
unfolding Asks
asks modes event name outcome h =
    by_option _ _ _ (mode_named modes name) h (sends_none reply.NoMode _ outcome refl) (λ mode _ k. asked mode.route k)
  where
    asked : (r : Route) → AsksBy r event outcome → MayBeTaken outcome.reply
    asked (route.Push address) k = sends_none reply.NoMode _ outcome refl k
    asked (route.Pull mpc address) k =
        sends_one (reply.Request address (message.Signal k.0)) _ outcome (message.Signal k.0) refl (signal_may_come k.0) k.2

-- AskWith
asks_with : (modes : List Mode) (end : End) (event : Event) (name : List ℕ) (n : ℕ) (outcome : Outcome) → AsksWith modes end event name n outcome
    → MayBeTaken outcome.reply
unfolding AsksWith
asks_with modes end event name n outcome h =
    by_option _ _ _ (mode_named modes name) h (sends_none reply.NoMode _ outcome refl) (λ mode _ k. asked mode.route k)
  where
    paired : (mpc address : List ℕ) (o : Option InboxEntry) → AsksWithEntry mpc address event o outcome → MayBeTaken outcome.reply
    paired mpc address None k = sends_none reply.NoEntry _ outcome refl k
    paired mpc address (Some entry) k =
        sends_one (reply.Request address (message.Pair k.0)) _ outcome (message.Pair k.0) refl (pair_may_come k.0) k.2

    asked : (r : Route) → AsksWithBy r end event n outcome → MayBeTaken outcome.reply
    asked (route.Push address) k = sends_none reply.NoMode _ outcome refl k
    asked (route.Pull mpc address) k =
        by_bool _ _ _ (nat_lt n end.confirmed) k (λ _. sends_none reply.Gone _ outcome refl) (λ _. paired mpc address (slice_get end.inbox n))

-- an error is reported
errs : (code : ℕ) (about : List ℕ) (event : Event) (outcome : Outcome) → Errs code about event outcome
    → MayBeTaken outcome.reply
errs code about event outcome h =
    sends_one (reply.Answer (message.Signal h.0)) _ outcome (message.Signal h.0) refl (signal_may_come h.0) h.2

-- a receipt is sent
receipts : (header : UserHeader) (effects : List Effect) (event : Event) (outcome : Outcome) → Receipts header effects event outcome
    → MayBeTaken outcome.reply
receipts header effects event outcome h =
    sends_one (reply.Answer (message.Signal h.0)) effects outcome (message.Signal h.0) refl (signal_may_come h.0) h.2

-- a user message
user_comes : (modes : List Mode) (end : End) (event : Event) (header : UserHeader) (payloads : List Payload) (outcome : Outcome)
    → UserComes modes end event header payloads outcome → MayBeTaken outcome.reply
unfolding UserComes
user_comes modes end event header payloads outcome h =
    by_option _ _ _ (mode_of modes header) h (errs 10 header.id event outcome) (λ mode _ k.
    by_bool _ _ _ (is_known header.id end.inbox) k (λ _ a. receipts header [] event outcome a) (λ _ d.
    receipts header _ event outcome d.3))

-- a pull request
pull_comes : (modes : List Mode) (end : End) (event : Event) (id mpc : List ℕ) (outcome : Outcome)
    → PullComes modes end event id mpc outcome → MayBeTaken outcome.reply
unfolding PullComes
pull_comes modes end event id mpc outcome h =
    by_option _ _ _ (channel_mode modes mpc) h (errs 1 id event outcome) (λ mode _ k.
    by_option _ _ _ (head_of (queue.Channel mpc) end) k (errs 6 id event outcome) (λ s _ g.
    sends_one _ _ outcome (message_of s.submission) refl (submission_may_come s.submission) g))

-- a receipt
receipt_comes : (end : End) (event : Event) (id : List ℕ) (ref_to : Option (List ℕ)) (copy : Option UserHeader) (outcome : Outcome)
    → ReceiptComes end event id ref_to copy outcome → MayBeTaken outcome.reply
unfolding ReceiptComes
receipt_comes end event id ref_to copy outcome h =
    by_option _ _ _ (option_and_then (λ ref. sent_of ref end.sent) ref_to) h (errs 3 id event outcome) (λ s _ k. named s k)
  where
    settles : (s : Sent) → Settles s outcome → MayBeTaken outcome.reply
    settles s k =
        by_bool _ _ _ (is_pending s) k (λ _. sends_none reply.Quiet _ outcome refl) (λ _. sends_none reply.Quiet _ outcome refl)

    named : (s : Sent)
        → (IsOther copy s.submission.header × Errs 302 id event outcome) ⊎ ((IsOther copy s.submission.header → ⊥) × Settles s outcome)
        → MayBeTaken outcome.reply
    named s (inl other) = errs 302 id event outcome other.1
    named s (inr own) = settles s own.1

-- a signal, by its body
signal_comes : (modes : List Mode) (end : End) (event : Event) (id : List ℕ) (ref_to : Option (List ℕ)) (b : SignalBody)
    (outcome : Outcome) → SignalComes modes end event id ref_to b outcome → MayBeTaken outcome.reply
signal_comes modes end event id ref_to (body.Pull mpc) outcome h = pull_comes modes end event id mpc outcome h
signal_comes modes end event id ref_to (body.Receipt copy) outcome h = receipt_comes end event id ref_to copy outcome h
signal_comes modes end event id ref_to (body.Errors items) outcome h = sends_none reply.Quiet _ outcome refl h

-- a pair
pair_comes : (modes : List Mode) (end : End) (event : Event) (pair : Pair) (outcome : Outcome)
    → PairComes modes end event pair.receipt pair.pull outcome → MayBeTaken outcome.reply
pair_comes modes end event pair outcome h = elim (pair_cases modes end event pair outcome h) [
  | inl r ↦ errs r.code r.about event outcome r.errs
  | inr s ↦ elim s.row [
    | inl a ↦ pull_comes modes end event pair.pull.id s.mpc outcome a.row
    | inr b ↦ subst (λ (o : Outcome). MayBeTaken o.reply) (sym b.is) (pull_comes modes _ event pair.pull.id s.mpc b.pulled b.row)
  ]
]

-- any received message
comes : (modes : List Mode) (end : End) (event : Event) (m : Message) (outcome : Outcome) → Comes modes end event m outcome
    → MayBeTaken outcome.reply
comes modes end event (message.User header payloads) outcome h = user_comes modes end event header payloads outcome h
comes modes end event (message.Signal signal) outcome h =
    signal_comes modes end event signal.id signal.ref_to signal.body outcome h
comes modes end event (message.Pair pair) outcome h = pair_comes modes end event pair outcome h

-- Confirm
confirms : (end : End) (upto : ℕ) (outcome : Outcome) → Confirms end upto outcome → MayBeTaken outcome.reply
unfolding Confirms
confirms end upto outcome h =
    by_bool _ _ _ (nat_lt upto end.confirmed) h (λ _. sends_none reply.Gone _ outcome refl) (λ _ k.
    by_bool _ _ _ (nat_le (length end.inbox) upto) k (λ _. sends_none reply.NoEntry _ outcome refl) (λ _.
    sends_none (reply.Confirmed upto) _ outcome refl))

-- by the rows of the event
row_sends : (modes : List Mode) (end : End) (event : Event) (w : What) (outcome : Outcome) → RowOf modes end event w outcome
    → MayBeTaken outcome.reply
row_sends modes end event (what.Submit mode conversation loads) outcome h =
    submits modes end event mode conversation loads outcome h
row_sends modes end event what.Tick outcome h = ticks end event outcome h
row_sends modes end event what.Take outcome h = takes end outcome h
row_sends modes end event (what.Ask mode) outcome h = asks modes event mode outcome h
row_sends modes end event (what.AskWith mode n) outcome h = asks_with modes end event mode n outcome h
row_sends modes end event (what.Came m) outcome h = comes modes end event m outcome h
row_sends modes end event (what.Read n) outcome h = sends_none (read_reply end n) _ outcome (read_silent end n) h
row_sends modes end event (what.Confirm upto) outcome h = confirms end upto outcome h
row_sends modes end event (what.Status id) outcome h =
    sends_none (standing_reply (sent_of id end.sent)) _ outcome (standing_silent (sent_of id end.sent)) h

-- where the journal has room for it
limited_sends : (end : End) (row outcome : Outcome) → MayBeTaken row.reply → IsLimited end row outcome → MayBeTaken outcome.reply
limited_sends end row outcome may h =
    by_bool _ _ _ (has_room end row.effects) h (λ _ same. subst (λ (o : Outcome). MayBeTaken o.reply) (sym same) may)
    (λ _. sends_none (reply.Full _ _) _ outcome refl)

-- a step at an endpoint
pub step_sends : (modes : List Mode) (end : End) (event : Event) (outcome : Outcome) → Step modes end event outcome
    → MayBeTaken outcome.reply
step_sends modes end event outcome step =
    limited_sends end step.row outcome (row_sends modes end event event.what step.row step.decided) step.limited
