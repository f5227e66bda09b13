-- Only an `Ask` or an `AskWith` sends a pull request, alone or in a pair.
use Rattle.std.proofs.Common.{◌≡◌, ℕ, inl, inr, List, [], ◌∷◌, Bool, true, false, Option, Some, None, length, sym, subst}
use Rattle.std.specs.Prelude.{nat_le, nat_lt, option_map, slice_get, if◌then◌else◌}
use Rattle.std.specs.Option.{option_and_then}
use Rattle.as4_codes.specs.ErrorCodes.{error_row, error_item}
use Rattle.mode_values.specs.ModeMatch.{mode_named, mode_of, channel_mode}
use Rattle.mode_values.specs.declared.mode.Mode.{Mode}
use Rattle.as4_values.specs.declared.header.UserHeader.{UserHeader}
use Rattle.as4_values.specs.declared.message.Message.{Message}
use Rattle.as4_values.specs.declared.message.Message.TheVariants as message
use Rattle.as4_values.specs.declared.message.Pair.{Pair}
use Rattle.as4_values.specs.declared.payload.Load.{Load}
use Rattle.as4_values.specs.declared.payload.Payload.{Payload}
use Rattle.as4_values.specs.declared.signal_body.SignalBody.{SignalBody}
use Rattle.as4_values.specs.declared.signal_body.SignalBody.TheVariants as body
use Rattle.as4_effects.specs.declared.effect.Effect.{Effect}
use Rattle.as4_effects.specs.declared.mark.Mark.{Mark}
use Rattle.as4_effects.specs.declared.mark.Mark.TheVariants as mark
use Rattle.as4_effects.specs.declared.queue.Queue.TheVariants as queue
use Rattle.exchange_model.specs.End.{End}
use Rattle.exchange_model.specs.Questions.{head_of, is_known, is_pending, sent_of}
use Rattle.exchange_model.specs.Submitting.{are_too_large}
use Rattle.exchange_model.specs.Table.{Errs, Receipts, Submits, Ticks, Takes, UserComes, PullComes, Settles, ReceiptComes, SignalComes, PairComes, Comes, Confirms, RowOf, Step, entry_reply, has_room, read_reply, mark_reply, standing_reply}
use Rattle.exchange_model.specs.World.{sends}
use Rattle.exchange_model.specs.declared.event.Event.{Event}
use Rattle.exchange_model.specs.declared.inbox_entry.InboxEntry.{InboxEntry}
use Rattle.exchange_model.specs.declared.outcome.Outcome.{Outcome}
use Rattle.exchange_model.specs.declared.reply.Reply.{Reply}
use Rattle.exchange_model.specs.declared.reply.Reply.TheVariants as reply
use Rattle.exchange_model.specs.declared.sent.Sent.{Sent}
use Rattle.exchange_model.specs.declared.what.What.{What}
use Rattle.exchange_model.specs.declared.what.What.TheVariants as what
use Rattle.exchange_model.proofs.ListLemmas.{Has}
use Rattle.exchange_laws.proofs.EndSteps.{by_option, by_bool}
use Rattle.exchange_laws.proofs.PairRows.{pair_cases}

-- no pull request
abbrev pub IsNoPull : SignalBody → Type 0
IsNoPull (body.Receipt copy) = Unit {0}
IsNoPull (body.Pull mpc) = ⊥
IsNoPull (body.Errors items) = Unit {0}

abbrev pub AsksNone : Message → Type 0
AsksNone (message.User header payloads) = Unit {0}
AsksNone (message.Signal signal) = IsNoPull signal.body
AsksNone (message.Pair pair) = ⊥

-- a reply that sends none
abbrev pub RepliesNone : Reply → Type 0
RepliesNone (reply.Push address m) = AsksNone m
RepliesNone (reply.Request address m) = ⊥
RepliesNone (reply.Answer m) = AsksNone m
RepliesNone other = Unit {0}

-- not an `Ask` and not an `AskWith`
abbrev pub IsNoAsk : What → Type 0
IsNoAsk (what.Ask mode) = ⊥
IsNoAsk (what.AskWith mode n) = ⊥
IsNoAsk other = Unit {0}

-- by the value of the outcome
none_by : (r : Reply) (effects : List Effect) (outcome : Outcome) → RepliesNone r
    → outcome ≡ record { effects = effects; reply = r } → RepliesNone outcome.reply
none_by r effects outcome none e = subst (λ (o : Outcome). RepliesNone o.reply) (sym e) none

-- Submit
submits : (modes : List Mode) (end : End) (event : Event) (name : List ℕ) (conversation : Option (List ℕ)) (loads : List Load) (outcome : Outcome)
    → Submits modes end event name conversation loads outcome → RepliesNone outcome.reply
unfolding Submits
submits modes end event name conversation loads outcome h =
    by_option _ _ _ (mode_named modes name) h (none_by reply.NoMode _ outcome tt) (λ mode _ k.
    by_bool _ _ _ (nat_le 1048576 (length end.sent)) k (λ _. none_by reply.OutboxFull _ outcome tt) (λ _ l.
    by_bool _ _ _ (are_too_large loads) l (λ _. none_by reply.TooLarge _ outcome tt) (λ _ t.
    none_by (reply.Submitted t.0.number t.0.header.id) _ outcome tt t.2)))

-- Tick
ticks : (end : End) (event : Event) (outcome : Outcome) → Ticks end event outcome → RepliesNone outcome.reply
unfolding Ticks
ticks end event outcome h =
    by_bool _ _ _ (nat_le event.stamp end.moment) h (λ _. none_by (reply.Ticked 0) _ outcome tt) (λ _ t.
    none_by (reply.Ticked _) _ outcome tt t.2)

-- Take
takes : (end : End) (outcome : Outcome) → Takes end outcome → RepliesNone outcome.reply
unfolding Takes
takes end outcome h =
    by_option _ _ _ (head_of queue.Push end) h (none_by reply.Nothing _ outcome tt)
    (λ s _. none_by (reply.Push _ _) _ outcome tt)

-- Came
error_body : {Row : Type 0} (f : Row → SignalBody) (o : Option Row) (b : SignalBody) → ((row : Row) → IsNoPull (f row))
    → option_map f o ≡ Some b → IsNoPull b
error_body f None b none e = absurd cc
error_body f (Some row) b none e = let same : f row ≡ b = cc in subst IsNoPull same (none row)

errs : (code : ℕ) (about : List ℕ) (event : Event) (outcome : Outcome) → Errs code about event outcome → RepliesNone outcome.reply
errs code about event outcome h =
    none_by (reply.Answer (message.Signal h.0)) _ outcome
    (error_body (λ row. body.Errors (error_item row (Some about) ∷ [])) (error_row code) h.0.body (λ row. tt) h.1.tells) h.2

receipts : (header : UserHeader) (effects : List Effect) (event : Event) (outcome : Outcome) → Receipts header effects event outcome
    → RepliesNone outcome.reply
receipts header effects event outcome h =
    none_by (reply.Answer (message.Signal h.0)) effects outcome (subst IsNoPull (sym h.1.copies) tt) h.2

user_comes : (modes : List Mode) (end : End) (event : Event) (header : UserHeader) (payloads : List Payload) (outcome : Outcome)
    → UserComes modes end event header payloads outcome → RepliesNone outcome.reply
unfolding UserComes
user_comes modes end event header payloads outcome h =
    by_option _ _ _ (mode_of modes header) h (errs 10 header.id event outcome) (λ mode _ k.
    by_bool _ _ _ (is_known header.id end.inbox) k (λ _. receipts header [] event outcome) (λ _ d.
    receipts header _ event outcome d.3))

pull_comes : (modes : List Mode) (end : End) (event : Event) (id mpc : List ℕ) (outcome : Outcome)
    → PullComes modes end event id mpc outcome → RepliesNone outcome.reply
unfolding PullComes
pull_comes modes end event id mpc outcome h =
    by_option _ _ _ (channel_mode modes mpc) h (errs 1 id event outcome) (λ mode _ k.
    by_option _ _ _ (head_of (queue.Channel mpc) end) k (errs 6 id event outcome) (λ s _. none_by (reply.Answer _) _ outcome tt))

receipt_comes : (end : End) (event : Event) (id : List ℕ) (ref_to : Option (List ℕ)) (copy : Option UserHeader) (outcome : Outcome)
    → ReceiptComes end event id ref_to copy outcome → RepliesNone outcome.reply
unfolding ReceiptComes
receipt_comes end event id ref_to copy outcome h =
    by_option _ _ _ (option_and_then (λ ref. sent_of ref end.sent) ref_to) h (errs 3 id event outcome) (λ s _ k.
    elim k [ inl other ↦ errs 302 id event outcome other.1 | inr own ↦ settles s own.1 ])
  where
    settles : (s : Sent) → Settles s outcome → RepliesNone outcome.reply
    settles s k = by_bool _ _ _ (is_pending s) k (λ _. none_by reply.Quiet _ outcome tt) (λ _. none_by reply.Quiet _ outcome tt)

signal_comes : (modes : List Mode) (end : End) (event : Event) (id : List ℕ) (ref_to : Option (List ℕ)) (b : SignalBody) (outcome : Outcome)
    → SignalComes modes end event id ref_to b outcome → RepliesNone outcome.reply
signal_comes modes end event id ref_to (body.Pull mpc) outcome h = pull_comes modes end event id mpc outcome h
signal_comes modes end event id ref_to (body.Receipt copy) outcome h = receipt_comes end event id ref_to copy outcome h
signal_comes modes end event id ref_to (body.Errors items) outcome h = none_by reply.Quiet _ outcome tt h

pair_comes : (modes : List Mode) (end : End) (event : Event) (pair : Pair) (outcome : Outcome)
    → PairComes modes end event pair.receipt pair.pull outcome → RepliesNone outcome.reply
pair_comes modes end event pair outcome h = elim (pair_cases modes end event pair outcome h) [
  | inl r ↦ errs r.code r.about event outcome r.errs
  | inr s ↦ elim s.row [
    | inl a ↦ pull_comes modes end event pair.pull.id s.mpc outcome a.row
    | inr b ↦ subst (λ (o : Outcome). RepliesNone o.reply) (sym b.is) (pull_comes modes _ event pair.pull.id s.mpc b.pulled b.row)
  ]
]

comes : (modes : List Mode) (end : End) (event : Event) (m : Message) (outcome : Outcome) → Comes modes end event m outcome
    → RepliesNone outcome.reply
comes modes end event (message.User header payloads) outcome h = user_comes modes end event header payloads outcome h
comes modes end event (message.Signal signal) outcome h = signal_comes modes end event signal.id signal.ref_to signal.body outcome h
comes modes end event (message.Pair pair) outcome h = pair_comes modes end event pair outcome h

-- Read
reads : (end : End) (n : ℕ) → RepliesNone (read_reply end n)
unfolding read_reply
reads end n = by_test (nat_lt n end.confirmed)
  where
    entry : (o : Option InboxEntry) → RepliesNone (entry_reply o)
    entry None = tt
    entry (Some e) = tt

    by_test : (b : Bool) → RepliesNone (if b then reply.Gone else entry_reply (slice_get end.inbox n))
    by_test true = tt
    by_test false = entry (slice_get end.inbox n)

-- Confirm
confirms : (end : End) (upto : ℕ) (outcome : Outcome) → Confirms end upto outcome → RepliesNone outcome.reply
unfolding Confirms
confirms end upto outcome h =
    by_bool _ _ _ (nat_lt upto end.confirmed) h (λ _. none_by reply.Gone _ outcome tt) (λ _ k.
    by_bool _ _ _ (nat_le (length end.inbox) upto) k (λ _. none_by reply.NoEntry _ outcome tt) (λ _.
    none_by (reply.Confirmed upto) _ outcome tt))

-- Status
stands : (o : Option Sent) → RepliesNone (standing_reply o)
stands None = tt
stands (Some s) = marked s.mark
  where
    marked : (m : Mark) → RepliesNone (mark_reply s.tries m)
    marked mark.Pending = tt
    marked mark.Receipted = tt
    marked mark.Failed = tt
    marked (mark.Refused code) = tt

-- by the rows of the event
row_asks_none : (modes : List Mode) (end : End) (event : Event) (w : What) (outcome : Outcome) → IsNoAsk w → RowOf modes end event w outcome
    → RepliesNone outcome.reply
row_asks_none modes end event (what.Submit mode conversation loads) outcome other h = submits modes end event mode conversation loads outcome h
row_asks_none modes end event what.Tick outcome other h = ticks end event outcome h
row_asks_none modes end event what.Take outcome other h = takes end outcome h
row_asks_none modes end event (what.Ask mode) outcome other h = absurd other
row_asks_none modes end event (what.AskWith mode n) outcome other h = absurd other
row_asks_none modes end event (what.Came m) outcome other h = comes modes end event m outcome h
row_asks_none modes end event (what.Read n) outcome other h = none_by (read_reply end n) _ outcome (reads end n) h
row_asks_none modes end event (what.Confirm upto) outcome other h = confirms end upto outcome h
row_asks_none modes end event (what.Status id) outcome other h =
    none_by (standing_reply (sent_of id end.sent)) _ outcome (stands (sent_of id end.sent)) h

only_none : (m x : Message) → AsksNone m → Has (m ∷ []) x → AsksNone x
only_none m x none (inl same) = subst AsksNone same none
only_none m x none (inr nowhere) = absurd nowhere

sends_none : (r : Reply) (m : Message) → RepliesNone r → Has (sends r) m → AsksNone m
sends_none (reply.Push address x) m none h = only_none x m none h
sends_none (reply.Request address x) m none h = absurd none
sends_none (reply.Answer x) m none h = only_none x m none h
sends_none (reply.Submitted number id) m none h = absurd h
sends_none reply.NoMode m none h = absurd h
sends_none reply.OutboxFull m none h = absurd h
sends_none reply.TooLarge m none h = absurd h
sends_none (reply.Ticked failed) m none h = absurd h
sends_none reply.Nothing m none h = absurd h
sends_none reply.Quiet m none h = absurd h
sends_none (reply.Entry header payloads) m none h = absurd h
sends_none reply.NoEntry m none h = absurd h
sends_none reply.Gone m none h = absurd h
sends_none (reply.Confirmed upto) m none h = absurd h
sends_none (reply.Pending tries) m none h = absurd h
sends_none reply.Receipted m none h = absurd h
sends_none reply.Failed m none h = absurd h
sends_none (reply.RefusedWith code) m none h = absurd h
sends_none reply.Unknown m none h = absurd h
sends_none (reply.Full size need) m none h = absurd h
sends_none (reply.Stopped before after) m none h = absurd h

-- at a step
pub step_asks_none : (modes : List Mode) (end : End) (event : Event) (outcome : Outcome) (m : Message) → Step modes end event outcome
    → IsNoAsk event.what → Has (sends outcome.reply) m → AsksNone m
step_asks_none modes end event outcome m step other h = sends_none outcome.reply m replies h
  where
    replies : RepliesNone outcome.reply
    replies = by_bool _ _ _ (has_room end step.row.effects) step.limited
        (λ _ same. subst (λ (o : Outcome). RepliesNone o.reply) (sym same)
        (row_asks_none modes end event event.what step.row other step.decided))
        (λ _ full. none_by (reply.Full end.size _) [] outcome tt full)
