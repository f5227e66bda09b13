-- An event has at most one outcome, row by row.
use Rattle.std.proofs.Common.{◌≡◌, ℕ, ◌⊎◌, inl, inr, List, [], ◌∷◌, ◌++◌, Option, Some, None, length, sym, ap, ◌∙◌, subst}
use Rattle.std.specs.Prelude.{nat_le, nat_lt, slice_get, if◌then◌else◌}
use Rattle.std.specs.Bool.{MatchBool}
use Rattle.std.specs.List.{count_by}
use Rattle.std.specs.Option.{option_and_then}
use Rattle.as4_effects.specs.declared.delivery.Delivery.{Delivery}
use Rattle.as4_effects.specs.declared.effect.Effect.{Effect}
use Rattle.as4_effects.specs.declared.effect.Effect.TheVariants as effect
use Rattle.as4_effects.specs.declared.effect.Tick.{Tick}
use Rattle.as4_effects.specs.declared.queue.Queue.TheVariants as queue
use Rattle.as4_effects.specs.declared.submission.Submission.{Submission}
use Rattle.mode_values.specs.ModeMatch.{mode_of, mode_named, channel_mode}
use Rattle.as4_values.specs.declared.header.UserHeader.{UserHeader}
use Rattle.as4_values.specs.declared.message.Pair.{Pair}
use Rattle.as4_values.specs.declared.message.Message.{Message}
use Rattle.as4_values.specs.declared.message.Message.TheVariants as message
use Rattle.mode_values.specs.declared.mode.Mode.{Mode}
use Rattle.as4_values.specs.declared.payload.Load.{Load}
use Rattle.as4_values.specs.declared.payload.Payload.{Payload}
use Rattle.as4_values.specs.declared.route.Route.{Route}
use Rattle.as4_values.specs.declared.route.Route.TheVariants as route
use Rattle.as4_values.specs.declared.signal.Signal.{Signal}
use Rattle.as4_values.specs.declared.signal_body.SignalBody.{SignalBody}
use Rattle.as4_values.specs.declared.signal_body.SignalBody.TheVariants as body
use Rattle.as4_effects.proofs.PartLemmas.{tick_told, delivery_told}
use Rattle.as4_effects.specs.Parts.{delivery_parts}
use Rattle.exchange_model.specs.End.{End}
use Rattle.exchange_model.specs.Questions.{head_of, is_known, is_pending, is_spent, sent_of}
use Rattle.exchange_model.specs.Submitting.{are_too_large}
use Rattle.exchange_model.specs.Table.{Errs, Receipts, Submits, Ticks, Takes, Asks, AsksBy, AsksWith, AsksWithBy, AsksWithEntry, UserComes, Delivers, PullComes, Settles, IsOther, ReceiptComes, SignalComes, PullsBehind, PairComes, Comes, Confirms, RowOf, IsLimited, Step, has_room, is_quiet, names_channel}
use Rattle.exchange_model.specs.declared.event.Event.{Event}
use Rattle.exchange_model.specs.declared.inbox_entry.InboxEntry.{InboxEntry}
use Rattle.exchange_model.specs.declared.outcome.Outcome.{Outcome}
use Rattle.exchange_model.specs.declared.reply.Reply.TheVariants as reply
use Rattle.exchange_model.specs.declared.sent.Sent.{Sent}
use Rattle.exchange_model.specs.declared.what.What.{What}
use Rattle.exchange_model.specs.declared.what.What.TheVariants as what
use Rattle.outcome_laws.proofs.Cases.{both_option, both_bool}
use Rattle.outcome_laws.proofs.OneSubmission.{one_submission}
use Rattle.outcome_laws.proofs.Signals.{one_receipt, one_error, one_pull, one_pair}

-- two outcomes that equal the same outcome
same : (o a b : Outcome) → a ≡ o → b ≡ o → a ≡ b
same o a b e f = e ∙ sym f

-- the outcome with these effects and this signal as the answer
abbrev answers : List Effect → Signal → Outcome
answers effects signal = record { effects = effects; reply = reply.Answer (message.Signal signal) }

errs : (code : ℕ) (about : List ℕ) (event : Event) (a b : Outcome) → Errs code about event a → Errs code about event b → a ≡ b
errs code about event a b h k =
    h.2 ∙ ap (answers []) (one_error code (Some about) event.stamp event.nonce h.0 k.0 h.1 k.1) ∙ sym k.2

receipts : (header : UserHeader) (effects : List Effect) (event : Event) (a b : Outcome) → Receipts header effects event a
    → Receipts header effects event b → a ≡ b
receipts header effects event a b h k =
    h.2 ∙ ap (answers effects) (one_receipt header event.stamp event.nonce h.0 k.0 h.1 k.1) ∙ sym k.2

-- Submit
abbrev taken_in : Submission → Outcome
taken_in s = record { effects = effect.Submitted s ∷ []; reply = reply.Submitted s.number s.header.id }

submits : (modes : List Mode) (end : End) (event : Event) (name : List ℕ) (conversation : Option (List ℕ)) (loads : List Load) (a b : Outcome)
    → Submits modes end event name conversation loads a → Submits modes end event name conversation loads b → a ≡ b
unfolding Submits
submits modes end event name conversation loads a b h k =
    both_option _ _ _ _ _ (mode_named modes name) h k (same _ a b) (λ mode i j.
    both_bool _ _ _ _ _ (nat_le 1048576 (length end.sent)) i j (same _ a b) (λ l m.
    both_bool _ _ _ _ _ (are_too_large loads) l m (same _ a b) (λ t u.
    t.2 ∙ ap taken_in (one_submission mode (length end.sent) end.moment event.stamp event.nonce conversation loads t.0 u.0 t.1 u.1) ∙ sym u.2)))

-- Tick
ticks : (end : End) (event : Event) (a b : Outcome) → Ticks end event a → Ticks end event b → a ≡ b
unfolding Ticks
ticks end event a b h k =
    both_bool _ _ _ _ _ (nat_le event.stamp end.moment) h k (same _ a b) (λ t u.
    t.2 ∙ ap (λ (tick : Tick). ticked tick) (tick_told t.0 u.0 (t.1 ∙ sym u.1)) ∙ sym u.2)
  where
    ticked : Tick → Outcome
    ticked tick = record { effects = effect.Ticked tick ∷ []; reply = reply.Ticked (count_by (is_spent event.stamp) end.sent) }

-- Take
takes : (end : End) (a b : Outcome) → Takes end a → Takes end b → a ≡ b
unfolding Takes
takes end a b h k = both_option _ _ _ _ _ (head_of queue.Push end) h k (same _ a b) (λ s. same _ a b)

-- Ask
asks : (modes : List Mode) (event : Event) (name : List ℕ) (a b : Outcome) → Asks modes event name a → Asks modes event name b → a ≡ b
unfolding Asks
asks modes event name a b h k =
    both_option _ _ _ _ _ (mode_named modes name) h k (same _ a b) (λ mode i j. asked mode.route i j)
  where
    asked : (r : Route) → AsksBy r event a → AsksBy r event b → a ≡ b
    asked (route.Push address) i j = same _ a b i j
    asked (route.Pull mpc address) i j =
        i.2 ∙ ap (λ (signal : Signal). requests address signal) (one_pull mpc event.stamp event.nonce i.0 j.0 i.1 j.1) ∙ sym j.2
      where
        requests : List ℕ → Signal → Outcome
        requests to signal = record { effects = []; reply = reply.Request to (message.Signal signal) }

-- AskWith
asks_with : (modes : List Mode) (end : End) (event : Event) (name : List ℕ) (n : ℕ) (a b : Outcome) → AsksWith modes end event name n a
    → AsksWith modes end event name n b → a ≡ b
unfolding AsksWith
asks_with modes end event name n a b h k =
    both_option _ _ _ _ _ (mode_named modes name) h k (same _ a b) (λ mode i j. asked mode.route i j)
  where
    requests : List ℕ → Pair → Outcome
    requests to pair = record { effects = []; reply = reply.Request to (message.Pair pair) }

    paired : (mpc address : List ℕ) (o : Option InboxEntry) → AsksWithEntry mpc address event o a → AsksWithEntry mpc address event o b → a ≡ b
    paired mpc address None i j = same _ a b i j
    paired mpc address (Some entry) i j =
        i.2 ∙ ap (requests address) (one_pair entry.header mpc event.stamp event.nonce i.0 j.0 i.1 j.1) ∙ sym j.2

    asked : (r : Route) → AsksWithBy r end event n a → AsksWithBy r end event n b → a ≡ b
    asked (route.Push address) i j = same _ a b i j
    asked (route.Pull mpc address) i j =
        both_bool _ _ _ _ _ (nat_lt n end.confirmed) i j (same _ a b) (paired mpc address (slice_get end.inbox n))

-- a user message
user_comes : (modes : List Mode) (end : End) (event : Event) (header : UserHeader) (payloads : List Payload) (a b : Outcome)
    → UserComes modes end event header payloads a → UserComes modes end event header payloads b → a ≡ b
unfolding UserComes
user_comes modes end event header payloads a b h k =
    both_option _ _ _ _ _ (mode_of modes header) h k (errs 10 header.id event a b) (λ mode i j.
    both_bool _ _ _ _ _ (is_known header.id end.inbox) i j (receipts header [] event a b) delivers)
  where
    delivers : Delivers event header payloads a → Delivers event header payloads b → a ≡ b
    delivers d e =
        let headers : d.0.header ≡ e.0.header = d.1 ∙ sym e.1 in
        let contents : d.0.payloads ≡ e.0.payloads = d.2 ∙ sym e.2 in
        let one : d.0 ≡ e.0 = delivery_told d.0 e.0 (let f : delivery_parts d.0 ≡ delivery_parts e.0 = cc in f) in
        receipts header (effect.Delivered e.0 ∷ []) event a b
        (subst (λ (x : Delivery). Receipts header (effect.Delivered x ∷ []) event a) one d.3) e.3

-- a pull request
pull_comes : (modes : List Mode) (end : End) (event : Event) (id mpc : List ℕ) (a b : Outcome) → PullComes modes end event id mpc a
    → PullComes modes end event id mpc b → a ≡ b
unfolding PullComes
pull_comes modes end event id mpc a b h k =
    both_option _ _ _ _ _ (channel_mode modes mpc) h k (errs 1 id event a b) (λ mode i j.
    both_option _ _ _ _ _ (head_of (queue.Channel mpc) end) i j (errs 6 id event a b) (λ s. same _ a b))

-- a receipt
receipt_comes : (end : End) (event : Event) (id : List ℕ) (ref_to : Option (List ℕ)) (copy : Option UserHeader) (a b : Outcome)
    → ReceiptComes end event id ref_to copy a → ReceiptComes end event id ref_to copy b → a ≡ b
unfolding ReceiptComes
receipt_comes end event id ref_to copy a b h k =
    both_option _ _ _ _ _ (option_and_then (λ ref. sent_of ref end.sent) ref_to) h k (errs 3 id event a b) (λ s i j. named s i j)
  where
    settles : (s : Sent) → Settles s a → Settles s b → a ≡ b
    settles s i j = both_bool _ _ _ _ _ (is_pending s) i j (same _ a b) (same _ a b)

    named : (s : Sent)
        → (IsOther copy s.submission.header × Errs 302 id event a) ⊎ ((IsOther copy s.submission.header → ⊥) × Settles s a)
        → (IsOther copy s.submission.header × Errs 302 id event b) ⊎ ((IsOther copy s.submission.header → ⊥) × Settles s b) → a ≡ b
    named s (inl i) (inl j) = errs 302 id event a b i.1 j.1
    named s (inl i) (inr j) = absurd (j.0 i.0)
    named s (inr i) (inl j) = absurd (i.0 j.0)
    named s (inr i) (inr j) = settles s i.1 j.1

-- a signal, by its body
signal_comes : (modes : List Mode) (end : End) (event : Event) (id : List ℕ) (ref_to : Option (List ℕ)) (s : SignalBody) (a b : Outcome)
    → SignalComes modes end event id ref_to s a → SignalComes modes end event id ref_to s b → a ≡ b
signal_comes modes end event id ref_to (body.Pull mpc) a b h k = pull_comes modes end event id mpc a b h k
signal_comes modes end event id ref_to (body.Receipt copy) a b h k = receipt_comes end event id ref_to copy a b h k
signal_comes modes end event id ref_to (body.Errors items) a b h k = same _ a b h k

-- a pair: one outcome of its receipt, then one of its pull request
pair_comes : (modes : List Mode) (end : End) (event : Event) (receipt pull : Signal) (a b : Outcome)
    → PairComes modes end event receipt pull a → PairComes modes end event receipt pull b → a ≡ b
unfolding PairComes
pair_comes modes end event receipt pull a b h k =
    both_bool _ _ _ _ _ (is_quiet k.0.reply) (subst (λ (o : Outcome). MatchBool (is_quiet o.reply) (PullsBehind modes end event pull o a) (a ≡ o)) one h.2) k.2
    behind (same _ a b)
  where
    one : h.0 ≡ k.0
    one = signal_comes modes end event receipt.id receipt.ref_to receipt.body h.0 k.0 h.1 k.1

    both : Outcome → Outcome
    both pulled = record {
      effects = if names_channel modes pull.body then k.0.effects ++ pulled.effects else [];
      reply = pulled.reply;
    }

    behind : PullsBehind modes end event pull k.0 a → PullsBehind modes end event pull k.0 b → a ≡ b
    behind i j = i.2 ∙ ap both (signal_comes modes _ event pull.id pull.ref_to pull.body i.0 j.0 i.1 j.1) ∙ sym j.2

-- any received message
comes : (modes : List Mode) (end : End) (event : Event) (m : Message) (a b : Outcome) → Comes modes end event m a → Comes modes end event m b → a ≡ b
comes modes end event (message.User header payloads) a b h k = user_comes modes end event header payloads a b h k
comes modes end event (message.Signal signal) a b h k = signal_comes modes end event signal.id signal.ref_to signal.body a b h k
comes modes end event (message.Pair pair) a b h k = pair_comes modes end event pair.receipt pair.pull a b h k

-- Confirm
confirms : (end : End) (upto : ℕ) (a b : Outcome) → Confirms end upto a → Confirms end upto b → a ≡ b
unfolding Confirms
confirms end upto a b h k =
    both_bool _ _ _ _ _ (nat_lt upto end.confirmed) h k (same _ a b) (λ i j.
    both_bool _ _ _ _ _ (nat_le (length end.inbox) upto) i j (same _ a b) (same _ a b))

-- by the rows of the event
one_row : (modes : List Mode) (end : End) (event : Event) (w : What) (a b : Outcome) → RowOf modes end event w a → RowOf modes end event w b → a ≡ b
one_row modes end event (what.Submit mode conversation loads) a b h k = submits modes end event mode conversation loads a b h k
one_row modes end event what.Tick a b h k = ticks end event a b h k
one_row modes end event what.Take a b h k = takes end a b h k
one_row modes end event (what.Ask mode) a b h k = asks modes event mode a b h k
one_row modes end event (what.AskWith mode n) a b h k = asks_with modes end event mode n a b h k
one_row modes end event (what.Came m) a b h k = comes modes end event m a b h k
one_row modes end event (what.Read n) a b h k = same _ a b h k
one_row modes end event (what.Confirm upto) a b h k = confirms end upto a b h k
one_row modes end event (what.Status id) a b h k = same _ a b h k

-- where the journal has room for it
one_limited : (end : End) (row a b : Outcome) → IsLimited end row a → IsLimited end row b → a ≡ b
one_limited end row a b h k = both_bool _ _ _ _ _ (has_room end row.effects) h k (same _ a b) (same _ a b)

pub one_outcome : (modes : List Mode) (end : End) (event : Event) (a b : Outcome) → Step modes end event a → Step modes end event b → a ≡ b
one_outcome modes end event a b s t =
    one_limited end t.row a b
    (subst (λ (row : Outcome). IsLimited end row a) (one_row modes end event event.what s.row t.row s.decided t.decided) s.limited) t.limited
