-- A message that is sent was asked for, and a request is served.
use Rattle.std.proofs.Common.{◌≡◌, ℕ, ◌+◌, ◌<◌, ◌≤◌, ◌⊎◌, inl, inr, List, [], ◌∷◌, Bool, true, false, Option, Some, None, length, refl, sym, ap, ◌∙◌, subst}
use Rattle.std.specs.Prelude.{IsSome, MatchOption, nat_le, nat_lt, slice_get, if◌then◌else◌}
use Rattle.std.specs.Bool.{MatchBool}
use Rattle.std.specs.Option.{option_and_then}
use Rattle.std.proofs.lemmas.Bool.{lt-leb}
use Rattle.as4_effects.specs.declared.effect.Effect.{Effect}
use Rattle.as4_effects.specs.declared.effect.Effect.TheVariants as effect
use Rattle.as4_effects.specs.declared.queue.Queue.TheVariants as queue
use Rattle.mode_values.specs.ModeMatch.{mode_named, mode_of, channel_mode}
use Rattle.as4_values.specs.declared.header.UserHeader.{UserHeader}
use Rattle.as4_values.specs.declared.message.Pair.{Pair}
use Rattle.as4_values.specs.declared.message.Message.{Message}
use Rattle.as4_values.specs.declared.message.Message.TheVariants as message
use Rattle.mode_values.specs.declared.mode.Mode.{Mode}
use Rattle.as4_values.specs.declared.payload.Load.{Load}
use Rattle.as4_values.specs.declared.payload.Payload.{Payload}
use Rattle.as4_values.specs.declared.route.Route.{Route}
use Rattle.as4_values.specs.declared.route.Route.TheVariants as route
use Rattle.as4_values.specs.declared.signal.Signal.{Signal}
use Rattle.as4_values.specs.declared.signal_body.SignalBody.{SignalBody}
use Rattle.as4_values.specs.declared.signal_body.SignalBody.TheVariants as body
use Rattle.exchange_model.specs.End.{End}
use Rattle.exchange_model.specs.Apply.{after}
use Rattle.exchange_model.specs.LosslessRound.{IsPulled, IsPulledBehind, IsAskedFor, behind_receipt}
use Rattle.exchange_model.specs.Questions.{head_of, is_known, is_pending, sent_of}
use Rattle.exchange_model.specs.Submitting.{address_of, are_too_large}
use Rattle.exchange_model.specs.Table.{Rests, Gives, Errs, Receipts, Submits, TakesIn, Ticks, Takes, Asks, AsksBy, AsksWith, AsksWithBy, AsksWithEntry, UserComes, PullComes, Settles, IsOther, ReceiptComes, SignalComes, PairComes, Comes, Confirms, RowOf, IsLimited, Step, has_room, message_of, read_reply, standing_reply}
use Rattle.exchange_model.specs.World.{Act, sends}
use Rattle.exchange_model.specs.declared.event.Event.{Event}
use Rattle.exchange_model.specs.declared.inbox_entry.InboxEntry.{InboxEntry}
use Rattle.exchange_model.specs.declared.outcome.Outcome.{Outcome}
use Rattle.exchange_model.specs.declared.reply.Reply.{Reply}
use Rattle.exchange_model.specs.declared.reply.Reply.TheVariants as reply
use Rattle.exchange_model.specs.declared.sent.Sent.{Sent}
use Rattle.exchange_model.specs.declared.what.What.{What}
use Rattle.exchange_model.specs.declared.what.What.TheVariants as what
use Rattle.exchange_model.proofs.ListLemmas.{Has}
use Rattle.exchange_laws.proofs.EndSteps.{by_option, by_bool}
use Rattle.exchange_laws.proofs.OwnRows.{read_silent, standing_silent}
use Rattle.exchange_laws.proofs.PairRows.{pair_cases}
use Rattle.exchange_laws.proofs.RoomLemmas.{rest_taken, submits_small}
use Rattle.exchange_laws.proofs.ToldLemmas.{not_below}
use Rattle.exchange_laws.proofs.RoundLemmas.{IsRoomy, row_at, can_write, at_some, at_any, at_bool}

-- a submission is accepted
pub taken_in : (modes : List Mode) (end : End) (event : Event) (outcome : Outcome) (name : List ℕ) (conversation : Option (List ℕ)) (loads : List Load)
    → Step modes end event outcome → event.what ≡ what.Submit name conversation loads → IsSome (mode_named modes name)
    → length end.sent < 1048576 → are_too_large loads ≡ false → IsRoomy end outcome
    → (number : ℕ) × (id : List ℕ) × (outcome.reply ≡ reply.Submitted number id)
unfolding Submits
taken_in modes end event outcome name conversation loads step asked named below small room =
    let row : Submits modes end event name conversation loads outcome =
    row_at modes end event outcome (what.Submit name conversation loads) step
    (can_write modes end event outcome (what.Submit name conversation loads) step room asked (submits_small modes end event name conversation loads step.row)) asked in
    let served = at_any _ _ (mode_named modes name) named row in
    let few = at_bool _ _ (nat_le 1048576 (length end.sent)) false (lt-leb 1048576 (length end.sent) below) served.1 in
    let taken : TakesIn served.0 end event conversation loads outcome = at_bool _ _ (are_too_large loads) false small few in
    (taken.0.number, taken.0.header.id, ap (λ (o : Outcome). o.reply) taken.2)

-- the submission that an event asks for: the head of the push queue, or by a pull request, alone or in a pair, that of
-- a channel of the modes
abbrev AskedBy : Sent → List Mode → What → End → Type 0
AskedBy s modes w end =
    ((w ≡ what.Take) × (head_of queue.Push end ≡ Some s))
    ⊎ (((signal : Signal) × (w ≡ what.Came (message.Signal signal)) × IsPulled s modes signal end)
    ⊎ ((pair : Pair) × (w ≡ what.Came (message.Pair pair)) × IsPulledBehind s modes pair end))

-- a user message that is sent was asked for, and a push goes to its address
record WasAsked (modes : List Mode) (end : End) (w : What) (r : Reply) (m : Message) : Type 0 where
  one : Sent
  asked : AskedBy one modes w end
  same : m ≡ message_of one.submission
  address : (a : List ℕ) (x : Message) → r ≡ reply.Push a x → a ≡ address_of one.submission.route

abbrev Asked : List Mode → End → What → Outcome → Type 0
Asked modes end w outcome =
    (header : UserHeader) (payloads : List Payload) → Has (sends outcome.reply) (message.User header payloads)
    → WasAsked modes end w outcome.reply (message.User header payloads)

-- nothing is sent
silent : (modes : List Mode) (end : End) (w : What) (r : Reply) (effects : List Effect) (outcome : Outcome) → sends r ≡ []
    → outcome ≡ record { effects = effects; reply = r } → Asked modes end w outcome
silent modes end w r effects outcome none e header payloads said =
    absurd (subst (λ (ms : List Message). Has ms (message.User header payloads)) (ap (λ (o : Outcome). sends o.reply) e ∙ none) said)

-- the message that is sent is no user message
another : (modes : List Mode) (end : End) (w : What) (r : Reply) (effects : List Effect) (outcome : Outcome) (m : Message)
    → ((header : UserHeader) (payloads : List Payload) → m ≡ message.User header payloads → ⊥)
    → sends r ≡ m ∷ [] → outcome ≡ record { effects = effects; reply = r } → Asked modes end w outcome
another modes end w r effects outcome m other one e header payloads said =
    absurd (no_user (subst (λ (ms : List Message). Has ms (message.User header payloads)) (ap (λ (o : Outcome). sends o.reply) e ∙ one) said))
  where
    no_user : Has (m ∷ []) (message.User header payloads) → ⊥
    no_user (inl same) = other header payloads same
    no_user (inr none) = none

-- a signal is sent
signals : (modes : List Mode) (end : End) (w : What) (r : Reply) (effects : List Effect) (outcome : Outcome) (signal : Signal)
    → sends r ≡ message.Signal signal ∷ [] → outcome ≡ record { effects = effects; reply = r } → Asked modes end w outcome
signals modes end w r effects outcome signal one e = another modes end w r effects outcome (message.Signal signal) (λ header payloads same. cc) one e

only_one : (m x : Message) → Has (m ∷ []) x → x ≡ m
only_one m x (inl e) = sym e
only_one m x (inr none) = absurd none

-- Submit
submits : (modes : List Mode) (end : End) (event : Event) (w : What) (name : List ℕ) (conversation : Option (List ℕ)) (loads : List Load) (outcome : Outcome)
    → Submits modes end event name conversation loads outcome → Asked modes end w outcome
unfolding Submits
submits modes end event w name conversation loads outcome h =
    by_option _ _ _ (mode_named modes name) h (silent modes end w reply.NoMode _ outcome refl) (λ mode _ k.
    by_bool _ _ _ (nat_le 1048576 (length end.sent)) k (λ _. silent modes end w reply.OutboxFull _ outcome refl) (λ _ l.
    by_bool _ _ _ (are_too_large loads) l (λ _. silent modes end w reply.TooLarge _ outcome refl) (λ _ t.
    silent modes end w (reply.Submitted t.0.number t.0.header.id) _ outcome refl t.2)))

-- Tick
ticks : (modes : List Mode) (end : End) (event : Event) (w : What) (outcome : Outcome) → Ticks end event outcome → Asked modes end w outcome
unfolding Ticks
ticks modes end event w outcome h =
    by_bool _ _ _ (nat_le event.stamp end.moment) h (λ _. silent modes end w (reply.Ticked 0) _ outcome refl) (λ _ t.
    silent modes end w (reply.Ticked _) _ outcome refl t.2)

-- Take
takes : (modes : List Mode) (end : End) (outcome : Outcome) → Takes end outcome → Asked modes end what.Take outcome
unfolding Takes
takes modes end outcome h =
    by_option _ _ _ (head_of queue.Push end) h (silent modes end what.Take reply.Nothing _ outcome refl) handed
  where
    handed : (s : Sent) → head_of queue.Push end ≡ Some s
        → Gives (effect.Tried s.submission.number) (reply.Push (address_of s.submission.route) (message_of s.submission)) outcome
        → Asked modes end what.Take outcome
    handed s head g header payloads said = record {
      one = s;
      asked = inl (refl, head);
      same = only_one (message_of s.submission) (message.User header payloads)
          (subst (λ (o : Outcome). Has (sends o.reply) (message.User header payloads)) g said);
      address = λ a x e.
          let both : reply.Push (address_of s.submission.route) (message_of s.submission) ≡ reply.Push a x = sym (ap (λ (o : Outcome). o.reply) g) ∙ e in cc;
    }

-- Ask
asks : (modes : List Mode) (end : End) (event : Event) (w : What) (name : List ℕ) (outcome : Outcome) → Asks modes event name outcome → Asked modes end w outcome
unfolding Asks
asks modes end event w name outcome h =
    by_option _ _ _ (mode_named modes name) h (silent modes end w reply.NoMode _ outcome refl) (λ mode _ k. asked mode.route k)
  where
    asked : (r : Route) → AsksBy r event outcome → Asked modes end w outcome
    asked (route.Push address) k = silent modes end w reply.NoMode _ outcome refl k
    asked (route.Pull mpc address) k = signals modes end w (reply.Request address (message.Signal k.0)) _ outcome k.0 refl k.2

-- AskWith
asks_with : (modes : List Mode) (end : End) (event : Event) (w : What) (name : List ℕ) (n : ℕ) (outcome : Outcome)
    → AsksWith modes end event name n outcome → Asked modes end w outcome
unfolding AsksWith
asks_with modes end event w name n outcome h =
    by_option _ _ _ (mode_named modes name) h (silent modes end w reply.NoMode _ outcome refl) (λ mode _ k. asked mode.route k)
  where
    paired : (mpc address : List ℕ) (o : Option InboxEntry) → AsksWithEntry mpc address event o outcome → Asked modes end w outcome
    paired mpc address None k = silent modes end w reply.NoEntry _ outcome refl k
    paired mpc address (Some entry) k =
        another modes end w (reply.Request address (message.Pair k.0)) _ outcome (message.Pair k.0) (λ header payloads same. cc) refl k.2

    asked : (r : Route) → AsksWithBy r end event n outcome → Asked modes end w outcome
    asked (route.Push address) k = silent modes end w reply.NoMode _ outcome refl k
    asked (route.Pull mpc address) k =
        by_bool _ _ _ (nat_lt n end.confirmed) k (λ _. silent modes end w reply.Gone _ outcome refl) (λ _. paired mpc address (slice_get end.inbox n))

errs : (modes : List Mode) (end : End) (w : What) (code : ℕ) (about : List ℕ) (event : Event) (outcome : Outcome) → Errs code about event outcome
    → Asked modes end w outcome
errs modes end w code about event outcome h = signals modes end w (reply.Answer (message.Signal h.0)) _ outcome h.0 refl h.2

receipts : (modes : List Mode) (end : End) (w : What) (header : UserHeader) (effects : List Effect) (event : Event) (outcome : Outcome)
    → Receipts header effects event outcome → Asked modes end w outcome
receipts modes end w header effects event outcome h = signals modes end w (reply.Answer (message.Signal h.0)) effects outcome h.0 refl h.2

user_comes : (modes : List Mode) (end : End) (event : Event) (w : What) (header : UserHeader) (payloads : List Payload) (outcome : Outcome)
    → UserComes modes end event header payloads outcome → Asked modes end w outcome
unfolding UserComes
user_comes modes end event w header payloads outcome h =
    by_option _ _ _ (mode_of modes header) h (errs modes end w 10 header.id event outcome) (λ mode _ k.
    by_bool _ _ _ (is_known header.id end.inbox) k (λ _. receipts modes end w header [] event outcome) (λ _ d.
    receipts modes end w header _ event outcome d.3))

-- a pull request, alone or in a pair: this event asks for the head that this endpoint sends
pull_comes : (modes : List Mode) (end at : End) (event : Event) (w : What) (pull : Signal) (mpc : List ℕ) (outcome : Outcome)
    → pull.body ≡ body.Pull mpc → ((s : Sent) → IsPulled s modes pull at → AskedBy s modes w end)
    → PullComes modes at event pull.id mpc outcome → Asked modes end w outcome
unfolding PullComes
pull_comes modes end at event w pull mpc outcome is_pull asks h = by_serving (channel_mode modes mpc) refl h
  where
    handed : (mode : Mode) → channel_mode modes mpc ≡ Some mode → (s : Sent) → head_of (queue.Channel mpc) at ≡ Some s
        → Gives (effect.Tried s.submission.number) (reply.Answer (message_of s.submission)) outcome → Asked modes end w outcome
    handed mode serves s head g header payloads said = record {
      one = s;
      asked = asks s (mpc, is_pull, subst IsSome (sym serves) refl, head);
      same = only_one (message_of s.submission) (message.User header payloads)
          (subst (λ (o : Outcome). Has (sends o.reply) (message.User header payloads)) g said);
      address = λ a x e.
          let both : reply.Answer (message_of s.submission) ≡ reply.Push a x = sym (ap (λ (o : Outcome). o.reply) g) ∙ e in absurd cc;
    }

    by_serving : (o : Option Mode) → channel_mode modes mpc ≡ o
        → MatchOption o (Errs 1 pull.id event outcome) (λ mode.
        MatchOption (head_of (queue.Channel mpc) at) (Errs 6 pull.id event outcome) (λ s.
        Gives (effect.Tried s.submission.number) (reply.Answer (message_of s.submission)) outcome))
        → Asked modes end w outcome
    by_serving None e k = errs modes end w 1 pull.id event outcome k
    by_serving (Some mode) e k =
        by_option _ _ _ (head_of (queue.Channel mpc) at) k (errs modes end w 6 pull.id event outcome) (λ s head g. handed mode e s head g)

receipt_comes : (modes : List Mode) (end : End) (event : Event) (w : What) (id : List ℕ) (ref_to : Option (List ℕ)) (copy : Option UserHeader) (outcome : Outcome)
    → ReceiptComes end event id ref_to copy outcome → Asked modes end w outcome
unfolding ReceiptComes
receipt_comes modes end event w id ref_to copy outcome h =
    by_option _ _ _ (option_and_then (λ ref. sent_of ref end.sent) ref_to) h (errs modes end w 3 id event outcome) (λ s _ k.
    elim k [ inl other ↦ errs modes end w 302 id event outcome other.1 | inr own ↦ settles s own.1 ])
  where
    settles : (s : Sent) → Settles s outcome → Asked modes end w outcome
    settles s k = by_bool _ _ _ (is_pending s) k (λ _. silent modes end w reply.Quiet _ outcome refl) (λ _. silent modes end w reply.Quiet _ outcome refl)

signal_comes : (modes : List Mode) (end : End) (event : Event) (signal : Signal) (b : SignalBody) (outcome : Outcome) → signal.body ≡ b
    → SignalComes modes end event signal.id signal.ref_to b outcome → Asked modes end (what.Came (message.Signal signal)) outcome
signal_comes modes end event signal (body.Pull mpc) outcome e h =
    pull_comes modes end end event _ signal mpc outcome e (λ s pulled. inr (inl (signal, refl, pulled))) h
signal_comes modes end event signal (body.Receipt copy) outcome e h = receipt_comes modes end event _ signal.id signal.ref_to copy outcome h
signal_comes modes end event signal (body.Errors items) outcome e h = silent modes end _ reply.Quiet _ outcome refl h

-- a pair, whose pull request asks the endpoint after its receipt
pair_comes : (modes : List Mode) (end : End) (event : Event) (pair : Pair) (outcome : Outcome)
    → PairComes modes end event pair.receipt pair.pull outcome → Asked modes end (what.Came (message.Pair pair)) outcome
pair_comes modes end event pair outcome h = elim (pair_cases modes end event pair outcome h) [
  | inl r ↦ errs modes end w r.code r.about event outcome r.errs
  | inr s ↦ elim s.row [
    | inl a ↦ pull_comes modes end end event w pair.pull s.mpc outcome s.asks
        (λ u pulled. inr (inr (pair, refl, (s.one, s.of, subst (IsPulled u modes pair.pull) (behind_settled s.one end a.settled) pulled)))) a.row
    | inr b ↦ asked_so b.pulled b.is (pull_comes modes end _ event w pair.pull s.mpc b.pulled s.asks
        (λ u pulled. inr (inr (pair, refl, (s.one, s.of, subst (IsPulled u modes pair.pull) (behind_pending s.one end b.pending) pulled)))) b.row)
  ]
]
  where
    w : What
    w = what.Came (message.Pair pair)

    asked_so : (pulled : Outcome) {effects : List Effect} → outcome ≡ record { effects = effects; reply = pulled.reply }
        → Asked modes end w pulled → Asked modes end w outcome
    asked_so pulled is asked header payloads said =
        let was = asked header payloads (subst (λ (o : Outcome). Has (sends o.reply) (message.User header payloads)) is said) in
        record { one = was.one; asked = was.asked; same = was.same; address = λ a x e. was.address a x (sym (ap (λ (o : Outcome). o.reply) is) ∙ e) }

    behind_settled : (s : Sent) (end : End) → is_pending s ≡ false → end ≡ behind_receipt s end
    behind_settled s end e = sym (ap (λ (b : Bool). if b then after (effect.Receipted s.submission.number) end else end) e)

    behind_pending : (s : Sent) (end : End) → is_pending s ≡ true → after (effect.Receipted s.submission.number) end ≡ behind_receipt s end
    behind_pending s end e = sym (ap (λ (b : Bool). if b then after (effect.Receipted s.submission.number) end else end) e)

comes : (modes : List Mode) (end : End) (event : Event) (m : Message) (outcome : Outcome) → Comes modes end event m outcome
    → Asked modes end (what.Came m) outcome
comes modes end event (message.User header payloads) outcome h = user_comes modes end event _ header payloads outcome h
comes modes end event (message.Signal signal) outcome h = signal_comes modes end event signal signal.body outcome refl h
comes modes end event (message.Pair pair) outcome h = pair_comes modes end event pair outcome h

confirms : (modes : List Mode) (end : End) (w : What) (upto : ℕ) (outcome : Outcome) → Confirms end upto outcome → Asked modes end w outcome
unfolding Confirms
confirms modes end w upto outcome h =
    by_bool _ _ _ (nat_lt upto end.confirmed) h (λ _. silent modes end w reply.Gone _ outcome refl) (λ _ k.
    by_bool _ _ _ (nat_le (length end.inbox) upto) k (λ _. silent modes end w reply.NoEntry _ outcome refl) (λ _.
    silent modes end w (reply.Confirmed upto) _ outcome refl))

row_asked : (modes : List Mode) (end : End) (event : Event) (w : What) (outcome : Outcome) → RowOf modes end event w outcome → Asked modes end w outcome
row_asked modes end event (what.Submit mode conversation loads) outcome h = submits modes end event _ mode conversation loads outcome h
row_asked modes end event what.Tick outcome h = ticks modes end event _ outcome h
row_asked modes end event what.Take outcome h = takes modes end outcome h
row_asked modes end event (what.Ask mode) outcome h = asks modes end event _ mode outcome h
row_asked modes end event (what.AskWith mode n) outcome h = asks_with modes end event _ mode n outcome h
row_asked modes end event (what.Came m) outcome h = comes modes end event m outcome h
row_asked modes end event (what.Read n) outcome h = silent modes end _ (read_reply end n) _ outcome (read_silent end n) h
row_asked modes end event (what.Confirm upto) outcome h = confirms modes end _ upto outcome h
row_asked modes end event (what.Status id) outcome h =
    silent modes end _ (standing_reply (sent_of id end.sent)) _ outcome (standing_silent (sent_of id end.sent)) h

limited_asked : (modes : List Mode) (end : End) (w : What) (row outcome : Outcome) → Asked modes end w row → IsLimited end row outcome → Asked modes end w outcome
limited_asked modes end w row outcome asked h =
    by_bool _ _ _ (has_room end row.effects) h (λ _ same. subst (Asked modes end w) (sym same) asked) (λ _. silent modes end w (reply.Full _ _) _ outcome refl)

-- at a step
pub step_asked : (act : Act) (end : End) (header : UserHeader) (payloads : List Payload) → Step act.modes end act.event act.outcome
    → Has (sends act.outcome.reply) (message.User header payloads)
    → (s : Sent) × IsAskedFor s act end × (message.User header payloads ≡ message_of s.submission)
    × ((a : List ℕ) (m : Message) → act.outcome.reply ≡ reply.Push a m → a ≡ address_of s.submission.route)
step_asked act end header payloads step said =
    let asked = limited_asked act.modes end act.event.what step.row act.outcome (row_asked act.modes end act.event act.event.what step.row step.decided) step.limited
    header payloads said in
    (asked.one, asked.asked, asked.same, asked.address)

-- an `Ask` by a pull mode sends a pull request for its channel to its address
pub asks_pull : (modes : List Mode) (end : End) (event : Event) (outcome : Outcome) (name mpc address : List ℕ) (mode : Mode)
    → Step modes end event outcome → event.what ≡ what.Ask name → mode_named modes name ≡ Some mode → mode.route ≡ route.Pull mpc address
    → (signal : Signal) × (outcome.reply ≡ reply.Request address (message.Signal signal)) × (signal.body ≡ body.Pull mpc)
unfolding Asks
asks_pull modes end event outcome name mpc address mode step asked named pulls =
    let row : Asks modes event name step.row = subst (λ (w : What). RowOf modes end event w step.row) asked step.decided in
    let by : AsksBy (route.Pull mpc address) event step.row =
    subst (λ (r : Route). AsksBy r event step.row) pulls (at_some _ _ (mode_named modes name) mode named row) in
    let rests : Rests (reply.Request address (message.Signal by.0)) outcome = rest_taken end step.row outcome _ step.limited by.2 in
    (by.0, ap (λ (o : Outcome). o.reply) rests, by.1.asks)

-- an `AskWith` for an entry that isn't confirmed bundles its receipt with the pull request
pub asks_pair : (modes : List Mode) (end : End) (event : Event) (outcome : Outcome) (name : List ℕ) (n : ℕ) (mpc address : List ℕ) (mode : Mode)
    (entry : InboxEntry)
    → Step modes end event outcome → event.what ≡ what.AskWith name n → mode_named modes name ≡ Some mode → mode.route ≡ route.Pull mpc address
    → end.confirmed ≤ n → slice_get end.inbox n ≡ Some entry
    → (pair : Pair) × (outcome.reply ≡ reply.Request address (message.Pair pair)) × (pair.pull.body ≡ body.Pull mpc)
    × (pair.receipt.ref_to ≡ Some entry.header.id) × (pair.receipt.body ≡ body.Receipt (Some entry.header))
unfolding AsksWith
asks_pair modes end event outcome name n mpc address mode entry step asked named pulls open_there at =
    let row : AsksWith modes end event name n step.row = subst (λ (w : What). RowOf modes end event w step.row) asked step.decided in
    let by : AsksWithBy (route.Pull mpc address) end event n step.row =
    subst (λ (r : Route). AsksWithBy r end event n step.row) pulls (at_some _ _ (mode_named modes name) mode named row) in
    let there : AsksWithEntry mpc address event (Some entry) step.row =
    subst (λ (o : Option InboxEntry). AsksWithEntry mpc address event o step.row) at
    (at_bool _ _ (nat_lt n end.confirmed) false (not_below n end.confirmed open_there) by) in
    let rests : Rests (reply.Request address (message.Pair there.0)) outcome = rest_taken end step.row outcome _ step.limited there.2 in
    (there.0, ap (λ (o : Outcome). o.reply) rests, there.1.pull.asks, there.1.receipt.refers, there.1.receipt.copies)
