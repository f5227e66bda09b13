-- An event has an outcome, row by row.
use Rattle.std.proofs.Common.{◌≡◌, ℕ, ◌<◌, ◌≤◌, ◌⊎◌, inl, inr, List, [], ◌∷◌, true, false, Option, Some, None, length, refl, arith}
use Rattle.std.specs.Prelude.{nat_le, nat_lt, slice_get}
use Rattle.std.specs.List.{count_by}
use Rattle.std.specs.Option.{option_and_then}
use Rattle.std.proofs.lemmas.Bool.{and_parts}
use Rattle.std.proofs.lemmas.Bool.Decides.{nat_tests}
use Rattle.as4_values.specs.Pairing.{pair}
use Rattle.as4_effects.specs.Sound.{delivered_body, fits_an_effect}
use Rattle.as4_effects.specs.declared.delivery.Delivery.{Delivery}
use Rattle.as4_effects.specs.declared.effect.Effect.{Effect}
use Rattle.as4_effects.specs.declared.effect.Effect.TheVariants as effect
use Rattle.as4_effects.specs.declared.effect.Tick.{Tick}
use Rattle.as4_effects.specs.declared.queue.Queue.TheVariants as queue
use Rattle.mode_values.specs.ModeMatch.{mode_of, mode_named, channel_mode}
use Rattle.as4_values.specs.declared.header.UserHeader.{UserHeader}
use Rattle.as4_values.specs.declared.message.Message.{Message}
use Rattle.as4_values.specs.declared.message.Message.TheVariants as message
use Rattle.mode_values.specs.declared.mode.Mode.{Mode}
use Rattle.as4_values.specs.declared.payload.Load.{Load}
use Rattle.as4_values.specs.declared.payload.Payload.{Payload}
use Rattle.as4_values.specs.declared.route.Route.{Route}
use Rattle.as4_values.specs.declared.route.Route.TheVariants as route
use Rattle.as4_values.specs.declared.signal.Signal.{Signal}
use Rattle.as4_values.specs.declared.signal_body.SignalBody.{SignalBody}
use Rattle.as4_values.specs.declared.signal_body.SignalBody.TheVariants as body
use Rattle.as4_values.specs.declared.moment.TheConstants.{MAX_MOMENT}
use Rattle.exchange_model.specs.Alone.{end_after}
use Rattle.exchange_model.specs.Apply.{after, after_all, applied}
use Rattle.exchange_model.specs.Coming.{is_deliverable, may_come}
use Rattle.exchange_model.specs.End.{End}
use Rattle.as4_codes.specs.ErrorCodes.{ErrorRow, error_row, error_table}
use Rattle.exchange_model.specs.Typed.{IsTyped, HasTexts}
use Rattle.exchange_model.specs.Questions.{head_of, is_known, is_pending, is_spent, sent_of}
use Rattle.exchange_model.specs.Submitting.{are_too_large}
use Rattle.exchange_model.specs.Table.{Rests, Errs, Receipts, Submits, Ticks, Takes, Asks, AsksBy, AsksWith, AsksWithBy, AsksWithEntry, UserComes, PullComes, Settles, IsOther, ReceiptComes, SignalComes, PullsBehind, PairComes, Comes, Confirms, RowOf, Step, has_room, is_quiet}
use Rattle.exchange_model.specs.Fold.{resized}
use Rattle.exchange_model.specs.World.{Happening, Does, Folds}
use Rattle.exchange_model.specs.declared.event.Event.{Event}
use Rattle.exchange_model.specs.declared.inbox_entry.InboxEntry.{InboxEntry}
use Rattle.exchange_model.specs.declared.outcome.Outcome.{Outcome}
use Rattle.exchange_model.specs.declared.reply.Reply.{Reply}
use Rattle.exchange_model.specs.declared.reply.Reply.TheVariants as reply
use Rattle.exchange_model.specs.declared.sent.Sent.{Sent}
use Rattle.exchange_model.specs.declared.what.What.{What}
use Rattle.exchange_model.specs.declared.what.What.TheVariants as what
use Rattle.outcome_laws.proofs.Cases.{some_option, some_bool}
use Rattle.outcome_laws.proofs.SameHeader.{is_other_or}
use Rattle.outcome_laws.proofs.Signals.{some_receipt, some_error, some_pull, some_pair}
use Rattle.outcome_laws.proofs.SomeSubmission.{some_submission}

-- an outcome with this property exists
abbrev Some_ : (Outcome → Type 0) → Type 0
Some_ P = (outcome : Outcome) × P outcome

rests : (r : Reply) → Some_ (Rests r)
rests r = (record { effects = []; reply = r }, refl)

-- an error of the table
errs : (code : ℕ) (row : ErrorRow) (about : List ℕ) (event : Event) → error_row code ≡ Some row → Some_ (Errs code about event)
errs code row about event found =
    let signal = some_error code row (Some about) event.stamp event.nonce found event.dated in
    (record { effects = []; reply = reply.Answer (message.Signal signal.0) }, (signal.0, signal.1, refl))

value_not_recognized : (about : List ℕ) (event : Event) → Some_ (Errs 1 about event)
unfolding error_row error_table
value_not_recognized about event = errs 1 _ about event refl

value_inconsistent : (about : List ℕ) (event : Event) → Some_ (Errs 3 about event)
unfolding error_row error_table
value_inconsistent about event = errs 3 _ about event refl

empty_channel : (about : List ℕ) (event : Event) → Some_ (Errs 6 about event)
unfolding error_row error_table
empty_channel about event = errs 6 _ about event refl

mode_mismatch : (about : List ℕ) (event : Event) → Some_ (Errs 10 about event)
unfolding error_row error_table
mode_mismatch about event = errs 10 _ about event refl

invalid_receipt : (about : List ℕ) (event : Event) → Some_ (Errs 302 about event)
unfolding error_row error_table
invalid_receipt about event = errs 302 _ about event refl

receipts : (header : UserHeader) (effects : List Effect) (event : Event) → Some_ (Receipts header effects event)
receipts header effects event =
    let signal = some_receipt header event.stamp event.nonce event.dated in
    (record { effects = effects; reply = reply.Answer (message.Signal signal.0) }, (signal.0, signal.1, refl))

below : (n : ℕ) → nat_le 1048576 n ≡ false → n < 1048576
below n e = grind (arith, nat_tests)

-- Submit
submits : (modes : List Mode) (end : End) (event : Event) (name : List ℕ) (conversation : Option (List ℕ)) (loads : List Load)
    → IsTyped event → HasTexts (what.Submit name conversation loads) → end.moment ≤ MAX_MOMENT
    → Some_ (Submits modes end event name conversation loads)
unfolding Submits
submits modes end event name conversation loads held texts dated =
    some_option _ _ (mode_named modes name) (rests reply.NoMode) (λ mode _.
    some_bool _ _ (nat_le 1048576 (length end.sent)) (λ _. rests reply.OutboxFull) (λ few.
    some_bool _ _ (are_too_large loads) (λ _. rests reply.TooLarge) (λ small.
    let s = some_submission mode (length end.sent) end.moment event.stamp event.nonce conversation loads (below (length end.sent) few) dated
    event.dated held.nonce texts small in
    (record { effects = effect.Submitted s.0 ∷ []; reply = reply.Submitted s.0.number s.0.header.id }, (s.0, s.1, refl)))))

-- Tick
ticks : (end : End) (event : Event) → Some_ (Ticks end event)
unfolding Ticks
ticks end event =
    some_bool _ _ (nat_le event.stamp end.moment) (λ _. rests (reply.Ticked 0)) (λ _.
    let tick : Tick = record { moment = event.stamp; dated = event.dated } in
    (record { effects = effect.Ticked tick ∷ []; reply = reply.Ticked (count_by (is_spent event.stamp) end.sent) }, (tick, refl, refl)))

-- Take
takes : (end : End) → Some_ (Takes end)
unfolding Takes
takes end = some_option _ _ (head_of queue.Push end) (rests reply.Nothing) (λ s _. (_, refl))

-- Ask
asks : (modes : List Mode) (event : Event) (name : List ℕ) → Some_ (Asks modes event name)
unfolding Asks
asks modes event name = some_option _ _ (mode_named modes name) (rests reply.NoMode) (λ mode _. asked mode.route)
  where
    asked : (r : Route) → Some_ (AsksBy r event)
    asked (route.Push address) = rests reply.NoMode
    asked (route.Pull mpc address) =
        let signal = some_pull mpc event.stamp event.nonce event.dated in
        (record { effects = []; reply = reply.Request address (message.Signal signal.0) }, (signal.0, signal.1, refl))

-- AskWith
asks_with : (modes : List Mode) (end : End) (event : Event) (name : List ℕ) (n : ℕ) → Some_ (AsksWith modes end event name n)
unfolding AsksWith
asks_with modes end event name n = some_option _ _ (mode_named modes name) (rests reply.NoMode) (λ mode _. asked mode.route)
  where
    paired : (mpc address : List ℕ) (o : Option InboxEntry) → Some_ (AsksWithEntry mpc address event o)
    paired mpc address None = rests reply.NoEntry
    paired mpc address (Some entry) =
        let pair = some_pair entry.header mpc event.stamp event.nonce event.dated in
        (record { effects = []; reply = reply.Request address (message.Pair pair.0) }, (pair.0, pair.1, refl))

    asked : (r : Route) → Some_ (AsksWithBy r end event n)
    asked (route.Push address) = rests reply.NoMode
    asked (route.Pull mpc address) =
        some_bool _ _ (nat_lt n end.confirmed) (λ _. rests reply.Gone) (λ _. paired mpc address (slice_get end.inbox n))

-- a user message
user_comes : (modes : List Mode) (end : End) (event : Event) (header : UserHeader) (payloads : List Payload)
    → may_come (what.Came (message.User header payloads)) ≡ true → Some_ (UserComes modes end event header payloads)
unfolding UserComes may_come is_deliverable
user_comes modes end event header payloads may =
    some_option _ _ (mode_of modes header) (mode_mismatch header.id event) (λ mode _.
    some_bool _ _ (is_known header.id end.inbox) (λ _. receipts header [] event) (λ _.
    let parts = and_parts (pair header.parts payloads) (fits_an_effect (delivered_body header payloads)) may in
    let d : Delivery = record { header = header; payloads = payloads; paired = parts.0; fits = parts.1 } in
    let outcome = receipts header (effect.Delivered d ∷ []) event in
    (outcome.0, (d, refl, refl, outcome.1))))

-- a pull request
pull_comes : (modes : List Mode) (end : End) (event : Event) (id mpc : List ℕ) → Some_ (PullComes modes end event id mpc)
unfolding PullComes
pull_comes modes end event id mpc =
    some_option _ _ (channel_mode modes mpc) (value_not_recognized id event) (λ mode _.
    some_option _ _ (head_of (queue.Channel mpc) end) (empty_channel id event) (λ s _. (_, refl)))

-- a receipt
receipt_comes : (end : End) (event : Event) (id : List ℕ) (ref_to : Option (List ℕ)) (copy : Option UserHeader)
    → Some_ (ReceiptComes end event id ref_to copy)
unfolding ReceiptComes
receipt_comes end event id ref_to copy =
    some_option _ _ (option_and_then (λ ref. sent_of ref end.sent) ref_to) (value_inconsistent id event)
    (λ s _. named s (is_other_or copy s.submission.header))
  where
    settles : (s : Sent) → Some_ (Settles s)
    settles s = some_bool _ _ (is_pending s) (λ _. (_, refl)) (λ _. rests reply.Quiet)

    named : (s : Sent) → IsOther copy s.submission.header ⊎ (IsOther copy s.submission.header → ⊥)
        → Some_ (λ outcome. (IsOther copy s.submission.header × Errs 302 id event outcome) ⊎ ((IsOther copy s.submission.header → ⊥) × Settles s outcome))
    named s (inl other) = let o = invalid_receipt id event in (o.0, inl (other, o.1))
    named s (inr own) = let o = settles s in (o.0, inr (own, o.1))

-- a signal, by its body
signal_comes : (modes : List Mode) (end : End) (event : Event) (id : List ℕ) (ref_to : Option (List ℕ)) (s : SignalBody)
    → Some_ (SignalComes modes end event id ref_to s)
signal_comes modes end event id ref_to (body.Pull mpc) = pull_comes modes end event id mpc
signal_comes modes end event id ref_to (body.Receipt copy) = receipt_comes end event id ref_to copy
signal_comes modes end event id ref_to (body.Errors items) = (_, refl)

-- a pair
pair_comes : (modes : List Mode) (end : End) (event : Event) (receipt pull : Signal) → Some_ (PairComes modes end event receipt pull)
unfolding PairComes
pair_comes modes end event receipt pull =
    let settled = signal_comes modes end event receipt.id receipt.ref_to receipt.body in
    let outcome = some_bool (PullsBehind modes end event pull settled.0) (λ (o : Outcome). o ≡ settled.0) (is_quiet settled.0.reply)
    (λ _. let pulled = signal_comes modes (after_all settled.0.effects end) event pull.id pull.ref_to pull.body in (_, (pulled.0, pulled.1, refl)))
    (λ _. (settled.0, refl)) in
    (outcome.0, (settled.0, settled.1, outcome.1))

-- any received message
comes : (modes : List Mode) (end : End) (event : Event) (m : Message) → may_come (what.Came m) ≡ true → Some_ (Comes modes end event m)
comes modes end event (message.User header payloads) may = user_comes modes end event header payloads may
comes modes end event (message.Signal signal) may = signal_comes modes end event signal.id signal.ref_to signal.body
comes modes end event (message.Pair pair) may = pair_comes modes end event pair.receipt pair.pull

-- Confirm
confirms : (end : End) (upto : ℕ) → Some_ (Confirms end upto)
unfolding Confirms
confirms end upto =
    some_bool _ _ (nat_lt upto end.confirmed) (λ _. rests reply.Gone) (λ _.
    some_bool _ _ (nat_le (length end.inbox) upto) (λ _. rests reply.NoEntry) (λ _. (_, refl)))

-- by the rows of the event
some_row : (modes : List Mode) (end : End) (event : Event) (w : What) → IsTyped event → HasTexts w → may_come w ≡ true
    → end.moment ≤ MAX_MOMENT → Some_ (RowOf modes end event w)
some_row modes end event (what.Submit mode conversation loads) held texts may dated = submits modes end event mode conversation loads held texts dated
some_row modes end event what.Tick held texts may dated = ticks end event
some_row modes end event what.Take held texts may dated = takes end
some_row modes end event (what.Ask mode) held texts may dated = asks modes event mode
some_row modes end event (what.AskWith mode n) held texts may dated = asks_with modes end event mode n
some_row modes end event (what.Came m) held texts may dated = comes modes end event m may
some_row modes end event (what.Read n) held texts may dated = rests _
some_row modes end event (what.Confirm upto) held texts may dated = confirms end upto
some_row modes end event (what.Status id) held texts may dated = rests _

pub some_outcome : (modes : List Mode) (end : End) (event : Event) → IsTyped event → end.moment ≤ MAX_MOMENT
    → (outcome : Outcome) × Step modes end event outcome
some_outcome modes end event held dated =
    let row = some_row modes end event event.what held held.texts event.deliverable dated in
    let limited = some_bool {Y = Outcome} (λ outcome. outcome ≡ row.0) (Rests (reply.Full end.size _)) (has_room end row.0.effects)
    (λ _. (row.0, refl)) (λ _. rests (reply.Full end.size _)) in
    (limited.0, record { row = row.0; decided = row.1; limited = limited.1 })

-- the clock stays within its range
after_one : (e : Effect) (end : End) → end.moment ≤ MAX_MOMENT → (after e end).moment ≤ MAX_MOMENT
unfolding after
after_one (effect.Submitted submission) end dated = dated
after_one (effect.Ticked tick) end dated = tick.dated
after_one (effect.Tried number) end dated = dated
after_one (effect.Delivered delivery) end dated = dated
after_one (effect.Receipted number) end dated = dated
after_one (effect.Refused number code) end dated = dated
after_one (effect.Confirmed upto) end dated = dated
after_one (effect.Carried carried) end dated = dated
after_one (effect.Kept kept) end dated = dated

after_some : (effects : List Effect) (end : End) → end.moment ≤ MAX_MOMENT → (after_all effects end).moment ≤ MAX_MOMENT
after_some [] end dated = dated
after_some (e ∷ effects) end dated = after_some effects (after e end) (after_one e end dated)

after_applied : (effects : List Effect) (end : End) → end.moment ≤ MAX_MOMENT → (applied effects end).moment ≤ MAX_MOMENT
unfolding applied
after_applied [] end dated = dated
after_applied (e ∷ effects) end dated = after_some (e ∷ effects) end dated

pub dated_after : (all : List Happening) (end : End) → end.moment ≤ MAX_MOMENT → (end_after all end).moment ≤ MAX_MOMENT
dated_after [] end dated = dated
dated_after (Does act ∷ later) end dated = dated_after later (applied act.outcome.effects end) (after_applied act.outcome.effects end dated)
dated_after (Folds side size ∷ later) end dated = dated_after later (resized size end) dated
