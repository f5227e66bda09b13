-- How many messages an end has to push, and how an event changes that.
use Rattle.std.proofs.Common.{◌≡◌, ℕ, ◌+◌, ◌≤◌, List, [], ◌∷◌, ◌++◌, Bool, true, false, cond, ◌&&◌, Option, Some, None, length, map, inl, inr, refl, sym, ap, ◌∙◌, subst, arith, length-append}
use Rattle.std.specs.Prelude.{nat_le, ◌==◌, if◌then◌else◌}
use Rattle.std.specs.List.{count_by, filter, filter_map}
use Rattle.std.specs.Option.{option_and_then}
use Rattle.std.proofs.lemmas.Bool.Decides.{nat_tests}
use Rattle.std.proofs.lemmas.List.Sums.{sum_by-cons}
use Rattle.as4_effects.specs.declared.effect.Effect.{Effect}
use Rattle.as4_effects.specs.declared.effect.Effect.TheVariants as effect
use Rattle.as4_effects.specs.declared.queue.Queue.TheVariants as queue
use Rattle.mode_values.specs.ModeMatch.{mode_of, mode_named, channel_mode}
use Rattle.as4_values.specs.declared.header.UserHeader.{UserHeader}
use Rattle.as4_values.specs.declared.message.Message.{Message}
use Rattle.as4_values.specs.declared.message.Message.TheVariants as message
use Rattle.mode_values.specs.declared.mode.Mode.{Mode}
use Rattle.as4_values.specs.declared.payload.Load.{Load}
use Rattle.as4_values.specs.declared.payload.Payload.{Payload}
use Rattle.as4_values.specs.declared.signal.Signal.{Signal}
use Rattle.as4_values.specs.declared.signal_body.SignalBody.{SignalBody}
use Rattle.as4_values.specs.declared.signal_body.SignalBody.TheVariants as body
use Rattle.drill.specs.Generated.{Pushes, PushesNone}
use Rattle.drill.specs.Generating.{may_be_pushed, to_push}
use Rattle.exchange_laws.proofs.EndSteps.{by_bool, by_option}
use Rattle.exchange_model.proofs.ListLemmas.{Has, first_least_has, has_filtered}
use Rattle.exchange_model.specs.Apply.{after, after_all, applied, changed, failed_if_spent, marked, record_len, tried, unsent}
use Rattle.exchange_model.specs.End.{End}
use Rattle.exchange_model.specs.Questions.{due, head_of, is_in, is_known, is_pending, is_ready, is_waiting, sent_of}
use Rattle.exchange_model.specs.Refusing.{Rejection, once, refusal_of, refusals_of}
use Rattle.exchange_model.specs.Submitting.{address_of, are_too_large}
use Rattle.exchange_model.specs.Table.{Comes, Errs, IsLimited, PairComes, PullComes, ReceiptComes, RowOf, Settles, SignalComes, Step, Submits, Takes, Ticks, UserComes, has_room, is_quiet, message_of, names_channel}
use Rattle.exchange_model.specs.World.{sends}
use Rattle.exchange_model.specs.declared.event.Event.{Event}
use Rattle.exchange_model.specs.declared.outcome.Outcome.{Outcome}
use Rattle.exchange_model.specs.declared.reply.Reply.{Reply}
use Rattle.exchange_model.specs.declared.reply.Reply.TheVariants as reply
use Rattle.as4_effects.specs.declared.mark.Mark.TheVariants as mark
use Rattle.exchange_model.specs.declared.sent.Sent.{Sent}
use Rattle.exchange_model.specs.declared.what.What.{What}
use Rattle.exchange_model.specs.declared.what.What.TheVariants as what

-- no more is handed in, and no more is to be pushed
pub record IsCalm (old new : End) : Type 0 where
  pub handed : length new.sent ≤ length old.sent
  pub push : to_push new ≤ to_push old

pub calm_none : (end : End) → IsCalm end end
calm_none end = record { handed = omega arith; push = omega arith }

calm_then : (a b c : End) → IsCalm a b → IsCalm b c → IsCalm a c
calm_then a b c first next = record { handed = omega (arith, first.handed, next.handed); push = omega (arith, first.push, next.push) }

-- counts of what is mapped

length_mapped : (f : Sent → Sent) (sent : List Sent) → length (map f sent) ≡ length sent
length_mapped f [] = refl
length_mapped f (s ∷ sent) = omega (arith, length_mapped f sent)

one_mapped : (old new : Bool) → (new ≡ true → old ≡ true) → cond new 1 0 ≤ cond old 1 0
one_mapped true true keeps = omega arith
one_mapped true false keeps = omega arith
one_mapped false false keeps = omega arith
one_mapped false true keeps = let never = keeps refl in absurd (cc never)

count_more : (p : Sent → Bool) (s : Sent) (sent : List Sent) → count_by p (s ∷ sent) ≡ cond (p s) 1 0 + count_by p sent
count_more p s sent = sum_by-cons (λ (t : Sent). cond (p t) 1 0) s sent

count_mapped : (p : Sent → Bool) (f : Sent → Sent) (sent : List Sent) → ((s : Sent) → p (f s) ≡ true → p s ≡ true)
    → count_by p (map f sent) ≤ count_by p sent
count_mapped p f [] keeps = omega arith
count_mapped p f (s ∷ sent) keeps =
    let first = one_mapped (p s) (p (f s)) (keeps s) in
    let rest = count_mapped p f sent keeps in
    omega (arith, first, rest, count_more p s sent, count_more p (f s) (map f sent))

one_less : (old new : Bool) → old ≡ true → new ≡ false → cond new 1 0 + 1 ≤ cond old 1 0
one_less old new is none = rw (is, none) (omega arith)

count_less : (p : Sent → Bool) (f : Sent → Sent) (sent : List Sent) (s : Sent) → ((t : Sent) → p (f t) ≡ true → p t ≡ true)
    → Has sent s → p s ≡ true → p (f s) ≡ false → count_by p (map f sent) + 1 ≤ count_by p sent
count_less p f [] s keeps there is none = absurd there
count_less p f (t ∷ sent) s keeps (inl same) is none =
    let first = one_less (p t) (p (f t)) (ap p same ∙ is) (ap (λ (u : Sent). p (f u)) same ∙ none) in
    let rest = count_mapped p f sent keeps in
    omega (arith, first, rest, count_more p t sent, count_more p (f t) (map f sent))
count_less p f (t ∷ sent) s keeps (inr there) is none =
    let first = one_mapped (p t) (p (f t)) (keeps t) in
    let rest = count_less p f sent s keeps there is none in
    omega (arith, first, rest, count_more p t sent, count_more p (f t) (map f sent))

-- a change after which a submission isn't pushed now

one_changed : ℕ → (Sent → Sent) → Sent → Sent
one_changed number change s = if s.submission.number == number then change s else s

abbrev Quiets : ℕ → (Sent → Sent) → Type 0
Quiets moment change = (s : Sent) → may_be_pushed moment (change s) ≡ false

keeps_changed : (moment number : ℕ) (change : Sent → Sent) → Quiets moment change
    → (s : Sent) → may_be_pushed moment (one_changed number change s) ≡ true → may_be_pushed moment s ≡ true
unfolding one_changed
keeps_changed moment number change quiets s = by_test (s.submission.number == number)
  where
    by_test : (b : Bool) → may_be_pushed moment (if b then change s else s) ≡ true → may_be_pushed moment s ≡ true
    by_test true pushed = let never = quiets s in absurd (cc (never, pushed))
    by_test false pushed = pushed

calm_changed : (end : End) (number : ℕ) (change : Sent → Sent) → Quiets end.moment change
    → IsCalm end (record end { sent = changed number change end.sent })
unfolding changed one_changed
calm_changed end number change quiets = record {
  handed = omega (arith, length_mapped (one_changed number change) end.sent);
  push = count_mapped (may_be_pushed end.moment) (one_changed number change) end.sent (keeps_changed end.moment number change quiets);
}

and_none : (b : Bool) → (b && false) ≡ false
and_none true = refl
and_none false = refl

later_than : (moment period : ℕ) → 1 ≤ period → nat_le (moment + period) moment ≡ false
later_than moment period some = grind (arith, nat_tests)

tries_some : (tries : ℕ) → (tries + 1 == 0) ≡ false
tries_some tries = grind (arith, nat_tests)

-- what was sent now is due a period later
quiet_tried : (moment : ℕ) → Quiets moment (tried moment)
quiet_tried moment s =
    let due_is : due (tried moment s) ≡ moment + s.submission.period = rw (tries_some s.tries) refl in
    let later : nat_le (due (tried moment s)) moment ≡ false = ap (λ (n : ℕ). nat_le n moment) due_is ∙ later_than moment s.submission.period s.submission.timed.0 in
    let ready : is_ready moment (tried moment s) ≡ false = ap (λ (b : Bool). is_waiting (tried moment s) && b) later ∙ and_none (is_waiting (tried moment s)) in
    ap (λ (b : Bool). b && is_in queue.Push s) ready

-- effects that hand nothing in and set no clock
abbrev pub IsCalmEffect : Effect → Type 0
IsCalmEffect (effect.Submitted submission) = ⊥
IsCalmEffect (effect.Ticked tick) = ⊥
IsCalmEffect (effect.Carried carried) = ⊥
IsCalmEffect other = Unit {0}

abbrev pub AllCalm : List Effect → Type 0
AllCalm [] = Unit {0}
AllCalm (e ∷ effects) = IsCalmEffect e × AllCalm effects

calm_after : (e : Effect) (end : End) → IsCalmEffect e → IsCalm end (after e end)
unfolding after
calm_after (effect.Submitted submission) end never = absurd never
calm_after (effect.Ticked tick) end never = absurd never
calm_after (effect.Tried number) end calm = calm_changed end number (tried end.moment) (quiet_tried end.moment)
calm_after (effect.Delivered delivery) end calm = record { handed = omega arith; push = omega arith }
calm_after (effect.Receipted number) end calm = calm_changed end number (marked mark.Receipted) (λ s. refl)
calm_after (effect.Refused number code) end calm = calm_changed end number (marked (mark.Refused code)) (λ s. refl)
calm_after (effect.Confirmed upto) end calm = record { handed = omega arith; push = omega arith }
calm_after (effect.Carried carried) end never = absurd never
calm_after (effect.Kept kept) end calm = record { handed = omega arith; push = omega arith }

calm_all : (effects : List Effect) (end : End) → AllCalm effects → IsCalm end (after_all effects end)
calm_all [] end calm = calm_none end
calm_all (e ∷ effects) end calm = calm_then end (after e end) (after_all effects (after e end)) (calm_after e end calm.0) (calm_all effects (after e end) calm.1)

pub calm_applied : (effects : List Effect) (end : End) → AllCalm effects → IsCalm end (applied effects end)
unfolding applied
calm_applied [] end calm = calm_none end
calm_applied (e ∷ effects) end calm =
    let all = calm_all (e ∷ effects) end calm in record { handed = all.handed; push = all.push }

-- the rows of what comes

calm_by : (outcome : Outcome) (effects : List Effect) (r : Reply) → outcome ≡ record { effects = effects; reply = r } → AllCalm effects
    → AllCalm outcome.effects
calm_by outcome effects r is calm = subst (λ (o : Outcome). AllCalm o.effects) (sym is) calm

errs_calm : (code : ℕ) (about : List ℕ) (event : Event) (row : Outcome) → Errs code about event row → AllCalm row.effects
errs_calm code about event row h = calm_by row [] _ h.2 tt

user_calm : (modes : List Mode) (end : End) (event : Event) (header : UserHeader) (payloads : List Payload) (row : Outcome)
    → UserComes modes end event header payloads row → AllCalm row.effects
unfolding UserComes
user_calm modes end event header payloads row h =
    by_option _ _ _ (mode_of modes header) h (errs_calm 10 header.id event row) (λ mode _ k.
    by_bool _ _ _ (is_known header.id end.inbox) k (λ _ a. calm_by row [] _ a.2 tt) (λ _ d. calm_by row (effect.Delivered d.0 ∷ []) _ d.3.2 (tt, tt)))

pull_calm : (modes : List Mode) (end : End) (event : Event) (id mpc : List ℕ) (row : Outcome) → PullComes modes end event id mpc row
    → AllCalm row.effects
unfolding PullComes
pull_calm modes end event id mpc row h =
    by_option _ _ _ (channel_mode modes mpc) h (errs_calm 1 id event row) (λ mode _ k.
    by_option _ _ _ (head_of (queue.Channel mpc) end) k (errs_calm 6 id event row) (λ s _ g.
    calm_by row (effect.Tried s.submission.number ∷ []) _ g (tt, tt)))

receipt_calm : (end : End) (event : Event) (id : List ℕ) (ref_to : Option (List ℕ)) (copy : Option UserHeader) (row : Outcome)
    → ReceiptComes end event id ref_to copy row → AllCalm row.effects
unfolding ReceiptComes
receipt_calm end event id ref_to copy row h =
    by_option _ _ _ (option_and_then (λ ref. sent_of ref end.sent) ref_to) h (errs_calm 3 id event row) (λ s _ k. elim k [
      | inl other ↦ errs_calm 302 id event row other.1
      | inr own ↦ settles_calm s own.1
    ])
  where
    settles_calm : (s : Sent) → Settles s row → AllCalm row.effects
    settles_calm s k =
        by_bool _ _ _ (is_pending s) k (λ _ g. calm_by row (effect.Receipted s.submission.number ∷ []) _ g (tt, tt)) (λ _ g. calm_by row [] _ g tt)

refusals_calm : (refusals : List Rejection) → AllCalm (map (λ (refusal : Rejection). effect.Refused refusal.number refusal.code) refusals)
refusals_calm [] = tt
refusals_calm (refusal ∷ refusals) = (tt, refusals_calm refusals)

signal_calm : (modes : List Mode) (end : End) (event : Event) (id : List ℕ) (ref_to : Option (List ℕ)) (b : SignalBody) (row : Outcome)
    → SignalComes modes end event id ref_to b row → AllCalm row.effects
unfolding refusals_of
signal_calm modes end event id ref_to (body.Pull mpc) row h = pull_calm modes end event id mpc row h
signal_calm modes end event id ref_to (body.Receipt copy) row h = receipt_calm end event id ref_to copy row h
signal_calm modes end event id ref_to (body.Errors items) row h =
    calm_by row _ _ h (refusals_calm (once (filter_map (refusal_of ref_to end.sent) items)))

all_calm : (front back : List Effect) → AllCalm front → AllCalm back → AllCalm (front ++ back)
all_calm [] back calm more = more
all_calm (e ∷ front) back calm more = (calm.0, all_calm front back calm.1 more)

some_calm : (b : Bool) (effects : List Effect) → AllCalm effects → AllCalm (if b then effects else [])
some_calm true effects calm = calm
some_calm false effects calm = tt

pair_calm : (modes : List Mode) (end : End) (event : Event) (receipt pull : Signal) (row : Outcome) → PairComes modes end event receipt pull row
    → AllCalm row.effects
unfolding PairComes
pair_calm modes end event receipt pull row h =
    let settled = signal_calm modes end event receipt.id receipt.ref_to receipt.body h.0 h.1 in
    by_bool _ _ _ (is_quiet h.0.reply) h.2
    (λ _ k.
    let pulled = signal_calm modes (after_all h.0.effects end) event pull.id pull.ref_to pull.body k.0 k.1 in
    calm_by row _ _ k.2 (some_calm (names_channel modes pull.body) (h.0.effects ++ k.0.effects) (all_calm h.0.effects k.0.effects settled pulled)))
    (λ _ same. subst (λ (o : Outcome). AllCalm o.effects) (sym same) settled)

comes_calm : (modes : List Mode) (end : End) (event : Event) (m : Message) (row : Outcome) → Comes modes end event m row → AllCalm row.effects
comes_calm modes end event (message.User header payloads) row h = user_calm modes end event header payloads row h
comes_calm modes end event (message.Signal signal) row h = signal_calm modes end event signal.id signal.ref_to signal.body row h
comes_calm modes end event (message.Pair pair) row h = pair_calm modes end event pair.receipt pair.pull row h

limited_calm : (end : End) (row outcome : Outcome) → IsLimited end row outcome → AllCalm row.effects → AllCalm outcome.effects
limited_calm end row outcome limited calm =
    by_bool _ _ _ (has_room end row.effects) limited (λ _ same. subst (λ (o : Outcome). AllCalm o.effects) (sym same) calm)
    (λ _ full. calm_by outcome [] _ full tt)

row_at : (modes : List Mode) (end : End) (event : Event) (outcome : Outcome) (w : What) (step : Step modes end event outcome) → event.what ≡ w
    → RowOf modes end event w step.row
row_at modes end event outcome w step is = subst (λ (x : What). RowOf modes end event x step.row) is step.decided

-- what comes changes calmly
pub came_calm : (modes : List Mode) (end : End) (event : Event) (outcome : Outcome) (m : Message) → Step modes end event outcome
    → event.what ≡ what.Came m → IsCalm end (applied outcome.effects end)
came_calm modes end event outcome m step is =
    let row : Comes modes end event m step.row = row_at modes end event outcome (what.Came m) step is in
    calm_applied outcome.effects end (limited_calm end step.row outcome step.limited (comes_calm modes end event m step.row row))

-- at most so many messages are handed in
abbrev HandsIn : End → ℕ → Outcome → Type 0
HandsIn end most outcome = length (applied outcome.effects end).sent ≤ length end.sent + most

rests_hands : (end : End) (most : ℕ) (r : Reply) (outcome : Outcome) → outcome ≡ record { effects = []; reply = r } → HandsIn end most outcome
unfolding applied
rests_hands end most r outcome rests = subst (HandsIn end most) (sym rests) (omega arith)

limited_hands : (end : End) (most : ℕ) (row outcome : Outcome) → IsLimited end row outcome → HandsIn end most row → HandsIn end most outcome
limited_hands end most row outcome limited hands =
    by_bool _ _ _ (has_room end row.effects) limited (λ _ same. subst (HandsIn end most) (sym same) hands)
    (λ _ full. rests_hands end most _ outcome full)

-- a clock hands nothing in
ticks_hand : (end : End) (event : Event) (row : Outcome) → Ticks end event row → HandsIn end 0 row
unfolding Ticks applied after
ticks_hand end event row h =
    by_bool _ _ _ (nat_le event.stamp end.moment) h (λ _ rests. rests_hands end 0 _ row rests)
    (λ _ t. subst (HandsIn end 0) (sym t.2) (omega (arith, length_mapped (failed_if_spent t.0.moment) end.sent)))

pub tick_hands : (modes : List Mode) (end : End) (event : Event) (outcome : Outcome) → Step modes end event outcome
    → event.what ≡ what.Tick → HandsIn end 0 outcome
tick_hands modes end event outcome step is =
    limited_hands end 0 step.row outcome step.limited (ticks_hand end event step.row (row_at modes end event outcome what.Tick step is))

-- a submission hands one message in
submits_hand : (modes : List Mode) (end : End) (event : Event) (name : List ℕ) (conversation : Option (List ℕ)) (loads : List Load)
    (row : Outcome) → Submits modes end event name conversation loads row → HandsIn end 1 row
unfolding Submits applied after
submits_hand modes end event name conversation loads row h =
    by_option _ _ _ (mode_named modes name) h (rests_hands end 1 _ row) (λ mode _ k.
    by_bool _ _ _ (nat_le 1048576 (length end.sent)) k (λ _. rests_hands end 1 _ row) (λ _ l.
    by_bool _ _ _ (are_too_large loads) l (λ _. rests_hands end 1 _ row) (λ _ t.
    subst (HandsIn end 1) (sym t.2) (omega (arith, length-append end.sent (unsent t.0 ∷ []))))))

pub submit_hands : (modes : List Mode) (end : End) (event : Event) (outcome : Outcome) (name : List ℕ) (conversation : Option (List ℕ))
    (loads : List Load) → Step modes end event outcome → event.what ≡ what.Submit name conversation loads → HandsIn end 1 outcome
submit_hands modes end event outcome name conversation loads step is =
    limited_hands end 1 step.row outcome step.limited
    (submits_hand modes end event name conversation loads step.row (row_at modes end event outcome (what.Submit name conversation loads) step is))

-- what is taken

-- a message was pushed, so fewer are to be, or none was
pub data TakeResult (end : End) (outcome : Outcome) : Type 0 where
  Is_pushed : Pushes end → length (sends outcome.reply) ≡ 1 → to_push (applied outcome.effects end) + 1 ≤ to_push end → TakeResult end outcome
  None_pushed : PushesNone end → sends outcome.reply ≡ [] → TakeResult end outcome

-- the head of what is pushed may go
head_may_be_pushed : (end : End) (s : Sent) → head_of queue.Push end ≡ Some s → Has end.sent s × (may_be_pushed end.moment s ≡ true)
unfolding head_of
head_may_be_pushed end s head = has_filtered (may_be_pushed end.moment) end.sent s (first_least_has due (filter (may_be_pushed end.moment) end.sent) s head)

same_number : (n : ℕ) → (n == n) ≡ true
same_number n = grind (arith, nat_tests)

head_pushed : (end : End) (s : Sent) → head_of queue.Push end ≡ Some s
    → to_push (applied (effect.Tried s.submission.number ∷ []) end) + 1 ≤ to_push end
unfolding applied after changed one_changed
head_pushed end s head =
    let there = head_may_be_pushed end s head in
    let none : may_be_pushed end.moment (one_changed s.submission.number (tried end.moment) s) ≡ false =
    ap (λ (b : Bool). may_be_pushed end.moment (if b then tried end.moment s else s)) (same_number s.submission.number) ∙ quiet_tried end.moment s in
    count_less (may_be_pushed end.moment) (one_changed s.submission.number (tried end.moment)) end.sent s
    (keeps_changed end.moment s.submission.number (tried end.moment) (quiet_tried end.moment)) there.0 there.1 none

none_pushed : (end : End) (row outcome : Outcome) → head_of queue.Push end ≡ None → Takes end row → IsLimited end row outcome → TakeResult end outcome
unfolding Takes has_room
none_pushed end row outcome none h limited =
    let rests : row ≡ record { effects = []; reply = reply.Nothing } = rw none at h in
    let here : IsLimited end (record { effects = []; reply = reply.Nothing }) outcome = subst (λ (o : Outcome). IsLimited end o outcome) rests limited in
    None_pushed (inl none) (ap (λ (o : Outcome). sends o.reply) here)

some_pushed : (end : End) (row outcome : Outcome) (s : Sent) → head_of queue.Push end ≡ Some s → Takes end row → IsLimited end row outcome
    → TakeResult end outcome
unfolding Takes
some_pushed end row outcome s head h limited =
    let gives : row ≡ record { effects = effect.Tried s.submission.number ∷ []; reply = reply.Push (address_of s.submission.route) (message_of s.submission) } = rw head at h in
    by_room (has_room end (effect.Tried s.submission.number ∷ [])) refl (subst (λ (o : Outcome). IsLimited end o outcome) gives limited)
  where
    by_room : (b : Bool) → has_room end (effect.Tried s.submission.number ∷ []) ≡ b
        → IsLimited end (record { effects = effect.Tried s.submission.number ∷ []; reply = reply.Push (address_of s.submission.route) (message_of s.submission) }) outcome
        → TakeResult end outcome
    by_room true room here =
        let same : outcome ≡ record { effects = effect.Tried s.submission.number ∷ []; reply = reply.Push (address_of s.submission.route) (message_of s.submission) } = rw room at here in
        Is_pushed (s, head, room) (ap (λ (o : Outcome). length (sends o.reply)) same)
        (subst (λ (o : Outcome). to_push (applied o.effects end) + 1 ≤ to_push end) (sym same) (head_pushed end s head))
    by_room false room here =
        let full : outcome ≡ record { effects = []; reply = reply.Full end.size (record_len (effect.Tried s.submission.number ∷ [])) } = rw room at here in
        None_pushed (inr (s, head, room)) (ap (λ (o : Outcome). sends o.reply) full)

takes_result : (end : End) (row outcome : Outcome) (head : Option Sent) → head_of queue.Push end ≡ head → Takes end row → IsLimited end row outcome
    → TakeResult end outcome
takes_result end row outcome None is h limited = none_pushed end row outcome is h limited
takes_result end row outcome (Some s) is h limited = some_pushed end row outcome s is h limited

pub take_result : (modes : List Mode) (end : End) (event : Event) (outcome : Outcome) → Step modes end event outcome → event.what ≡ what.Take
    → TakeResult end outcome
take_result modes end event outcome step is =
    takes_result end step.row outcome (head_of queue.Push end) refl (row_at modes end event outcome what.Take step is) step.limited

-- and nothing is handed in
takes_calm : (end : End) (row : Outcome) → Takes end row → AllCalm row.effects
unfolding Takes
takes_calm end row h =
    by_option _ _ _ (head_of queue.Push end) h (λ rests. calm_by row [] _ rests tt)
    (λ s _ g. calm_by row (effect.Tried s.submission.number ∷ []) _ g (tt, tt))

pub take_calm : (modes : List Mode) (end : End) (event : Event) (outcome : Outcome) → Step modes end event outcome → event.what ≡ what.Take
    → IsCalm end (applied outcome.effects end)
take_calm modes end event outcome step is =
    calm_applied outcome.effects end
    (limited_calm end step.row outcome step.limited (takes_calm end step.row (row_at modes end event outcome what.Take step is)))
