-- The events that make records: for each kind of record, the event that is asked for gives its effects.
use Rattle.std.proofs.Common.{◌≡◌, ℕ, suc, ◌⊎◌, inl, inr, List, [], ◌∷◌, Bool, true, false, Option, Some, None, option_map, length, refl, ap, sym, subst, ◌∙◌, arith}
use Rattle.std.specs.Prelude.{◌&&◌, IsSome, if◌then◌else◌, nat_le, nat_lt, not}
use Rattle.std.specs.List.{count_by, filter}
use Rattle.std.specs.Option.{option_and_then}
use Rattle.std.proofs.lemmas.Bool.{and_parts}
use Rattle.std.proofs.lemmas.Bool.Decides.{nat_tests}
use Rattle.std.proofs.lemmas.Option.{same_Some}
use Rattle.std.proofs.lemmas.Slice.Eq.{bytes_eq-Decides}
use Rattle.as4_audit.specs.Made.{AreOfEvent, IsChannelHead, IsHead, IsMade, Makes}
use Rattle.as4_codes.specs.Signals.{IsReceiptOf}
use Rattle.as4_effects.specs.declared.delivery.Delivery.{Delivery}
use Rattle.as4_effects.specs.declared.effect.Effect.{Effect}
use Rattle.as4_effects.specs.declared.effect.Effect.TheVariants as effect
use Rattle.as4_effects.specs.declared.effect.Tick.{Tick}
use Rattle.as4_effects.specs.declared.queue.Queue.{Queue}
use Rattle.as4_effects.specs.declared.queue.Queue.TheVariants as queue
use Rattle.as4_effects.specs.declared.submission.Submission.{Submission}
use Rattle.as4_values.specs.declared.message.Message.TheVariants as message
use Rattle.as4_values.specs.declared.message.Pair.{Pair}
use Rattle.as4_values.specs.declared.route.Route.{Route}
use Rattle.as4_values.specs.declared.route.Route.TheVariants as route
use Rattle.as4_values.specs.declared.signal.Signal.{Signal}
use Rattle.as4_values.specs.declared.signal_body.SignalBody.{SignalBody}
use Rattle.as4_values.specs.declared.signal_body.SignalBody.TheVariants as body
use Rattle.mode_values.specs.ModeMatch.{channel_mode, mode_of}
use Rattle.mode_values.specs.declared.mode.Mode.{Mode}
use Rattle.exchange_laws.proofs.SentLemmas.{sent_of_own}
use Rattle.exchange_model.proofs.FoundLemmas.{sent_at_has}
use Rattle.exchange_model.proofs.ListLemmas.{has_filtered, first_least_has}
use Rattle.exchange_model.specs.Apply.{after, first_unfit, is_fit, is_one}
use Rattle.exchange_model.specs.Coming.{is_deliverable, may_come}
use Rattle.exchange_model.specs.End.{End}
use Rattle.exchange_model.specs.Numbered.{AreNumberedFrom}
use Rattle.exchange_model.specs.Questions.{due, head_of, is_in, is_known, is_pending, is_ready, is_same_queue, is_spent, is_waiting, queue_of, sent_at, sent_of}
use Rattle.exchange_model.specs.Submitting.{address_of}
use Rattle.exchange_model.specs.Table.{Confirms, Delivers, PullComes, RowOf, SignalComes, Takes, Ticks, UserComes, has_room, message_of}
use Rattle.exchange_model.specs.declared.event.Event.{Event}
use Rattle.exchange_model.specs.declared.outcome.Outcome.{Outcome}
use Rattle.exchange_model.specs.declared.reply.Reply.TheVariants as reply
use Rattle.exchange_model.specs.declared.sent.Sent.{Sent}
use Rattle.exchange_model.specs.declared.what.What.{What}
use Rattle.exchange_model.specs.declared.what.What.TheVariants as what
use Rattle.fold_laws.specs.Reached.{IsReached}
use Rattle.fold_laws.proofs.Sound.{reached_sound}
use Rattle.msh_state.proofs.HeadLemmas.{behind_found}
use Rattle.msh_state.proofs.NumberLemmas.{head_found}
use Rattle.msh_transitions.specs.Bundled.{IsBehind}
use Rattle.msh_transitions.specs.Naming.{IsFor}
use Rattle.msh_transitions.proofs.BundledLemmas.{behind_pair}
use Rattle.msh_transitions.proofs.ComingRows.{settled_comes}
use Rattle.outcome_laws.proofs.Signals.{some_receipt}

-- by the row of the event
pub makes_by : (modes : List Mode) (end : End) (event : Event) (w : What) (effects : List Effect) (outcome : Outcome)
    → event.what ≡ w → outcome.effects ≡ effects → has_room end effects ≡ true → RowOf modes end event w outcome
    → Makes modes end event effects
makes_by modes end event w effects outcome asked is room row = (
  outcome,
  record {
    row = outcome;
    decided = subst (λ (v : What). RowOf modes end event v outcome) (sym asked) row;
    limited = rw (is, room) refl;
  },
  is,
)

fit_by : (b : Bool) (more : Option ℕ) → (if b then option_map suc more else Some 0) ≡ None → b ≡ true
fit_by true more e = refl
fit_by false more e = absurd cc

-- the first effect of a made record fits
pub first_fits : (e : Effect) (effects : List Effect) (end : End) → first_unfit (e ∷ effects) end ≡ None → is_fit e end ≡ true
first_fits e effects end fit = fit_by (is_fit e end) (first_unfit effects (after e end)) fit

not_late : (moment stamp at : ℕ) → nat_lt moment at ≡ true → stamp ≡ at → nat_le stamp moment ≡ false
not_late moment stamp at late same = grind (arith, nat_tests)

-- Tick
pub tick_makes : (modes : List Mode) (end : End) (tick : Tick) (event : Event) → event.what ≡ what.Tick → event.stamp ≡ tick.moment
    → IsMade modes end (effect.Ticked tick ∷ []) → Makes modes end event (effect.Ticked tick ∷ [])
unfolding Ticks is_fit
tick_makes modes end tick event asked stamp made =
    let late : nat_lt end.moment tick.moment ≡ true = first_fits (effect.Ticked tick) [] end made.fits.fit in
    makes_by modes end event what.Tick (effect.Ticked tick ∷ []) (record { effects = effect.Ticked tick ∷ []; reply = reply.Ticked (count_by (is_spent event.stamp) end.sent) }) asked refl made.fits.room
    (rw (not_late end.moment event.stamp tick.moment late stamp) (tick, sym stamp, refl))

not_below : (n upto : ℕ) → nat_le n upto ≡ true → nat_lt upto n ≡ false
not_below n upto e = grind (arith, nat_tests)

not_past : (n upto : ℕ) → nat_lt upto n ≡ true → nat_le n upto ≡ false
not_past n upto e = grind (arith, nat_tests)

-- Confirm
pub confirm_makes : (modes : List Mode) (end : End) (upto : ℕ) (event : Event) → event.what ≡ what.Confirm upto
    → IsMade modes end (effect.Confirmed upto ∷ []) → Makes modes end event (effect.Confirmed upto ∷ [])
unfolding Confirms is_fit
confirm_makes modes end upto event asked made =
    let fits : (nat_le end.confirmed upto && nat_lt upto (length end.inbox)) ≡ true = first_fits (effect.Confirmed upto) [] end made.fits.fit in
    let parts = and_parts (nat_le end.confirmed upto) (nat_lt upto (length end.inbox)) fits in
    makes_by modes end event (what.Confirm upto) (effect.Confirmed upto ∷ [])
    (record { effects = effect.Confirmed upto ∷ []; reply = reply.Confirmed upto }) asked refl made.fits.room
    (rw (not_below end.confirmed upto parts.0, not_past (length end.inbox) upto parts.1) refl)

not_not : (b : Bool) → not b ≡ true → b ≡ false
not_not true e = absurd cc
not_not false e = refl

-- Came, user message
pub delivery_makes : (modes : List Mode) (end : End) (d : Delivery) (event : Event) → event.what ≡ what.Came (message.User d.header d.payloads)
    → IsMade modes end (effect.Delivered d ∷ []) → Makes modes end event (effect.Delivered d ∷ [])
unfolding AreOfEvent UserComes is_fit
delivery_makes modes end d event asked made =
    let new : is_known d.header.id end.inbox ≡ false = not_not (is_known d.header.id end.inbox) (first_fits (effect.Delivered d) [] end made.fits.fit) in
    let signal = some_receipt d.header event.stamp event.nonce event.dated in
    let outcome : Outcome = record { effects = effect.Delivered d ∷ []; reply = reply.Answer (message.Signal signal.0) } in
    let delivers : Delivers event d.header d.payloads outcome = (d, refl, refl, (signal.0, signal.1, refl)) in
    makes_by modes end event (what.Came (message.User d.header d.payloads)) (effect.Delivered d ∷ []) outcome asked refl made.fits.room
    (by_mode outcome new delivers (mode_of modes d.header) refl made.kind)
  where
    by_mode : (outcome : Outcome) → is_known d.header.id end.inbox ≡ false → Delivers event d.header d.payloads outcome
        → (o : Option Mode) → mode_of modes d.header ≡ o → IsSome o → UserComes modes end event d.header d.payloads outcome
    by_mode outcome new delivers None e some = absurd cc
    by_mode outcome new delivers (Some mode) e some = rw (e, new) delivers

-- the head of a queue is in it
head_in : (q : Queue) (end : End) (s : Sent) → head_of q end ≡ Some s → is_in q s ≡ true
unfolding head_of
head_in q end s e =
    let ready : Sent → Bool = λ t. is_ready end.moment t && is_in q t in
    (and_parts _ _ (has_filtered ready end.sent s (first_least_has due (filter ready end.sent) s e)).1).1

-- the submission of a number is the head
record IsHeadOf (q : Queue) (end : End) (number : ℕ) (submission : Submission) : Type 0 where
  one : Sent
  head : head_of q end ≡ Some one
  numbered : one.submission.number ≡ number
  is : one.submission ≡ submission
  inside : is_same_queue (queue_of submission.route) q ≡ true

head_is : (q : Queue) (end : End) (number : ℕ) (submission : Submission) (o : Option Sent) → head_of q end ≡ o
    → option_map (λ (s : Sent). s.submission.number) o ≡ Some number
    → Some submission ≡ option_map (λ (s : Sent). s.submission) o → IsHeadOf q end number submission
head_is q end number submission None e numbered is = absurd cc
head_is q end number submission (Some s) e numbered is =
    let same : s.submission ≡ submission = sym (same_Some submission s.submission is) in
    record {
      one = s;
      head = e;
      numbered = same_Some s.submission.number number numbered;
      is = same;
      inside = subst (λ (u : Submission). is_same_queue (queue_of u.route) q ≡ true) same (head_in q end s e);
    }

head_found_is : (q : Queue) (end : End) (number : ℕ) (submission : Submission) → AreNumberedFrom 0 end.sent
    → Some submission ≡ option_map (λ (s : Sent). s.submission) (sent_at number end.sent) → IsHead q end number → IsHeadOf q end number submission
head_found_is q end number submission numbered found head =
    head_is q end number submission (head_of q end) refl head
    (found ∙ ap (option_map (λ (s : Sent). s.submission)) (head_found q end (Some number) numbered (sym head)))

push_only : (submission : Submission) (address : List ℕ) (mpc : List ℕ) → submission.route ≡ route.Push address
    → is_same_queue (queue_of submission.route) (queue.Channel mpc) ≡ true → ⊥
unfolding is_same_queue
push_only submission address mpc by e =
    let no : false ≡ true = subst (λ (r : Route). is_same_queue (queue_of r) (queue.Channel mpc) ≡ true) by e in cc

pull_only : (submission : Submission) (mpc address : List ℕ) → submission.route ≡ route.Pull mpc address
    → is_same_queue (queue_of submission.route) queue.Push ≡ true → ⊥
unfolding is_same_queue
pull_only submission mpc address by e =
    let no : false ≡ true = subst (λ (r : Route). is_same_queue (queue_of r) queue.Push ≡ true) by e in cc

one_channel : (submission : Submission) (mpc address other : List ℕ) → submission.route ≡ route.Pull mpc address
    → is_same_queue (queue_of submission.route) (queue.Channel other) ≡ true → other ≡ mpc
unfolding is_same_queue
one_channel submission mpc address other by e =
    sym ((bytes_eq-Decides mpc other).0 (subst (λ (r : Route). is_same_queue (queue_of r) (queue.Channel other) ≡ true) by e))

-- Take
pub take_makes : (modes : List Mode) (end : End) (number : ℕ) (submission : Submission) (address : List ℕ) (event : Event)
    → AreNumberedFrom 0 end.sent → Some submission ≡ option_map (λ (s : Sent). s.submission) (sent_at number end.sent)
    → submission.route ≡ route.Push address → event.what ≡ what.Take
    → IsMade modes end (effect.Tried number ∷ []) → Makes modes end event (effect.Tried number ∷ [])
unfolding AreOfEvent Takes
take_makes modes end number submission address event numbered found by asked made = by_kind made.kind
  where
    taken : IsHeadOf queue.Push end number submission → Makes modes end event (effect.Tried number ∷ [])
    taken h =
        makes_by modes end event what.Take (effect.Tried number ∷ [])
        (record { effects = effect.Tried h.one.submission.number ∷ []; reply = reply.Push (address_of h.one.submission.route) (message_of h.one.submission) })
        asked (ap (λ n. effect.Tried n ∷ []) h.numbered) made.fits.room (rw h.head refl)

    by_kind : IsHead queue.Push end number ⊎ IsChannelHead modes end number → Makes modes end event (effect.Tried number ∷ [])
    by_kind (inl head) = taken (head_found_is queue.Push end number submission numbered found head)
    by_kind (inr channel) =
        absurd (push_only submission address channel.0 by (head_found_is (queue.Channel channel.0) end number submission numbered found channel.2).inside)

-- Came, pull request
pub pull_makes : (modes : List Mode) (end : End) (number : ℕ) (submission : Submission) (mpc address : List ℕ) (signal : Signal) (event : Event)
    → AreNumberedFrom 0 end.sent → Some submission ≡ option_map (λ (s : Sent). s.submission) (sent_at number end.sent)
    → submission.route ≡ route.Pull mpc address → signal.body ≡ body.Pull mpc → event.what ≡ what.Came (message.Signal signal)
    → IsMade modes end (effect.Tried number ∷ []) → Makes modes end event (effect.Tried number ∷ [])
unfolding AreOfEvent PullComes
pull_makes modes end number submission mpc address signal event numbered found by asks asked made = by_kind made.kind
  where
    row : (outcome : Outcome) (s : Sent) → head_of (queue.Channel mpc) end ≡ Some s
        → outcome ≡ record { effects = effect.Tried s.submission.number ∷ []; reply = reply.Answer (message_of s.submission) }
        → (o : Option Mode) → channel_mode modes mpc ≡ o → IsSome o → PullComes modes end event signal.id mpc outcome
    row outcome s head is None e some = absurd cc
    row outcome s head is (Some mode) e some = rw (e, head) is

    pulled : IsSome (channel_mode modes mpc) → IsHeadOf (queue.Channel mpc) end number submission → Makes modes end event (effect.Tried number ∷ [])
    pulled named h =
        let outcome : Outcome = record { effects = effect.Tried h.one.submission.number ∷ []; reply = reply.Answer (message_of h.one.submission) } in
        makes_by modes end event (what.Came (message.Signal signal)) (effect.Tried number ∷ []) outcome
        asked (ap (λ n. effect.Tried n ∷ []) h.numbered) made.fits.room
        (subst (λ (b : SignalBody). SignalComes modes end event signal.id signal.ref_to b outcome) (sym asks)
        (row outcome h.one h.head refl (channel_mode modes mpc) refl named))

    by_kind : IsHead queue.Push end number ⊎ IsChannelHead modes end number → Makes modes end event (effect.Tried number ∷ [])
    by_kind (inl head) =
        absurd (pull_only submission mpc address by (head_found_is queue.Push end number submission numbered found head).inside)
    by_kind (inr channel) =
        let h = head_found_is (queue.Channel channel.0) end number submission numbered found channel.2 in
        let same : channel.0 ≡ mpc = one_channel submission mpc address channel.0 by h.inside in
        pulled (subst (λ c. IsSome (channel_mode modes c)) same channel.1)
        (subst (λ c. IsHeadOf (queue.Channel c) end number submission) same h)

-- a pending submission
record IsPendingAt (end : End) (number : ℕ) (submission : Submission) : Type 0 where
  one : Sent
  names : sent_of submission.header.id end.sent ≡ Some one
  pending : is_pending one ≡ true
  numbered : one.submission.number ≡ number
  is : one.submission ≡ submission

pending_is : (end : End) (number : ℕ) (submission : Submission) (o : Option Sent) → AreNumberedFrom 0 end.sent → sent_at number end.sent ≡ o
    → Some submission ≡ option_map (λ (s : Sent). s.submission) o → is_one is_pending o ≡ true → IsPendingAt end number submission
pending_is end number submission None numbered e is fit = absurd cc
pending_is end number submission (Some s) numbered e is fit =
    let same : s.submission ≡ submission = sym (same_Some submission s.submission is) in
    let has = sent_at_has number end.sent s e in
    record {
      one = s;
      names = subst (λ (u : Submission). sent_of u.header.id end.sent ≡ Some s) same (sent_of_own end.sent s numbered has.0);
      pending = fit;
      numbered = has.1;
      is = same;
    }

pub none_pending : (end : End) (number : ℕ) (o : Option Sent) → None ≡ option_map (λ (s : Sent). s.submission) o → is_one is_pending o ≡ true → ⊥
none_pending end number None is fit = cc
none_pending end number (Some s) is fit = cc

receipted_at : (end : End) (number : ℕ) (submission : Submission) (effects : List Effect) → AreNumberedFrom 0 end.sent
    → Some submission ≡ option_map (λ (s : Sent). s.submission) (sent_at number end.sent)
    → first_unfit (effect.Receipted number ∷ effects) end ≡ None → IsPendingAt end number submission
unfolding is_fit
receipted_at end number submission effects numbered found fit =
    pending_is end number submission (sent_at number end.sent) numbered refl found (first_fits (effect.Receipted number) effects end fit)

-- the receipt is for the submission
is_for : (end : End) (number : ℕ) (submission : Submission) (signal : Signal) (ms nonce : ℕ) → IsReceiptOf submission.header ms nonce signal
    → (p : IsPendingAt end number submission) → IsFor signal.ref_to (Some submission.header) end.sent p.one
is_for end number submission signal ms nonce is p = record {
  names = subst (λ r. option_and_then (λ ref. sent_of ref end.sent) r ≡ Some p.one) (sym is.refers) p.names;
  own = λ other. other (ap (λ (u : Submission). u.header) (sym p.is));
}

-- Came, receipt
pub receipt_makes : (modes : List Mode) (end : End) (number : ℕ) (submission : Submission) (signal : Signal) (ms nonce : ℕ) (event : Event)
    → AreNumberedFrom 0 end.sent → Some submission ≡ option_map (λ (s : Sent). s.submission) (sent_at number end.sent)
    → IsReceiptOf submission.header ms nonce signal → event.what ≡ what.Came (message.Signal signal)
    → IsMade modes end (effect.Receipted number ∷ []) → Makes modes end event (effect.Receipted number ∷ [])
receipt_makes modes end number submission signal ms nonce event numbered found is asked made =
    let p = receipted_at end number submission [] numbered found made.fits.fit in
    let outcome : Outcome = record { effects = effect.Receipted p.one.submission.number ∷ []; reply = reply.Quiet } in
    makes_by modes end event (what.Came (message.Signal signal)) (effect.Receipted number ∷ []) outcome
    asked (ap (λ n. effect.Receipted n ∷ []) p.numbered) made.fits.room
    (subst (λ (b : SignalBody). SignalComes modes end event signal.id signal.ref_to b outcome) (sym is.copies)
    (settled_comes end event signal.id signal.ref_to (Some submission.header) p.one outcome (is_for end number submission signal ms nonce is p)
    (rw p.pending refl)))

-- Came, pair
pub pair_makes : (modes : List Mode) (end : End) (number head : ℕ) (submission next : Submission) (mpc address : List ℕ) (pair : Pair)
    (ms nonce : ℕ) (event : Event) → AreNumberedFrom 0 end.sent
    → Some submission ≡ option_map (λ (s : Sent). s.submission) (sent_at number end.sent)
    → Some next ≡ option_map (λ (s : Sent). s.submission) (sent_at head end.sent) → next.route ≡ route.Pull mpc address
    → IsReceiptOf submission.header ms nonce pair.receipt → pair.pull.body ≡ body.Pull mpc → event.what ≡ what.Came (message.Pair pair)
    → IsMade modes end (effect.Receipted number ∷ effect.Tried head ∷ []) → Makes modes end event (effect.Receipted number ∷ effect.Tried head ∷ [])
unfolding AreOfEvent
pair_makes modes end number head submission next mpc address pair ms nonce event numbered found found_next by is asks asked made =
    pulled (behind_is made.kind.0 made.kind.2) made.kind.1
  where
    mid : End
    mid = after (effect.Receipted number) end

    behind_is : (channel : List ℕ) → IsHead (queue.Channel channel) mid head → IsHeadOf (queue.Channel channel) mid head next
    behind_is channel h =
        head_is (queue.Channel channel) mid head next (head_of (queue.Channel channel) mid) refl h
        (found_next ∙ behind_found (queue.Channel channel) number end (Some head) numbered (sym h))

    served : IsSome (channel_mode modes mpc) → IsHeadOf (queue.Channel mpc) mid head next → IsPendingAt end number submission
        → Makes modes end event (effect.Receipted number ∷ effect.Tried head ∷ [])
    served named h p =
        let outcome : Outcome = record {
          effects = effect.Receipted p.one.submission.number ∷ effect.Tried h.one.submission.number ∷ [];
          reply = reply.Answer (message_of h.one.submission);
        } in
        makes_by modes end event (what.Came (message.Pair pair)) (effect.Receipted number ∷ effect.Tried head ∷ []) outcome
        asked (rw (p.numbered, h.numbered) refl) made.fits.room
        (behind_pair modes end event pair.receipt pair.pull (Some submission.header) mpc p.one outcome is.copies asks
        (is_for end number submission pair.receipt ms nonce is p) named p.pending
        (subst (λ n. IsBehind end event pair.pull.id mpc n outcome) (sym p.numbered) (rw (h.head, p.numbered) refl)))

    pulled : IsHeadOf (queue.Channel made.kind.0) mid head next → IsSome (channel_mode modes made.kind.0)
        → Makes modes end event (effect.Receipted number ∷ effect.Tried head ∷ [])
    pulled h named =
        let same : made.kind.0 ≡ mpc = one_channel next mpc address made.kind.0 by h.inside in
        served (subst (λ c. IsSome (channel_mode modes c)) same named) (subst (λ c. IsHeadOf (queue.Channel c) mid head next) same h)
        (receipted_at end number submission (effect.Tried head ∷ []) numbered found made.fits.fit)

-- a delivery is deliverable
pub deliverable : (d : Delivery) → may_come (what.Came (message.User d.header d.payloads)) ≡ true
unfolding may_come is_deliverable
deliverable d = rw (d.paired, d.fits) refl

-- at a reached endpoint each submission is at the place of its number
pub numbered_of : (end : End) → IsReached end → AreNumberedFrom 0 end.sent
numbered_of end reached = (reached_sound end reached).sent.numbered

-- no submission of this number
pub no_try : (modes : List Mode) (end : End) (number : ℕ) → None ≡ option_map (λ (s : Sent). s.submission) (sent_at number end.sent)
    → IsMade modes end (effect.Tried number ∷ []) → ⊥
unfolding is_fit
no_try modes end number none made = missing (sent_at number end.sent) none (first_fits (effect.Tried number) [] end made.fits.fit)
  where
    missing : (o : Option Sent) → None ≡ option_map (λ (s : Sent). s.submission) o → is_one is_waiting o ≡ true → ⊥
    missing None e fit = cc
    missing (Some s) e fit = cc

pub no_receipt : (modes : List Mode) (end : End) (number : ℕ) (effects : List Effect)
    → None ≡ option_map (λ (s : Sent). s.submission) (sent_at number end.sent)
    → IsMade modes end (effect.Receipted number ∷ effects) → ⊥
unfolding is_fit
no_receipt modes end number effects none made =
    none_pending end number (sent_at number end.sent) none (first_fits (effect.Receipted number) effects end made.fits.fit)

-- no submission with the number of the channel's head
pub no_next : (modes : List Mode) (end : End) (number head : ℕ) → AreNumberedFrom 0 end.sent
    → None ≡ option_map (λ (s : Sent). s.submission) (sent_at head end.sent)
    → IsMade modes end (effect.Receipted number ∷ effect.Tried head ∷ []) → ⊥
unfolding AreOfEvent
no_next modes end number head numbered none made =
    missing (head_of (queue.Channel made.kind.0) mid) made.kind.2
    (none ∙ behind_found (queue.Channel made.kind.0) number end (Some head) numbered (sym made.kind.2))
  where
    mid : End
    mid = after (effect.Receipted number) end

    missing : (o : Option Sent) → option_map (λ (s : Sent). s.submission.number) o ≡ Some head
        → None ≡ option_map (λ (s : Sent). s.submission) o → ⊥
    missing None e none = cc
    missing (Some s) e none = cc

-- it is in no channel
pub no_channel : (modes : List Mode) (end : End) (number head : ℕ) (next : Submission) (address : List ℕ) → AreNumberedFrom 0 end.sent
    → Some next ≡ option_map (λ (s : Sent). s.submission) (sent_at head end.sent) → next.route ≡ route.Push address
    → IsMade modes end (effect.Receipted number ∷ effect.Tried head ∷ []) → ⊥
unfolding AreOfEvent
no_channel modes end number head next address numbered found by made =
    push_only next address made.kind.0 by
    (head_is (queue.Channel made.kind.0) (after (effect.Receipted number) end) head next
    (head_of (queue.Channel made.kind.0) (after (effect.Receipted number) end)) refl made.kind.2
    (found ∙ behind_found (queue.Channel made.kind.0) number end (Some head) numbered (sym made.kind.2))).inside
