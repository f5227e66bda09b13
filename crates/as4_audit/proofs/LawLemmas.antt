-- What a step of the table gives is of one event: row by row.
use Rattle.std.proofs.Common.{◌≡◌, ℕ, suc, ◌≤◌, ◌⊎◌, inl, inr, List, [], ◌∷◌, true, false, Option, Some, None, option_map, length, map, refl, ap, sym, subst, ◌∙◌, arith}
use Rattle.std.specs.Prelude.{IsSome, IsTrue, nat_le, nat_lt}
use Rattle.std.specs.List.{filter_map}
use Rattle.std.specs.Option.{option_and_then}
use Rattle.std.specs.Str.{bytes_eq}
use Rattle.std.proofs.lemmas.Bool.{leb-true}
use Rattle.std.proofs.lemmas.Slice.Eq.{bytes_eq-Decides}
use Rattle.as4_audit.specs.Made.{AreOfEvent, AreRefusals, IsChannelHead, IsMade, IsSubmitted, loads_of}
use Rattle.as4_audit.proofs.LoadLemmas.{identified, loads_back}
use Rattle.as4_effects.specs.Sound.{nonce_in}
use Rattle.as4_effects.specs.declared.effect.Effect.{Effect}
use Rattle.as4_effects.specs.declared.effect.Effect.TheVariants as effect
use Rattle.as4_effects.specs.declared.queue.Queue.TheVariants as queue
use Rattle.as4_effects.specs.declared.submission.Submission.{Submission}
use Rattle.mode_values.specs.ModeMatch.{channel_mode, mode_named, mode_of}
use Rattle.as4_values.specs.Identifiers.{submission_id}
use Rattle.as4_values.specs.SignalParts.{is_signal}
use Rattle.as4_values.specs.declared.header.UserHeader.{UserHeader}
use Rattle.as4_values.specs.declared.message.Message.{Message}
use Rattle.as4_values.specs.declared.message.Message.TheVariants as message
use Rattle.as4_values.specs.declared.message.Pair.{Pair}
use Rattle.as4_values.specs.declared.payload.Load.{Load}
use Rattle.as4_values.specs.declared.payload.Payload.{Payload}
use Rattle.as4_values.specs.declared.route.Route.{Route}
use Rattle.as4_values.specs.declared.route.Route.TheVariants as route
use Rattle.as4_values.specs.declared.signal_body.SignalBody.{SignalBody}
use Rattle.as4_values.specs.declared.signal_body.SignalBody.TheVariants as body
use Rattle.mode_values.specs.declared.mode.Mode.{Mode}
use Rattle.exchange_laws.proofs.EndSteps.{by_bool, by_option}
use Rattle.exchange_laws.proofs.PairRows.{IsAlone, IsBehind, IsRefused, IsServed, pair_cases}
use Rattle.exchange_laws.proofs.SentLemmas.{and_right}
use Rattle.exchange_model.proofs.ListLemmas.{has_found}
use Rattle.exchange_model.specs.Apply.{after}
use Rattle.exchange_model.specs.End.{End}
use Rattle.exchange_model.specs.Numbered.{AreNumberedFrom}
use Rattle.exchange_model.specs.Questions.{head_of, is_known, is_pending, sent_of}
use Rattle.exchange_model.specs.Refusing.{Rejection, once, refusal_of, refusals_of}
use Rattle.exchange_model.specs.Submitting.{IsHeaderOf, ArePayloadsOf, IsSubmissionOf, are_too_large}
use Rattle.exchange_model.specs.Table.{Asks, AsksBy, AsksWith, AsksWithBy, AsksWithEntry, Comes, Confirms, Errs, Gives, PairComes, PullComes, ReceiptComes, Rests, RowOf, Settles, SignalComes, Step, Submits, TakesIn, Takes, Ticks, UserComes, has_room}
use Rattle.exchange_model.specs.declared.event.Event.{Event}
use Rattle.exchange_model.specs.declared.inbox_entry.InboxEntry.{InboxEntry}
use Rattle.exchange_model.specs.declared.outcome.Outcome.{Outcome}
use Rattle.exchange_model.specs.declared.reply.Reply.{Reply}
use Rattle.exchange_model.specs.declared.sent.Sent.{Sent}
use Rattle.exchange_model.specs.declared.what.What.{What}
use Rattle.exchange_model.specs.declared.what.What.TheVariants as what
use Rattle.fold_laws.specs.Reached.{IsReached}
use Rattle.fold_laws.proofs.Sound.{reached_sound}
use Rattle.msh_transitions.proofs.FitLemmas.{all_stand}
use Rattle.step_laws.proofs.StepLemmas.{step_fits}

-- there are no effects, or they are of one event
abbrev pub Kind : List Mode → End → Outcome → Type 0
Kind modes end outcome = (outcome.effects ≡ []) ⊎ AreOfEvent modes end outcome.effects

effects_kind : (modes : List Mode) (end : End) (effects : List Effect) (outcome : Outcome) → outcome.effects ≡ effects
    → AreOfEvent modes end effects → Kind modes end outcome
effects_kind modes end effects outcome is kind = inr (subst (AreOfEvent modes end) (sym is) kind)

rests_kind : (modes : List Mode) (end : End) (r : Reply) (outcome : Outcome) → Rests r outcome → Kind modes end outcome
rests_kind modes end r outcome rests = inl (ap (λ (o : Outcome). o.effects) rests)

gives_kind : (modes : List Mode) (end : End) (e : Effect) (r : Reply) (outcome : Outcome) → Gives e r outcome → AreOfEvent modes end (e ∷ [])
    → Kind modes end outcome
gives_kind modes end e r outcome gives kind = effects_kind modes end (e ∷ []) outcome (ap (λ (o : Outcome). o.effects) gives) kind

errs_kind : (modes : List Mode) (end : End) (code : ℕ) (about : List ℕ) (event : Event) (outcome : Outcome) → Errs code about event outcome
    → Kind modes end outcome
errs_kind modes end code about event outcome errs = rests_kind modes end _ outcome errs.2

-- a mode that a name finds is found by its own name
named_own : (modes : List Mode) (name : List ℕ) (mode : Mode) → mode_named modes name ≡ Some mode → mode_named modes mode.name ≡ Some mode
unfolding mode_named
named_own modes name mode e =
    let same : mode.name ≡ name = (bytes_eq-Decides mode.name name).0 (has_found (λ (m : Mode). bytes_eq m.name name) modes mode e).1 in
    ap (mode_named modes) same ∙ e

-- a submission that is made of loads is made of its own payloads as loads
own_loads : (mode : Mode) (number now ms nonce : ℕ) (conversation : Option (List ℕ)) (loads : List Load) (s : Submission)
    → IsSubmissionOf mode number now ms nonce conversation loads s
    → IsSubmissionOf mode number now ms (nonce_in s.number s.header.id) s.header.conversation (loads_of s.payloads) s
own_loads mode number now ms nonce conversation loads s is =
    let back : loads_of s.payloads ≡ loads = loads_back s.payloads loads is.loaded.medias is.loaded.contents in
    let own : submission_id number nonce ≡ submission_id number (nonce_in s.number s.header.id) =
    sym is.headed.named ∙ identified s ∙ ap (λ n. submission_id n (nonce_in s.number s.header.id)) is.numbered in
    let headed : IsHeaderOf mode (submission_id number (nonce_in s.number s.header.id)) ms s.header.conversation (length loads) s.header =
    subst (λ c. IsHeaderOf mode (submission_id number (nonce_in s.number s.header.id)) ms c (length loads) s.header) (sym is.headed.talks)
    (subst (λ id. IsHeaderOf mode id ms conversation (length loads) s.header) own is.headed) in
    record {
      numbered = is.numbered;
      headed = subst (λ (ls : List Load). IsHeaderOf mode (submission_id number (nonce_in s.number s.header.id)) ms s.header.conversation (length ls) s.header) (sym back) headed;
      loaded = subst (λ (ls : List Load). ArePayloadsOf (submission_id number (nonce_in s.number s.header.id)) ls s.payloads) (sym back)
          (subst (λ id. ArePayloadsOf id loads s.payloads) own is.loaded);
      route = is.route;
      retries = is.retries;
      period = is.period;
      moment = is.moment;
    }

submits_kind : (modes : List Mode) (end : End) (event : Event) (name : List ℕ) (conversation : Option (List ℕ)) (loads : List Load) (outcome : Outcome)
    → Submits modes end event name conversation loads outcome → Kind modes end outcome
unfolding Submits AreOfEvent
submits_kind modes end event name conversation loads outcome h =
    by_option _ _ _ (mode_named modes name) h (rests_kind modes end _ outcome) (λ mode named k.
    by_bool _ _ _ (nat_le 1048576 (length end.sent)) k (λ _. rests_kind modes end _ outcome) (λ _ l.
    by_bool _ _ _ (are_too_large loads) l (λ _. rests_kind modes end _ outcome) (λ small t.
    gives_kind modes end (effect.Submitted t.0) _ outcome t.2 (taken mode named small t))))
  where
    taken : (mode : Mode) → mode_named modes name ≡ Some mode → are_too_large loads ≡ false → (t : TakesIn mode end event conversation loads outcome)
        → IsSubmitted modes end t.0
    taken mode named small t = record {
      mode = mode;
      named = named_own modes name mode named;
      ms = event.stamp;
      dated = event.dated;
      small = ap are_too_large (loads_back t.0.payloads loads t.1.loaded.medias t.1.loaded.contents) ∙ small;
      made = own_loads mode (length end.sent) end.moment event.stamp event.nonce conversation loads t.0 t.1;
    }

ticks_kind : (modes : List Mode) (end : End) (event : Event) (outcome : Outcome) → Ticks end event outcome → Kind modes end outcome
unfolding Ticks AreOfEvent
ticks_kind modes end event outcome h =
    by_bool _ _ _ (nat_le event.stamp end.moment) h (λ _. rests_kind modes end _ outcome) (λ _ t.
    gives_kind modes end (effect.Ticked t.0) _ outcome t.2 tt)

takes_kind : (modes : List Mode) (end : End) (outcome : Outcome) → Takes end outcome → Kind modes end outcome
unfolding Takes AreOfEvent
takes_kind modes end outcome h =
    by_option _ _ _ (head_of queue.Push end) h (rests_kind modes end _ outcome) (λ s head g.
    gives_kind modes end (effect.Tried s.submission.number) _ outcome g (inl (ap (option_map (λ (t : Sent). t.submission.number)) head)))

asks_kind : (modes : List Mode) (end : End) (event : Event) (name : List ℕ) (outcome : Outcome) → Asks modes event name outcome → Kind modes end outcome
unfolding Asks
asks_kind modes end event name outcome h =
    by_option _ _ _ (mode_named modes name) h (rests_kind modes end _ outcome) (λ mode _ k. by_route mode.route k)
  where
    by_route : (by : Route) → AsksBy by event outcome → Kind modes end outcome
    by_route (route.Push address) k = rests_kind modes end _ outcome k
    by_route (route.Pull mpc address) k = rests_kind modes end _ outcome k.2

asks_with_kind : (modes : List Mode) (end : End) (event : Event) (name : List ℕ) (n : ℕ) (outcome : Outcome) → AsksWith modes end event name n outcome
    → Kind modes end outcome
unfolding AsksWith
asks_with_kind modes end event name n outcome h =
    by_option _ _ _ (mode_named modes name) h (rests_kind modes end _ outcome) (λ mode _ k. by_route mode.route k)
  where
    by_entry : (mpc address : List ℕ) (o : Option InboxEntry) → AsksWithEntry mpc address event o outcome → Kind modes end outcome
    by_entry mpc address None k = rests_kind modes end _ outcome k
    by_entry mpc address (Some entry) k = rests_kind modes end _ outcome k.2

    by_route : (by : Route) → AsksWithBy by end event n outcome → Kind modes end outcome
    by_route (route.Push address) k = rests_kind modes end _ outcome k
    by_route (route.Pull mpc address) k =
        by_bool _ _ _ (nat_lt n end.confirmed) k (λ _. rests_kind modes end _ outcome) (λ _ e. by_entry mpc address _ e)

user_kind : (modes : List Mode) (end : End) (event : Event) (header : UserHeader) (payloads : List Payload) (outcome : Outcome)
    → UserComes modes end event header payloads outcome → Kind modes end outcome
unfolding UserComes AreOfEvent
user_kind modes end event header payloads outcome h =
    by_option _ _ _ (mode_of modes header) h (errs_kind modes end _ _ event outcome) (λ mode found k.
    by_bool _ _ _ (is_known header.id end.inbox) k
    (λ _ again. inl (ap (λ (o : Outcome). o.effects) again.2))
    (λ _ d. effects_kind modes end (effect.Delivered d.0 ∷ []) outcome (ap (λ (o : Outcome). o.effects) d.3.2)
    (subst IsSome (sym (ap (mode_of modes) d.1 ∙ found)) refl)))

-- a pull request gives no effect, or a try of the head of its channel
pub record IsPulled (modes : List Mode) (end : End) (outcome : Outcome) : Type 0 where
  pub head : ℕ
  pub effects : outcome.effects ≡ effect.Tried head ∷ []
  pub of : IsChannelHead modes end head

pub pulls : (modes : List Mode) (end : End) (event : Event) (id mpc : List ℕ) (outcome : Outcome) → PullComes modes end event id mpc outcome
    → (outcome.effects ≡ []) ⊎ IsPulled modes end outcome
unfolding PullComes
pulls modes end event id mpc outcome h =
    by_option _ _ _ (channel_mode modes mpc) h (λ e. inl (ap (λ (o : Outcome). o.effects) e.2)) (λ mode named k.
    by_option _ _ _ (head_of (queue.Channel mpc) end) k (λ e. inl (ap (λ (o : Outcome). o.effects) e.2)) (λ s head g.
    inr (record {
      head = s.submission.number;
      effects = ap (λ (o : Outcome). o.effects) g;
      of = (mpc, subst IsSome (sym named) refl, ap (option_map (λ (t : Sent). t.submission.number)) head);
    })))

pull_kind : (modes : List Mode) (end : End) (event : Event) (id mpc : List ℕ) (outcome : Outcome) → PullComes modes end event id mpc outcome
    → Kind modes end outcome
unfolding AreOfEvent
pull_kind modes end event id mpc outcome h = elim (pulls modes end event id mpc outcome h) [
  | inl none ↦ inl none
  | inr p ↦ effects_kind modes end (effect.Tried p.head ∷ []) outcome p.effects (inr p.of)
]

receipt_kind : (modes : List Mode) (end : End) (event : Event) (id : List ℕ) (ref_to : Option (List ℕ)) (copy : Option UserHeader) (outcome : Outcome)
    → ReceiptComes end event id ref_to copy outcome → Kind modes end outcome
unfolding ReceiptComes AreOfEvent
receipt_kind modes end event id ref_to copy outcome h =
    by_option _ _ _ (option_and_then (λ ref. sent_of ref end.sent) ref_to) h (errs_kind modes end _ _ event outcome) (λ s _ k.
    elim k [ inl other ↦ errs_kind modes end _ _ event outcome other.1 | inr own ↦ settles s own.1 ])
  where
    settles : (s : Sent) → Settles s outcome → Kind modes end outcome
    settles s k =
        by_bool _ _ _ (is_pending s) k (λ _ g. gives_kind modes end (effect.Receipted s.submission.number) _ outcome g tt)
        (λ _. rests_kind modes end _ outcome)

all_refusals : (refusals : List Rejection) → AreRefusals (map (λ (refusal : Rejection). effect.Refused refusal.number refusal.code) refusals)
all_refusals [] = tt
all_refusals (r ∷ refusals) = all_refusals refusals

refusals_kind : (modes : List Mode) (end : End) (refusals : List Rejection) (outcome : Outcome)
    → outcome.effects ≡ map (λ (refusal : Rejection). effect.Refused refusal.number refusal.code) refusals → length outcome.effects ≤ 256
    → Kind modes end outcome
unfolding AreOfEvent
refusals_kind modes end [] outcome is few = inl is
refusals_kind modes end (r ∷ refusals) outcome is few =
    let counted : length outcome.effects ≡ suc (length (map (λ (refusal : Rejection). effect.Refused refusal.number refusal.code) refusals)) = ap length is in
    effects_kind modes end (map (λ (refusal : Rejection). effect.Refused refusal.number refusal.code) (r ∷ refusals)) outcome is
    (all_refusals refusals, omega (arith, counted, few))

signal_kind : (modes : List Mode) (end : End) (event : Event) (id : List ℕ) (ref_to : Option (List ℕ)) (b : SignalBody) (outcome : Outcome)
    → IsTrue (is_signal ref_to b) → AreNumberedFrom 0 end.sent → SignalComes modes end event id ref_to b outcome → Kind modes end outcome
unfolding refusals_of
signal_kind modes end event id ref_to (body.Pull mpc) outcome whole numbered h = pull_kind modes end event id mpc outcome h
signal_kind modes end event id ref_to (body.Receipt copy) outcome whole numbered h = receipt_kind modes end event id ref_to copy outcome h
signal_kind modes end event id ref_to (body.Errors items) outcome whole numbered h =
    let few : length items ≤ 256 = leb-true _ _ (and_right (nat_le 1 (length items)) (nat_le (length items) 256) whole) in
    let is : outcome.effects ≡ refusals_of ref_to end.sent items = ap (λ (o : Outcome). o.effects) h in
    refusals_kind modes end (once (filter_map (refusal_of ref_to end.sent) items)) outcome is
    (subst (λ (es : List Effect). length es ≤ 256) (sym is) (all_stand ref_to end items numbered few).few)

pair_kind : (modes : List Mode) (end : End) (event : Event) (pair : Pair) (outcome : Outcome)
    → PairComes modes end event pair.receipt pair.pull outcome → Kind modes end outcome
unfolding AreOfEvent
pair_kind modes end event pair outcome h = by_case (pair_cases modes end event pair outcome h)
  where
    behind : (mpc : List ℕ) (s : Sent) (b : IsBehind modes end event pair.pull mpc s outcome)
        → (b.pulled.effects ≡ []) ⊎ IsPulled modes (after (effect.Receipted s.submission.number) end) b.pulled → Kind modes end outcome
    behind mpc s b (inl none) =
        effects_kind modes end (effect.Receipted s.submission.number ∷ []) outcome
        (ap (λ (o : Outcome). o.effects) b.is ∙ ap (λ (es : List Effect). effect.Receipted s.submission.number ∷ es) none) tt
    behind mpc s b (inr p) =
        effects_kind modes end (effect.Receipted s.submission.number ∷ effect.Tried p.head ∷ []) outcome
        (ap (λ (o : Outcome). o.effects) b.is ∙ ap (λ (es : List Effect). effect.Receipted s.submission.number ∷ es) p.effects) p.of

    served : (all : IsServed modes end event pair.receipt pair.pull outcome)
        → IsAlone modes end event pair.pull all.mpc all.one outcome ⊎ IsBehind modes end event pair.pull all.mpc all.one outcome → Kind modes end outcome
    served all (inl alone) = pull_kind modes end event pair.pull.id all.mpc outcome alone.row
    served all (inr b) = behind all.mpc all.one b (pulls modes _ event pair.pull.id all.mpc b.pulled b.row)

    by_case : IsRefused event outcome ⊎ IsServed modes end event pair.receipt pair.pull outcome → Kind modes end outcome
    by_case (inl refused) = errs_kind modes end refused.code refused.about event outcome refused.errs
    by_case (inr all) = served all all.row

comes_kind : (modes : List Mode) (end : End) (event : Event) (m : Message) (outcome : Outcome) → AreNumberedFrom 0 end.sent
    → Comes modes end event m outcome → Kind modes end outcome
comes_kind modes end event (message.User header payloads) outcome numbered h = user_kind modes end event header payloads outcome h
comes_kind modes end event (message.Signal signal) outcome numbered h =
    signal_kind modes end event signal.id signal.ref_to signal.body outcome signal.whole numbered h
comes_kind modes end event (message.Pair pair) outcome numbered h = pair_kind modes end event pair outcome h

confirms_kind : (modes : List Mode) (end : End) (upto : ℕ) (outcome : Outcome) → Confirms end upto outcome → Kind modes end outcome
unfolding Confirms AreOfEvent
confirms_kind modes end upto outcome h =
    by_bool _ _ _ (nat_lt upto end.confirmed) h (λ _. rests_kind modes end _ outcome) (λ _ k.
    by_bool _ _ _ (nat_le (length end.inbox) upto) k (λ _. rests_kind modes end _ outcome) (λ _ g.
    gives_kind modes end (effect.Confirmed upto) _ outcome g tt))

row_kind : (modes : List Mode) (end : End) (event : Event) (w : What) (outcome : Outcome) → AreNumberedFrom 0 end.sent
    → RowOf modes end event w outcome → Kind modes end outcome
row_kind modes end event (what.Submit mode conversation loads) outcome numbered h = submits_kind modes end event mode conversation loads outcome h
row_kind modes end event what.Tick outcome numbered h = ticks_kind modes end event outcome h
row_kind modes end event what.Take outcome numbered h = takes_kind modes end outcome h
row_kind modes end event (what.Ask mode) outcome numbered h = asks_kind modes end event mode outcome h
row_kind modes end event (what.AskWith mode n) outcome numbered h = asks_with_kind modes end event mode n outcome h
row_kind modes end event (what.Came came) outcome numbered h = comes_kind modes end event came outcome numbered h
row_kind modes end event (what.Read n) outcome numbered h = rests_kind modes end _ outcome h
row_kind modes end event (what.Confirm upto) outcome numbered h = confirms_kind modes end upto outcome h
row_kind modes end event (what.Status id) outcome numbered h = rests_kind modes end _ outcome h

-- at a reached endpoint the effects of a step are made
pub step_made : (modes : List Mode) (end : End) (event : Event) (outcome : Outcome) → IsReached end → Step modes end event outcome
    → (outcome.effects ≡ [] → ⊥) → IsMade modes end outcome.effects
step_made modes end event outcome reached step some =
    by_bool _ _ _ (has_room end step.row.effects) step.limited
    (λ room same. made (subst (λ (o : Outcome). has_room end o.effects ≡ true) (sym same) room)
    (subst (Kind modes end) (sym same) (row_kind modes end event event.what step.row (reached_sound end reached).sent.numbered step.decided)))
    (λ _ full. absurd (some (ap (λ (o : Outcome). o.effects) full)))
  where
    made : has_room end outcome.effects ≡ true → Kind modes end outcome → IsMade modes end outcome.effects
    made room (inl none) = absurd (some none)
    made room (inr kind) = record { kind = kind; fits = record { fit = step_fits modes end event outcome reached step; room = room } }
