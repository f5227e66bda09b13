-- The effects of each row of the table fit after those before them.
use Rattle.std.proofs.Common.{◌≡◌, ℕ, suc, ◌<◌, ◌≤◌, ◌⊎◌, inl, inr, List, [], ◌∷◌, true, false, Option, Some, None, option_map, length, refl, ap, sym, subst, ◌∙◌, arith}
use Rattle.std.specs.Prelude.{IsTrue, nat_le, nat_lt}
use Rattle.std.specs.Option.{option_and_then}
use Rattle.std.proofs.lemmas.Bool.{ltb-false, leb-false, leb-true}
use Rattle.as4_effects.specs.declared.effect.Effect.{Effect}
use Rattle.as4_effects.specs.declared.effect.Effect.TheVariants as effect
use Rattle.as4_effects.specs.declared.mark.Mark.TheVariants as mark
use Rattle.as4_effects.specs.declared.queue.Queue.{Queue}
use Rattle.as4_effects.specs.declared.queue.Queue.TheVariants as queue
use Rattle.mode_values.specs.ModeMatch.{channel_mode, mode_named, mode_of}
use Rattle.as4_values.specs.declared.header.UserHeader.{UserHeader}
use Rattle.as4_values.specs.declared.message.Message.{Message}
use Rattle.as4_values.specs.declared.message.Message.TheVariants as message
use Rattle.as4_values.specs.declared.message.Pair.{Pair}
use Rattle.mode_values.specs.declared.mode.Mode.{Mode}
use Rattle.as4_values.specs.declared.payload.Payload.{Payload}
use Rattle.as4_values.specs.declared.route.Route.{Route}
use Rattle.as4_values.specs.declared.route.Route.TheVariants as route
use Rattle.as4_values.specs.declared.signal.Signal.{Signal}
use Rattle.as4_values.specs.declared.signal_body.SignalBody.{SignalBody}
use Rattle.as4_values.specs.declared.signal_body.SignalBody.TheVariants as body
use Rattle.as4_values.specs.SignalParts.{is_signal}
use Rattle.msh_state.proofs.NumberLemmas.{marked_numbered}
use Rattle.exchange_laws.proofs.EndSteps.{by_bool, by_option}
use Rattle.exchange_laws.proofs.PairRows.{IsAlone, IsBehind, IsRefused, IsServed, pair_cases}
use Rattle.exchange_laws.proofs.SentLemmas.{and_right}
use Rattle.exchange_model.proofs.FoundLemmas.{head_has, sent_of_has}
use Rattle.exchange_model.proofs.ListLemmas.{Has}
use Rattle.exchange_model.proofs.NumberedLemmas.{itself}
use Rattle.exchange_model.specs.Alone.{MayHappenTo, end_after}
use Rattle.exchange_model.specs.Apply.{after, applied, first_unfit, is_fit, is_one}
use Rattle.exchange_model.specs.End.{End}
use Rattle.exchange_model.specs.Fold.{resized}
use Rattle.exchange_model.specs.Numbered.{AreNumberedFrom}
use Rattle.exchange_model.specs.Questions.{head_of, is_known, is_pending, sent_at, sent_of}
use Rattle.exchange_model.specs.Submitting.{are_too_large}
use Rattle.exchange_model.specs.Table.{AsksBy, AsksWith, AsksWithBy, AsksWithEntry, Asks, Comes, Confirms, Delivers, Errs, Gives, IsOther, PairComes, PullComes, ReceiptComes, Rests, RowOf, Settles, SignalComes, Step, Submits, TakesIn, Takes, Ticks, UserComes, has_room}
use Rattle.exchange_model.specs.World.{Happening, Does, Folds}
use Rattle.exchange_model.specs.declared.event.Event.{Event}
use Rattle.exchange_model.specs.declared.inbox_entry.InboxEntry.{InboxEntry}
use Rattle.as4_values.specs.declared.payload.Load.{Load}
use Rattle.exchange_model.specs.declared.outcome.Outcome.{Outcome}
use Rattle.exchange_model.specs.declared.reply.Reply.{Reply}
use Rattle.exchange_model.specs.declared.sent.Sent.{Sent}
use Rattle.exchange_model.specs.declared.what.What.{What}
use Rattle.exchange_model.specs.declared.what.What.TheVariants as what
use Rattle.fold_laws.specs.Reached.{IsReached}
use Rattle.fold_laws.proofs.ReachedLemmas.{reached_applied, reached_resized}
use Rattle.fold_laws.proofs.Sound.{reached_sound}
use Rattle.msh_transitions.proofs.FitLemmas.{all_stand}
use Rattle.msh_transitions.proofs.FreshLemmas.{new_fits}
use Rattle.msh_transitions.proofs.HeadLemmas.{head_fits}
use Rattle.msh_transitions.proofs.StandLemmas.{confirmation_fits, delivery_fits, tick_fits}

-- the effects of an outcome fit, one after another
abbrev pub Fit : End → Outcome → Type 0
Fit end outcome = first_unfit outcome.effects end ≡ None

effects_fit : (end : End) (effects : List Effect) (outcome : Outcome) → outcome.effects ≡ effects → first_unfit effects end ≡ None → Fit end outcome
effects_fit end effects outcome is fit = subst (λ (es : List Effect). first_unfit es end ≡ None) (sym is) fit

rests_fit : (end : End) (r : Reply) (outcome : Outcome) → Rests r outcome → Fit end outcome
rests_fit end r outcome rests = effects_fit end [] outcome (ap (λ (o : Outcome). o.effects) rests) refl

gives_fit : (end : End) (e : Effect) (r : Reply) (outcome : Outcome) → Gives e r outcome → is_fit e end ≡ true → Fit end outcome
gives_fit end e r outcome gives fit = effects_fit end (e ∷ []) outcome (ap (λ (o : Outcome). o.effects) gives) (rw fit refl)

errs_fit : (end : End) (code : ℕ) (about : List ℕ) (event : Event) (outcome : Outcome) → Errs code about event outcome → Fit end outcome
errs_fit end code about event outcome errs = rests_fit end _ outcome errs.2

submits_fit : (modes : List Mode) (end : End) (event : Event) (name : List ℕ) (conversation : Option (List ℕ)) (loads : List Load) (outcome : Outcome)
    → AreNumberedFrom 0 end.sent → Submits modes end event name conversation loads outcome → Fit end outcome
unfolding Submits
submits_fit modes end event name conversation loads outcome numbered h =
    by_option _ _ _ (mode_named modes name) h (rests_fit end _ outcome) (λ mode _ k.
    by_bool _ _ _ (nat_le 1048576 (length end.sent)) k (λ _. rests_fit end _ outcome) (λ _ l.
    by_bool _ _ _ (are_too_large loads) l (λ _. rests_fit end _ outcome) (λ _ t.
    gives_fit end (effect.Submitted t.0) _ outcome t.2 (new_fits t.0 end numbered t.1.numbered))))

ticks_fit : (end : End) (event : Event) (outcome : Outcome) → Ticks end event outcome → Fit end outcome
unfolding Ticks
ticks_fit end event outcome h =
    by_bool _ _ _ (nat_le event.stamp end.moment) h (λ _. rests_fit end _ outcome) (λ later t.
    gives_fit end (effect.Ticked t.0) _ outcome t.2
    (tick_fits t.0 end (let after : end.moment < event.stamp = leb-false event.stamp end.moment later in let at = t.1 in omega (arith, at))))

tried_fits : (q : Queue) (end : End) (s : Sent) → AreNumberedFrom 0 end.sent → head_of q end ≡ Some s
    → is_fit (effect.Tried s.submission.number) end ≡ true
tried_fits q end s numbered head =
    head_fits q end s.submission.number (ap (option_map (λ (t : Sent). t.submission.number)) (sym head))
    (itself 0 end.sent s numbered (head_has q end s head).0 ∙ sym head)

takes_fit : (end : End) (outcome : Outcome) → AreNumberedFrom 0 end.sent → Takes end outcome → Fit end outcome
unfolding Takes
takes_fit end outcome numbered h =
    by_option _ _ _ (head_of queue.Push end) h (rests_fit end _ outcome) (λ s head g.
    gives_fit end _ _ outcome g (tried_fits queue.Push end s numbered head))

asks_fit : (modes : List Mode) (end : End) (event : Event) (name : List ℕ) (outcome : Outcome) → Asks modes event name outcome → Fit end outcome
unfolding Asks
asks_fit modes end event name outcome h =
    by_option _ _ _ (mode_named modes name) h (rests_fit end _ outcome) (λ mode _ k. by_route mode.route k)
  where
    by_route : (by : Route) → AsksBy by event outcome → Fit end outcome
    by_route (route.Push address) k = rests_fit end _ outcome k
    by_route (route.Pull mpc address) k = rests_fit end _ outcome k.2

asks_with_fit : (modes : List Mode) (end : End) (event : Event) (name : List ℕ) (n : ℕ) (outcome : Outcome) → AsksWith modes end event name n outcome
    → Fit end outcome
unfolding AsksWith
asks_with_fit modes end event name n outcome h =
    by_option _ _ _ (mode_named modes name) h (rests_fit end _ outcome) (λ mode _ k. by_route mode.route k)
  where
    by_entry : (mpc address : List ℕ) (o : Option InboxEntry) → AsksWithEntry mpc address event o outcome → Fit end outcome
    by_entry mpc address None k = rests_fit end _ outcome k
    by_entry mpc address (Some entry) k = rests_fit end _ outcome k.2

    by_route : (by : Route) → AsksWithBy by end event n outcome → Fit end outcome
    by_route (route.Push address) k = rests_fit end _ outcome k
    by_route (route.Pull mpc address) k =
        by_bool _ _ _ (nat_lt n end.confirmed) k (λ _. rests_fit end _ outcome) (λ _ e. by_entry mpc address _ e)

user_fits : (modes : List Mode) (end : End) (event : Event) (header : UserHeader) (payloads : List Payload) (outcome : Outcome)
    → UserComes modes end event header payloads outcome → Fit end outcome
unfolding UserComes
user_fits modes end event header payloads outcome h =
    by_option _ _ _ (mode_of modes header) h (errs_fit end _ _ event outcome) (λ mode _ k.
    by_bool _ _ _ (is_known header.id end.inbox) k
    (λ _ again. effects_fit end [] outcome (ap (λ (o : Outcome). o.effects) again.2) refl)
    (λ new d. effects_fit end (effect.Delivered d.0 ∷ []) outcome (ap (λ (o : Outcome). o.effects) d.3.2)
    (rw (delivery_fits d.0 end (ap (λ (u : UserHeader). is_known u.id end.inbox) d.1 ∙ new)) refl)))

pull_fits : (modes : List Mode) (end : End) (event : Event) (id mpc : List ℕ) (outcome : Outcome) → AreNumberedFrom 0 end.sent
    → PullComes modes end event id mpc outcome → Fit end outcome
unfolding PullComes
pull_fits modes end event id mpc outcome numbered h =
    by_option _ _ _ (channel_mode modes mpc) h (errs_fit end _ _ event outcome) (λ mode _ k.
    by_option _ _ _ (head_of (queue.Channel mpc) end) k (errs_fit end _ _ event outcome) (λ s head g.
    gives_fit end _ _ outcome g (tried_fits (queue.Channel mpc) end s numbered head)))

pending_fits : (end : End) (s : Sent) → AreNumberedFrom 0 end.sent → Has end.sent s → is_pending s ≡ true
    → is_fit (effect.Receipted s.submission.number) end ≡ true
unfolding is_fit
pending_fits end s numbered has pending = ap (is_one is_pending) (itself 0 end.sent s numbered has) ∙ pending

-- a reference that names a submission finds one of the endpoint's
named_has : (ref_to : Option (List ℕ)) (sent : List Sent) (s : Sent) → option_and_then (λ ref. sent_of ref sent) ref_to ≡ Some s → Has sent s
named_has None sent s e = absurd cc
named_has (Some ref) sent s e = (sent_of_has ref sent s e).0

receipt_fits : (end : End) (event : Event) (id : List ℕ) (ref_to : Option (List ℕ)) (copy : Option UserHeader) (outcome : Outcome)
    → AreNumberedFrom 0 end.sent → ReceiptComes end event id ref_to copy outcome → Fit end outcome
unfolding ReceiptComes
receipt_fits end event id ref_to copy outcome numbered h =
    by_option _ _ _ (option_and_then (λ ref. sent_of ref end.sent) ref_to) h (errs_fit end _ _ event outcome) (λ s named k. by_copy s named k)
  where
    settles : (s : Sent) → option_and_then (λ ref. sent_of ref end.sent) ref_to ≡ Some s → Settles s outcome → Fit end outcome
    settles s named k =
        by_bool _ _ _ (is_pending s) k
        (λ pending g. gives_fit end _ _ outcome g (pending_fits end s numbered (named_has ref_to end.sent s named) pending))
        (λ _. rests_fit end _ outcome)

    by_copy : (s : Sent) → option_and_then (λ ref. sent_of ref end.sent) ref_to ≡ Some s
        → (IsOther copy s.submission.header × Errs 302 id event outcome) ⊎ ((¬ IsOther copy s.submission.header) × Settles s outcome) → Fit end outcome
    by_copy s named (inl other) = errs_fit end _ _ event outcome other.1
    by_copy s named (inr own) = settles s named own.1

signal_fits : (modes : List Mode) (end : End) (event : Event) (id : List ℕ) (ref_to : Option (List ℕ)) (b : SignalBody) (outcome : Outcome)
    → IsTrue (is_signal ref_to b) → AreNumberedFrom 0 end.sent → SignalComes modes end event id ref_to b outcome → Fit end outcome
signal_fits modes end event id ref_to (body.Pull mpc) outcome whole numbered h = pull_fits modes end event id mpc outcome numbered h
signal_fits modes end event id ref_to (body.Receipt copy) outcome whole numbered h = receipt_fits end event id ref_to copy outcome numbered h
signal_fits modes end event id ref_to (body.Errors items) outcome whole numbered h =
    let few : length items ≤ 256 = leb-true _ _ (and_right (nat_le 1 (length items)) (nat_le (length items) 256) whole) in
    effects_fit end _ outcome (ap (λ (o : Outcome). o.effects) h) (all_stand ref_to end items numbered few).fit

pair_fits : (modes : List Mode) (end : End) (event : Event) (pair : Pair) (outcome : Outcome) → AreNumberedFrom 0 end.sent
    → PairComes modes end event pair.receipt pair.pull outcome → Fit end outcome
unfolding after
pair_fits modes end event pair outcome numbered h = by_case (pair_cases modes end event pair outcome h)
  where
    behind : (mpc : List ℕ) (s : Sent) → Has end.sent s → IsBehind modes end event pair.pull mpc s outcome → Fit end outcome
    behind mpc s has b =
        let first : is_fit (effect.Receipted s.submission.number) end ≡ true = pending_fits end s numbered has b.pending in
        let rest : Fit (after (effect.Receipted s.submission.number) end) b.pulled =
        pull_fits modes (after (effect.Receipted s.submission.number) end) event pair.pull.id mpc b.pulled
        (marked_numbered s.submission.number mark.Receipted 0 end.sent numbered) b.row in
        effects_fit end (effect.Receipted s.submission.number ∷ b.pulled.effects) outcome (ap (λ (o : Outcome). o.effects) b.is)
        (rw (first, rest) refl)

    served : (all : IsServed modes end event pair.receipt pair.pull outcome)
        → IsAlone modes end event pair.pull all.mpc all.one outcome ⊎ IsBehind modes end event pair.pull all.mpc all.one outcome → Fit end outcome
    served all (inl alone) = pull_fits modes end event pair.pull.id all.mpc outcome numbered alone.row
    served all (inr b) = behind all.mpc all.one (named_has pair.receipt.ref_to end.sent all.one all.of.names) b

    by_case : IsRefused event outcome ⊎ IsServed modes end event pair.receipt pair.pull outcome → Fit end outcome
    by_case (inl refused) = errs_fit end refused.code refused.about event outcome refused.errs
    by_case (inr all) = served all all.row

comes_fit : (modes : List Mode) (end : End) (event : Event) (m : Message) (outcome : Outcome) → AreNumberedFrom 0 end.sent
    → Comes modes end event m outcome → Fit end outcome
comes_fit modes end event (message.User header payloads) outcome numbered h = user_fits modes end event header payloads outcome h
comes_fit modes end event (message.Signal signal) outcome numbered h =
    signal_fits modes end event signal.id signal.ref_to signal.body outcome signal.whole numbered h
comes_fit modes end event (message.Pair pair) outcome numbered h = pair_fits modes end event pair outcome numbered h

confirms_fit : (end : End) (upto : ℕ) (outcome : Outcome) → Confirms end upto outcome → Fit end outcome
unfolding Confirms
confirms_fit end upto outcome h =
    by_bool _ _ _ (nat_lt upto end.confirmed) h (λ _. rests_fit end _ outcome) (λ left k.
    by_bool _ _ _ (nat_le (length end.inbox) upto) k (λ _. rests_fit end _ outcome) (λ within g.
    gives_fit end _ _ outcome g
    (confirmation_fits upto end (ltb-false upto end.confirmed left)
    (let below : upto < length end.inbox = leb-false (length end.inbox) upto within in omega (arith, below)))))

row_fits : (modes : List Mode) (end : End) (event : Event) (w : What) (outcome : Outcome) → AreNumberedFrom 0 end.sent
    → RowOf modes end event w outcome → Fit end outcome
row_fits modes end event (what.Submit mode conversation loads) outcome numbered h = submits_fit modes end event mode conversation loads outcome numbered h
row_fits modes end event what.Tick outcome numbered h = ticks_fit end event outcome h
row_fits modes end event what.Take outcome numbered h = takes_fit end outcome numbered h
row_fits modes end event (what.Ask mode) outcome numbered h = asks_fit modes end event mode outcome h
row_fits modes end event (what.AskWith mode n) outcome numbered h = asks_with_fit modes end event mode n outcome h
row_fits modes end event (what.Came came) outcome numbered h = comes_fit modes end event came outcome numbered h
row_fits modes end event (what.Read n) outcome numbered h = rests_fit end _ outcome h
row_fits modes end event (what.Confirm upto) outcome numbered h = confirms_fit end upto outcome h
row_fits modes end event (what.Status id) outcome numbered h = rests_fit end _ outcome h

-- they fit too where the journal is full
pub step_fits : (modes : List Mode) (end : End) (event : Event) (outcome : Outcome) → IsReached end → Step modes end event outcome → Fit end outcome
step_fits modes end event outcome reached step =
    by_bool _ _ _ (has_room end step.row.effects) step.limited
    (λ _ same. subst (Fit end) (sym same)
    (row_fits modes end event event.what step.row (reached_sound end reached).sent.numbered step.decided))
    (λ _. rests_fit end _ outcome)

-- each happening leads from a reached endpoint to a reached one
pub leads_on : (all : List Happening) (end : End) → IsReached end → MayHappenTo all end → IsReached (end_after all end)
leads_on [] end reached may = reached
leads_on (Does act ∷ later) end reached may =
    leads_on later (applied act.outcome.effects end)
    (reached_applied end act.outcome.effects reached (step_fits act.modes end act.event act.outcome reached may.0)) may.1
leads_on (Folds site size ∷ later) end reached may = leads_on later (resized size end) (reached_resized end size reached) may.1
