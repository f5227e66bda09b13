-- An effect that takes no room leaves each submission in its queue.
use Rattle.std.proofs.Common.{◌≡◌, ℕ, List, [], ◌∷◌, Bool, true, false, cond, eqb, Option, Some, None, map, refl, ap, sym, ◌∙◌, inl, inr}
use Rattle.std.specs.Prelude.{is_some}
use Rattle.std.proofs.lemmas.Bool.{cond-true, cond-false, cases_Bool}
use Rattle.as4_effects.specs.declared.effect.Effect.{Effect}
use Rattle.as4_effects.specs.declared.effect.Effect.TheVariants as effect
use Rattle.as4_effects.specs.declared.submission.Submission.{Submission}
use Rattle.exchange_model.specs.Apply.{after, changed, failed_if_spent, is_fit, is_one, marked, tried}
use Rattle.exchange_model.specs.End.{End}
use Rattle.exchange_model.specs.Questions.{is_spent, is_waiting, queue_of, sent_at}
use Rattle.as4_effects.specs.declared.mark.Mark.TheVariants as mark
use Rattle.exchange_model.specs.declared.sent.Sent.{Sent}
use Rattle.msh_state.specs.Rooms.{HasRoom, IsThere, Rooms, TakesNoRoom, queue_at, queue_for, queue_of_sent}

-- a test that depends only on the submission, not on its state
abbrev pub Sees : {X : Type 0} → (Option Sent → X) → Type 0
Sees h = (s t : Sent) → t.submission ≡ s.submission → h (Some t) ≡ h (Some s)

mapped : {X : Type 0} (h : Option Sent → X) → Sees h → (g : Sent → Sent) → ((s : Sent) → (g s).submission ≡ s.submission)
    → (k : ℕ) (sent : List Sent) → h (sent_at k (map g sent)) ≡ h (sent_at k sent)
mapped h sees g same k [] = refl
mapped h sees g same k (s ∷ sent) =
    let number : eqb (g s).submission.number k ≡ eqb s.submission.number k = ap (λ (x : Submission). eqb x.number k) (same s) in
    elim (cases_Bool (eqb s.submission.number k)) [
      | inl e ↦ ap h (cond-true (eqb (g s).submission.number k) (Some (g s)) (sent_at k (map g sent)) (number ∙ e))
          ∙ sees s (g s) (same s)
          ∙ ap h (sym (cond-true (eqb s.submission.number k) (Some s) (sent_at k sent) e))
      | inr e ↦ ap h (cond-false (eqb (g s).submission.number k) (Some (g s)) (sent_at k (map g sent)) (number ∙ e))
          ∙ mapped h sees g same k sent
          ∙ ap h (sym (cond-false (eqb s.submission.number k) (Some s) (sent_at k sent) e))
    ]

either_changed : (b : Bool) (t s : Sent) → t.submission ≡ s.submission → (cond b t s).submission ≡ s.submission
either_changed true t s e = e
either_changed false t s e = refl

changed_kept : {X : Type 0} (h : Option Sent → X) → Sees h → (n : ℕ) (f : Sent → Sent) → ((s : Sent) → (f s).submission ≡ s.submission)
    → (k : ℕ) (sent : List Sent) → h (sent_at k (changed n f sent)) ≡ h (sent_at k sent)
unfolding changed
changed_kept h sees n f same k sent =
    mapped h sees (λ s. cond (eqb s.submission.number n) (f s) s) (λ s. either_changed (eqb s.submission.number n) (f s) s (same s)) k sent

queue_sees : Sees queue_of_sent
queue_sees s t same = ap (λ (x : Submission). queue_of x.route) same

-- a try leaves each submission in its queue
pub tried_queue : (n moment k : ℕ) (sent : List Sent) → queue_at k (changed n (tried moment) sent) ≡ queue_at k sent
tried_queue n moment k sent = changed_kept queue_of_sent queue_sees n (tried moment) (λ s. refl) k sent

-- an effect that takes no room doesn't change the submission of any number
kept_at : {X : Type 0} (h : Option Sent → X) → Sees h → (e : Effect) (end : End) (k : ℕ) → TakesNoRoom e
    → h (sent_at k (after e end).sent) ≡ h (sent_at k end.sent)
unfolding TakesNoRoom after
kept_at h sees (effect.Submitted submission) end k none = absurd none
kept_at h sees (effect.Ticked tick) end k none =
    mapped h sees (failed_if_spent tick.moment) (λ s. either_changed (is_spent tick.moment s) (marked mark.Failed s) s refl) k end.sent
kept_at h sees (effect.Tried number) end k none = absurd none
kept_at h sees (effect.Delivered delivery) end k none = absurd none
kept_at h sees (effect.Receipted number) end k none = changed_kept h sees number (marked mark.Receipted) (λ s. refl) k end.sent
kept_at h sees (effect.Refused number code) end k none = changed_kept h sees number (marked (mark.Refused code)) (λ s. refl) k end.sent
kept_at h sees (effect.Confirmed upto) end k none = refl
kept_at h sees (effect.Carried carried) end k none = absurd none
kept_at h sees (effect.Kept kept) end k none = absurd none

-- an effect that takes no room doesn't change the queue of any effect
pub kept_queue : (e f : Effect) (end : End) → TakesNoRoom e → queue_for (after e end).sent f ≡ queue_for end.sent f
unfolding queue_for
kept_queue e (effect.Submitted submission) end h = refl
kept_queue e (effect.Ticked tick) end h = refl
kept_queue e (effect.Tried number) end h = kept_at queue_of_sent queue_sees e end number h
kept_queue e (effect.Delivered delivery) end h = refl
kept_queue e (effect.Receipted number) end h = kept_at queue_of_sent queue_sees e end number h
kept_queue e (effect.Refused number code) end h = kept_at queue_of_sent queue_sees e end number h
kept_queue e (effect.Confirmed upto) end h = refl
kept_queue e (effect.Carried carried) end h = refl
kept_queue e (effect.Kept kept) end h = refl

-- a submission that is sent again after such an effect existed before it
pub there_before : (e f : Effect) (end : End) → TakesNoRoom e → IsThere (after e end).sent f → IsThere end.sent f
unfolding IsThere
there_before e (effect.Tried number) end h there = sym (kept_at is_some (λ s t same. refl) e end number h) ∙ there
there_before e (effect.Submitted submission) end h there = tt
there_before e (effect.Ticked tick) end h there = tt
there_before e (effect.Delivered delivery) end h there = tt
there_before e (effect.Receipted number) end h there = tt
there_before e (effect.Refused number code) end h there = tt
there_before e (effect.Confirmed upto) end h there = tt
there_before e (effect.Carried carried) end h there = tt
there_before e (effect.Kept kept) end h there = tt

is_there : (test : Sent → Bool) (o : Option Sent) → is_one test o ≡ true → is_some o ≡ true
is_there test None e = absurd cc
is_there test (Some s) e = refl

-- and an effect that fits has its submission
pub fit_there : (e : Effect) (end : End) → is_fit e end ≡ true → IsThere end.sent e
unfolding IsThere is_fit
fit_there (effect.Tried number) end fit = is_there is_waiting (sent_at number end.sent) fit
fit_there (effect.Submitted submission) end fit = tt
fit_there (effect.Ticked tick) end fit = tt
fit_there (effect.Delivered delivery) end fit = tt
fit_there (effect.Receipted number) end fit = tt
fit_there (effect.Refused number code) end fit = tt
fit_there (effect.Confirmed upto) end fit = tt
fit_there (effect.Carried carried) end fit = tt
fit_there (effect.Kept kept) end fit = tt

-- an effect that takes no room keeps the room that there is
pub room_stays : (e f : Effect) (end : End) (rooms : Rooms) → TakesNoRoom e → HasRoom rooms end.sent f → HasRoom rooms (after e end).sent f
unfolding HasRoom
room_stays e (effect.Tried number) end rooms h room =
    room ∙ ap (λ q. Some (record { queue = q; number = number })) (sym (kept_at queue_of_sent queue_sees e end number h))
room_stays e (effect.Submitted submission) end rooms h room = room
room_stays e (effect.Ticked tick) end rooms h room = tt
room_stays e (effect.Delivered delivery) end rooms h room = room
room_stays e (effect.Receipted number) end rooms h room = tt
room_stays e (effect.Refused number code) end rooms h room = tt
room_stays e (effect.Confirmed upto) end rooms h room = tt
room_stays e (effect.Carried carried) end rooms h room = room
room_stays e (effect.Kept kept) end rooms h room = room
