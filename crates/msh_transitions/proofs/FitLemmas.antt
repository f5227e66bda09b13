-- Refusals of pending submissions with different numbers fit one after another.
use Rattle.std.proofs.Common.{◌≡◌, ℕ, ◌≤◌, List, [], ◌∷◌, Bool, true, false, cond, eqb, Option, Some, None, option_map, length, map, refl, ap, sym, ◌∙◌, arith, inl, inr, suc}
use Rattle.std.specs.Prelude.{not}
use Rattle.std.specs.List.{cons_option, filter, filter_map}
use Rattle.std.specs.Option.{IfSome, option_or}
use Rattle.std.proofs.lemmas.Bool.{cases_Bool, ne_eqb}
use Rattle.std.proofs.lemmas.List.{length-map}
use Rattle.as4_effects.specs.declared.effect.Effect.{Effect}
use Rattle.as4_effects.specs.declared.effect.Effect.TheVariants.{Refused}
use Rattle.as4_values.specs.declared.signal_body.ErrorItem.{ErrorItem}
use Rattle.msh_state.specs.Rooms.{TakesNoRoom}
use Rattle.msh_state.specs.Standing.{CanStand, TakeOneRoom}
use Rattle.exchange_model.specs.Apply.{after, changed, first_unfit, is_fit, is_one, marked}
use Rattle.exchange_model.specs.End.{End}
use Rattle.exchange_model.specs.Numbered.{AreNumberedFrom}
use Rattle.exchange_model.specs.Questions.{is_pending, sent_at}
use Rattle.exchange_model.specs.Refusing.{Rejection, once, refusal_of, refusals_of}
use Rattle.as4_effects.specs.declared.mark.Mark.{Mark}
use Rattle.as4_effects.specs.declared.mark.Mark.TheVariants as mark
use Rattle.exchange_model.specs.declared.sent.Sent.{Sent}
use Rattle.exchange_model.proofs.PendingLemmas.{pending_by}

abbrev pub effect_of : Rejection → Effect
effect_of refusal = Refused refusal.number refusal.code

abbrev pub is_other : ℕ → Rejection → Bool
is_other number refusal = not (eqb refusal.number number)

-- each names a pending submission
abbrev pub ArePending : List Sent → List Rejection → Type 0
ArePending sent [] = Unit {0}
ArePending sent (r ∷ refusals) = (is_one is_pending (sent_at r.number sent) ≡ true) × ArePending sent refusals

-- none has this number
abbrev pub AreOthers : ℕ → List Rejection → Type 0
AreOthers number [] = Unit {0}
AreOthers number (r ∷ refusals) = (eqb r.number number ≡ false) × AreOthers number refusals

-- no two have the same number
abbrev pub Differ : List Rejection → Type 0
Differ [] = Unit {0}
Differ (r ∷ refusals) = AreOthers r.number refusals × Differ refusals

differs : (n m k : ℕ) → eqb m n ≡ false → eqb k n ≡ true → eqb k m ≡ false
differs n m k d e = ne_eqb k m (λ same. let f : true ≡ false = sym e ∙ ap (λ x. eqb x n) same ∙ d in cc)

-- a submission of another number doesn't change
other_at : (n m : ℕ) (to : Mark) (sent : List Sent) → eqb m n ≡ false → sent_at m (changed n (marked to) sent) ≡ sent_at m sent
unfolding changed
other_at n m to [] d = refl
other_at n m to (s ∷ sent) d =
    elim (cases_Bool (eqb s.submission.number n)) [
      | inl e ↦ rw (e, differs n m s.submission.number d e) (other_at n m to sent d)
      | inr e ↦ rw e (ap (λ (o : Option Sent). cond (eqb s.submission.number m) (Some s) o) (other_at n m to sent d))
    ]

-- those of other numbers remain pending
still_pending : (n : ℕ) (to : Mark) (sent : List Sent) (refusals : List Rejection) → AreOthers n refusals → ArePending sent refusals
    → ArePending (changed n (marked to) sent) refusals
still_pending n to sent [] others pending = tt
still_pending n to sent (r ∷ refusals) others pending =
    (ap (is_one is_pending) (other_at n r.number to sent others.0) ∙ pending.0, still_pending n to sent refusals others.1 pending.1)

pub fits_all : (refusals : List Rejection) (end : End) → Differ refusals → ArePending end.sent refusals → first_unfit (map effect_of refusals) end ≡ None
unfolding is_fit after
fits_all [] end differ pending = refl
fits_all (r ∷ refusals) end differ pending =
    rw pending.0 (ap (option_map suc)
    (fits_all refusals (after (effect_of r) end) differ.1
    (still_pending r.number (mark.Refused r.code) end.sent refusals differ.0 pending.1)))

-- the remaining ones
pending_left : (p : Rejection → Bool) (sent : List Sent) (refusals : List Rejection) → ArePending sent refusals → ArePending sent (filter p refusals)
pending_left p sent [] pending = tt
pending_left p sent (r ∷ refusals) pending =
    elim (p r) as (λ b. ArePending sent (cond b (r ∷ filter p refusals) (filter p refusals)))
    [ true ↦ (pending.0, pending_left p sent refusals pending.1) | false ↦ pending_left p sent refusals pending.1 ]

others_left : (p : Rejection → Bool) (n : ℕ) (refusals : List Rejection) → AreOthers n refusals → AreOthers n (filter p refusals)
others_left p n [] others = tt
others_left p n (r ∷ refusals) others =
    elim (p r) as (λ b. AreOthers n (cond b (r ∷ filter p refusals) (filter p refusals)))
    [ true ↦ (others.0, others_left p n refusals others.1) | false ↦ others_left p n refusals others.1 ]

differ_left : (p : Rejection → Bool) (refusals : List Rejection) → Differ refusals → Differ (filter p refusals)
differ_left p [] differ = tt
differ_left p (r ∷ refusals) differ =
    elim (p r) as (λ b. Differ (cond b (r ∷ filter p refusals) (filter p refusals)))
    [ true ↦ (others_left p r.number refusals differ.0, differ_left p refusals differ.1) | false ↦ differ_left p refusals differ.1 ]

few_left : (p : Rejection → Bool) (refusals : List Rejection) → length (filter p refusals) ≤ length refusals
few_left p [] = omega arith
few_left p (r ∷ refusals) =
    elim (p r) as (λ b. length (cond b (r ∷ filter p refusals) (filter p refusals)) ≤ suc (length refusals))
    [ true ↦ omega (arith, few_left p refusals) | false ↦ omega (arith, few_left p refusals) ]

-- the remaining ones have other numbers
others_of : (n : ℕ) (refusals : List Rejection) → AreOthers n (filter (is_other n) refusals)
others_of n [] = tt
others_of n (r ∷ refusals) =
    elim (cases_Bool (eqb r.number n)) [
      | inl e ↦ rw e (others_of n refusals)
      | inr e ↦ rw e (e, others_of n refusals)
    ]

once_pending : (sent : List Sent) (refusals : List Rejection) → ArePending sent refusals → ArePending sent (once refusals)
unfolding once
once_pending sent [] pending = tt
once_pending sent (r ∷ refusals) pending =
    (pending.0, pending_left (is_other r.number) sent (once refusals) (once_pending sent refusals pending.1))

once_differ : (refusals : List Rejection) → Differ (once refusals)
unfolding once
once_differ [] = tt
once_differ (r ∷ refusals) =
    (others_of r.number (once refusals), differ_left (is_other r.number) (once refusals) (once_differ refusals))

few_once : (refusals : List Rejection) → length (once refusals) ≤ length refusals
unfolding once
few_once [] = omega arith
few_once (r ∷ refusals) = omega (arith, few_left (is_other r.number) (once refusals), few_once refusals)

consed : (sent : List Sent) (o : Option Rejection) (refusals : List Rejection) → IfSome o (λ r. is_one is_pending (sent_at r.number sent) ≡ true)
    → ArePending sent refusals → ArePending sent (cons_option o refusals)
consed sent None refusals one pending = pending
consed sent (Some r) refusals one pending = (one, pending)

all_pending : (ref_to : Option (List ℕ)) (sent : List Sent) (items : List ErrorItem) → AreNumberedFrom 0 sent
    → ArePending sent (filter_map (refusal_of ref_to sent) items)
all_pending ref_to sent [] h = tt
all_pending ref_to sent (item ∷ items) h =
    consed sent (refusal_of ref_to sent item) (filter_map (refusal_of ref_to sent) items)
    (pending_by item.severity item.code (option_or item.about ref_to) sent h) (all_pending ref_to sent items h)

few_consed : (o : Option Rejection) (refusals : List Rejection) → length (cons_option o refusals) ≤ suc (length refusals)
few_consed None refusals = omega arith
few_consed (Some r) refusals = omega arith

few_refusals : (ref_to : Option (List ℕ)) (sent : List Sent) (items : List ErrorItem) → length (filter_map (refusal_of ref_to sent) items) ≤ length items
few_refusals ref_to sent [] = omega arith
few_refusals ref_to sent (item ∷ items) =
    omega (arith, few_consed (refusal_of ref_to sent item) (filter_map (refusal_of ref_to sent) items), few_refusals ref_to sent items)

one_room : (refusals : List Rejection) → TakeOneRoom (map effect_of refusals)
unfolding TakesNoRoom
one_room [] = tt
one_room (r ∷ []) = tt
one_room (r ∷ q ∷ refusals) = (tt, one_room (q ∷ refusals))

-- the effects of an error signal can be applied
pub all_stand : (ref_to : Option (List ℕ)) (end : End) (items : List ErrorItem) → AreNumberedFrom 0 end.sent → length items ≤ 256
    → CanStand end (refusals_of ref_to end.sent items)
unfolding refusals_of
all_stand ref_to end items stand few =
    let refusals : List Rejection = filter_map (refusal_of ref_to end.sent) items in
    let short : length refusals ≤ length items = few_refusals ref_to end.sent items in
    let shorter : length (once refusals) ≤ length refusals = few_once refusals in
    record {
      fit = fits_all (once refusals) end (once_differ refusals)
          (once_pending end.sent refusals (all_pending ref_to end.sent items stand));
      few = omega (arith, length-map (once refusals) effect_of);
      one_room = one_room (once refusals);
    }
