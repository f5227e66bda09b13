-- Refusals, and the error signal that makes them: one failure for each, about the submission.
use Rattle.std.proofs.Common.{◌≡◌, ℕ, zero, suc, ◌+◌, ◌<◌, ◌≤◌, List, [], ◌∷◌, ◌++◌, Bool, true, false, cond, eqb, Option, Some, None, option_map, length, get_or, map, take, refl, ap, sym, subst, ◌∙◌, arith, inl, inr}
use Rattle.std.specs.Prelude.{IsSome, if◌then◌else◌, not}
use Rattle.std.specs.List.{filter, filter_map}
use Rattle.std.proofs.lemmas.Bool.{cases_Bool, eqb-true, ne_eqb}
use Rattle.std.proofs.lemmas.List.{take_more}
use Rattle.std.proofs.lemmas.Option.{same_Some}
use Rattle.as4_audit.specs.Made.{AreOfEvent, AreRefusals, IsMade, Makes}
use Rattle.as4_audit.specs.Taking.{AreNamed, IsItem, IsItemFor, ItemsFor}
use Rattle.as4_audit.proofs.MadeLemmas.{first_fits, makes_by}
use Rattle.as4_effects.specs.declared.effect.Effect.{Effect}
use Rattle.as4_effects.specs.declared.effect.Effect.TheVariants as effect
use Rattle.as4_effects.specs.declared.mark.Mark.{Mark}
use Rattle.as4_effects.specs.declared.mark.Mark.TheVariants as mark
use Rattle.as4_effects.specs.declared.submission.Submission.{Submission}
use Rattle.as4_values.specs.declared.message.Message.TheVariants as message
use Rattle.as4_values.specs.declared.signal.Signal.{Signal}
use Rattle.as4_values.specs.declared.signal_body.ErrorItem.{ErrorItem}
use Rattle.as4_values.specs.declared.signal_body.SignalBody.{SignalBody}
use Rattle.as4_values.specs.declared.signal_body.SignalBody.TheVariants as body
use Rattle.exchange_laws.proofs.SentLemmas.{sent_of_own}
use Rattle.exchange_model.proofs.FoundLemmas.{sent_at_has}
use Rattle.exchange_model.specs.Apply.{after, changed, first_unfit, is_fit, is_one, marked}
use Rattle.exchange_model.specs.End.{End}
use Rattle.exchange_model.specs.Numbered.{AreNumberedFrom}
use Rattle.exchange_model.specs.Questions.{is_pending, sent_at, sent_of}
use Rattle.exchange_model.specs.Refusing.{Rejection, once, refusal_of, refusals_of}
use Rattle.exchange_model.specs.Table.{SignalComes}
use Rattle.exchange_model.specs.declared.event.Event.{Event}
use Rattle.exchange_model.specs.declared.outcome.Outcome.{Outcome}
use Rattle.exchange_model.specs.declared.reply.Reply.TheVariants as reply
use Rattle.exchange_model.specs.declared.sent.Sent.{Sent}
use Rattle.exchange_model.specs.declared.what.What.TheVariants as what
use Rattle.mode_values.specs.declared.mode.Mode.{Mode}
use Rattle.msh_transitions.proofs.FitLemmas.{AreOthers, ArePending, Differ, effect_of}

-- the submission that was just refused isn't pending
not_again : (n : ℕ) (code : List ℕ) (sent : List Sent) → is_one is_pending (sent_at n (changed n (marked (mark.Refused code)) sent)) ≡ true → ⊥
unfolding changed
not_again n code [] e = cc
not_again n code (s ∷ sent) e = by_number (eqb s.submission.number n) refl (λ rest. not_again n code sent rest)
  where
    by_number : (b : Bool) → eqb s.submission.number n ≡ b
        → (is_one is_pending (sent_at n (changed n (marked (mark.Refused code)) sent)) ≡ true → ⊥) → ⊥
    by_number true is later = let no : false ≡ true = rw (is, is) at e in cc
    by_number false is later = later (rw (is, is) at e)

-- one of another number doesn't change
other_at : (n m : ℕ) (to : Mark) (sent : List Sent) → eqb m n ≡ false → sent_at m (changed n (marked to) sent) ≡ sent_at m sent
unfolding changed
other_at n m to [] d = refl
other_at n m to (s ∷ sent) d =
    elim (cases_Bool (eqb s.submission.number n)) [
      | inl e ↦ rw (e, differs s.submission.number e) (other_at n m to sent d)
      | inr e ↦ rw e (ap (λ (o : Option Sent). cond (eqb s.submission.number m) (Some s) o) (other_at n m to sent d))
    ]
  where
    differs : (k : ℕ) → eqb k n ≡ true → eqb k m ≡ false
    differs k e = ne_eqb k m (λ same. let f : true ≡ false = sym e ∙ ap (λ x. eqb x n) same ∙ d in cc)

-- what is pending after a refusal was pending before it, and is another
before_one : (n m : ℕ) (code : List ℕ) (sent : List Sent) → is_one is_pending (sent_at m (changed n (marked (mark.Refused code)) sent)) ≡ true
    → (eqb m n ≡ false) × (is_one is_pending (sent_at m sent) ≡ true)
before_one n m code sent e =
    elim (cases_Bool (eqb m n)) [
      | inl same ↦ absurd (not_again n code sent
          (subst (λ k. is_one is_pending (sent_at k (changed n (marked (mark.Refused code)) sent)) ≡ true) (eqb-true m n same) e))
      | inr other ↦ (other, sym (ap (is_one is_pending) (other_at n m (mark.Refused code) sent other)) ∙ e)
    ]

before_all : (n : ℕ) (code : List ℕ) (sent : List Sent) (refusals : List Rejection) → ArePending (changed n (marked (mark.Refused code)) sent) refusals
    → AreOthers n refusals × ArePending sent refusals
before_all n code sent [] pending = (tt, tt)
before_all n code sent (r ∷ refusals) pending =
    let one = before_one n r.number code sent pending.0 in
    let rest = before_all n code sent refusals pending.1 in
    ((one.0, rest.0), (one.1, rest.1))

-- refusals that fit are those of different pending submissions
pub record AreApart (sent : List Sent) (effects : List Effect) : Type 0 where
  pub refusals : List Rejection
  pub are : effects ≡ map effect_of refusals
  pub differ : Differ refusals
  pub pending : ArePending sent refusals

rest_fits : (b : Bool) (more : Option ℕ) → (if b then option_map suc more else Some 0) ≡ None → more ≡ None
rest_fits true None e = refl
rest_fits true (Some n) e = absurd cc
rest_fits false more e = absurd cc

pub apart : (effects : List Effect) (end : End) → AreRefusals effects → first_unfit effects end ≡ None → AreApart end.sent effects
unfolding after is_fit
apart [] end are fit = record { refusals = []; are = refl; differ = tt; pending = tt }
apart (effect.Refused number code ∷ effects) end are fit =
    let later = apart effects (after (effect.Refused number code) end) are
    (rest_fits (is_fit (effect.Refused number code) end) (first_unfit effects (after (effect.Refused number code) end)) fit) in
    let back = before_all number code end.sent later.refusals later.pending in
    record {
      refusals = record { number = number; code = code } ∷ later.refusals;
      are = ap (λ (es : List Effect). effect.Refused number code ∷ es) later.are;
      differ = (back.0, later.differ);
      pending = (first_fits (effect.Refused number code) effects end fit, back.1);
    }
apart (effect.Submitted s ∷ effects) end are fit = absurd are
apart (effect.Ticked t ∷ effects) end are fit = absurd are
apart (effect.Tried n ∷ effects) end are fit = absurd are
apart (effect.Delivered d ∷ effects) end are fit = absurd are
apart (effect.Receipted n ∷ effects) end are fit = absurd are
apart (effect.Confirmed n ∷ effects) end are fit = absurd are
apart (effect.Carried d ∷ effects) end are fit = absurd are
apart (effect.Kept d ∷ effects) end are fit = absurd are

-- each is of a submission that is there
some_at : (o : Option Sent) → is_one is_pending o ≡ true → IsSome o
some_at None e = absurd cc
some_at (Some s) e = refl

pub all_named : (sent : List Sent) (refusals : List Rejection) → ArePending sent refusals → AreNamed sent (map effect_of refusals)
all_named sent [] pending = tt
all_named sent (r ∷ refusals) pending = (some_at (sent_at r.number sent) pending.0, all_named sent refusals pending.1)

-- the failure for a refusal refuses its submission
refused_one : (sent : List Sent) (r : Rejection) (item : ErrorItem) → AreNumberedFrom 0 sent → is_one is_pending (sent_at r.number sent) ≡ true
    → IsItemFor sent r.number r.code item → refusal_of None sent item ≡ Some r
refused_one sent r item numbered pending is = by_found (sent_at r.number sent) refl pending is.submission.1
  where
    by_found : (o : Option Sent) → sent_at r.number sent ≡ o → is_one is_pending o ≡ true
        → Some is.submission.0 ≡ option_map (λ (s : Sent). s.submission) o → refusal_of None sent item ≡ Some r
    by_found None e pending found = absurd cc
    by_found (Some s) e pending found =
        let has = sent_at_has r.number sent s e in
        let same : is.submission.0 ≡ s.submission = same_Some is.submission.0 s.submission found in
        let about : item.about ≡ Some s.submission.header.id = is.about ∙ ap (λ (u : Submission). Some u.header.id) same in
        let finds : sent_of s.submission.header.id sent ≡ Some s = sent_of_own sent s numbered has.0 in
        rw (is.severity, is.coded, about) (rw (finds, pending, has.1) refl)

refused_all : (sent : List Sent) (refusals : List Rejection) (items : List ErrorItem) → AreNumberedFrom 0 sent → ArePending sent refusals
    → ItemsFor sent (map effect_of refusals) items → filter_map (refusal_of None sent) items ≡ refusals
refused_all sent [] [] numbered pending are = refl
refused_all sent [] (item ∷ items) numbered pending are = absurd are
refused_all sent (r ∷ refusals) [] numbered pending are = absurd are
refused_all sent (r ∷ refusals) (item ∷ items) numbered pending are =
    rw (refused_one sent r item numbered pending.0 are.0, refused_all sent refusals items numbered pending.1 are.1) refl

all_left : (n : ℕ) (refusals : List Rejection) → AreOthers n refusals → filter (λ (later : Rejection). not (eqb later.number n)) refusals ≡ refusals
all_left n [] others = refl
all_left n (r ∷ refusals) others = rw (others.0, all_left n refusals others.1) refl

once_all : (refusals : List Rejection) → Differ refusals → once refusals ≡ refusals
unfolding once
once_all [] differ = refl
once_all (r ∷ refusals) differ =
    ap (λ (rest : List Rejection). r ∷ rest)
    (ap (filter (λ (later : Rejection). not (eqb later.number r.number))) (once_all refusals differ.1) ∙ all_left r.number refusals differ.0)

pub items_refuse : (sent : List Sent) (effects : List Effect) (items : List ErrorItem) → AreNumberedFrom 0 sent → AreApart sent effects
    → ItemsFor sent effects items → refusals_of None sent items ≡ effects
unfolding refusals_of
items_refuse sent effects items numbered apart are =
    ap (λ (rs : List Rejection). map effect_of (once rs))
    (refused_all sent apart.refusals items numbered apart.pending (subst (λ (es : List Effect). ItemsFor sent es items) apart.are are))
    ∙ ap (map effect_of) (once_all apart.refusals apart.differ) ∙ sym apart.are

-- Came, errors
pub failures_make : (modes : List Mode) (end : End) (effects : List Effect) (items : List ErrorItem) (signal : Signal) (event : Event)
    → AreNumberedFrom 0 end.sent → AreRefusals effects → ItemsFor end.sent effects items → signal.ref_to ≡ None → signal.body ≡ body.Errors items
    → event.what ≡ what.Came (message.Signal signal) → IsMade modes end effects → Makes modes end event effects
failures_make modes end effects items signal event numbered are items_are refers tells asked made =
    let is = items_refuse end.sent effects items numbered (apart effects end are made.fits.fit) items_are in
    let outcome : Outcome = record { effects = effects; reply = reply.Quiet } in
    makes_by modes end event (what.Came (message.Signal signal)) effects outcome asked refl made.fits.room
    (subst (λ (b : SignalBody). SignalComes modes end event signal.id signal.ref_to b outcome) (sym tells)
    (rw refers (ap (λ (es : List Effect). record { effects = es; reply = reply.Quiet }) (sym is))))

pub no_failures : (modes : List Mode) (end : End) (effects : List Effect) → AreRefusals effects → (AreNamed end.sent effects → ⊥)
    → IsMade modes end effects → ⊥
no_failures modes end effects are none made =
    let a = apart effects end are made.fits.fit in
    none (subst (AreNamed end.sent) (sym a.are) (all_named end.sent a.refusals a.pending))

-- at most 256
pub few_refusals : (modes : List Mode) (end : End) (effects : List Effect) → AreRefusals effects → IsMade modes end effects → length effects ≤ 256
unfolding AreOfEvent
few_refusals modes end [] are made = omega arith
few_refusals modes end (effect.Refused number code ∷ effects) are made = let few = made.kind.1 in omega (arith, few)
few_refusals modes end (effect.Submitted s ∷ effects) are made = absurd are
few_refusals modes end (effect.Ticked t ∷ effects) are made = absurd are
few_refusals modes end (effect.Tried n ∷ effects) are made = absurd are
few_refusals modes end (effect.Delivered d ∷ effects) are made = absurd are
few_refusals modes end (effect.Receipted n ∷ effects) are made = absurd are
few_refusals modes end (effect.Confirmed n ∷ effects) are made = absurd are
few_refusals modes end (effect.Carried d ∷ effects) are made = absurd are
few_refusals modes end (effect.Kept d ∷ effects) are made = absurd are

-- one item more, and one effect that has none
pub item_more : (sent : List Sent) (effects : List Effect) (items : List ErrorItem) (number : ℕ) (code : List ℕ) (item : ErrorItem)
    → ItemsFor sent effects items → IsItemFor sent number code item
    → ItemsFor sent (effects ++ effect.Refused number code ∷ []) (items ++ item ∷ [])
item_more sent [] [] number code item are is = (is, tt)
item_more sent [] (i ∷ items) number code item are is = absurd are
item_more sent (effect.Refused n c ∷ effects) [] number code item are is = absurd are
item_more sent (effect.Refused n c ∷ effects) (i ∷ items) number code item are is =
    (are.0, item_more sent effects items number code item are.1 is)
item_more sent (effect.Submitted s ∷ effects) items number code item are is = absurd are
item_more sent (effect.Ticked t ∷ effects) items number code item are is = absurd are
item_more sent (effect.Tried n ∷ effects) items number code item are is = absurd are
item_more sent (effect.Delivered d ∷ effects) items number code item are is = absurd are
item_more sent (effect.Receipted n ∷ effects) items number code item are is = absurd are
item_more sent (effect.Confirmed n ∷ effects) items number code item are is = absurd are
item_more sent (effect.Carried d ∷ effects) items number code item are is = absurd are
item_more sent (effect.Kept d ∷ effects) items number code item are is = absurd are

pub item_next : (sent : List Sent) (effects : List Effect) (i : ℕ) (e : Effect) (item : ErrorItem) (items : List ErrorItem)
    → ItemsFor sent (take i effects) items → i < length effects → e ≡ get_or effects i e → IsItem sent e (Some item)
    → ItemsFor sent (take (i + 1) effects) (items ++ item ∷ [])
item_next sent effects i e item items are within at is =
    subst (λ (es : List Effect). ItemsFor sent es (items ++ item ∷ []))
    (sym (take_more effects i e within ∙ ap (λ (f : Effect). take i effects ++ f ∷ []) (sym at))) (by_kind e is)
  where
    by_kind : (f : Effect) → IsItem sent f (Some item) → ItemsFor sent (take i effects ++ f ∷ []) (items ++ item ∷ [])
    by_kind (effect.Refused n c) k = item_more sent (take i effects) items n c item are k
    by_kind (effect.Submitted s) k = absurd k
    by_kind (effect.Ticked t) k = absurd k
    by_kind (effect.Tried n) k = absurd k
    by_kind (effect.Delivered d) k = absurd k
    by_kind (effect.Receipted n) k = absurd k
    by_kind (effect.Confirmed n) k = absurd k
    by_kind (effect.Carried d) k = absurd k
    by_kind (effect.Kept d) k = absurd k

pub no_item : (sent : List Sent) (effects : List Effect) (i : ℕ) (e : Effect) → i < length effects → e ≡ get_or effects i e → IsItem sent e None
    → AreNamed sent effects → ⊥
no_item sent [] i e within at is named = absurd (omega arith)
no_item sent (effect.Refused n c ∷ effects) zero e within at is named = subst (λ (f : Effect). IsItem sent f None) at is named.0
no_item sent (effect.Refused n c ∷ effects) (suc i) e within at is named = no_item sent effects i e (omega arith) at is named.1
no_item sent (effect.Submitted s ∷ effects) i e within at is named = absurd named
no_item sent (effect.Ticked t ∷ effects) i e within at is named = absurd named
no_item sent (effect.Tried n ∷ effects) i e within at is named = absurd named
no_item sent (effect.Delivered d ∷ effects) i e within at is named = absurd named
no_item sent (effect.Receipted n ∷ effects) i e within at is named = absurd named
no_item sent (effect.Confirmed n ∷ effects) i e within at is named = absurd named
no_item sent (effect.Carried d ∷ effects) i e within at is named = absurd named
no_item sent (effect.Kept d ∷ effects) i e within at is named = absurd named

pub item_is : (sent : List Sent) (e : Effect) (number : ℕ) (code : List ℕ) (item : ErrorItem) → e ≡ effect.Refused number code
    → IsItemFor sent number code item → IsItem sent e (Some item)
item_is sent e number code item is for_it = subst (λ (f : Effect). IsItem sent f (Some item)) (sym is) for_it
