-- One more error item: one more refusal at the end, or none.
use Rattle.std.proofs.Common.{◌≡◌, ℕ, ◌+◌, ◌<◌, List, [], ◌∷◌, ◌++◌, Bool, true, false, cond, eqb, Option, Some, None, option_map, length, get_or, take, map, refl, ap, sym, ◌∙◌, inl, inr}
use Rattle.std.specs.Prelude.{◌||◌}
use Rattle.std.specs.List.{filter, filter_map, list_any}
use Rattle.std.specs.Option.{option_and_then, option_or}
use Rattle.std.proofs.lemmas.Bool.{cases_Bool, eqb-true, eq-eqb, ne_eqb}
use Rattle.std.proofs.lemmas.List.{append-nil, map-append, take_more}
use Rattle.std.proofs.lemmas.List.Elements.{filter-append, filter_map-append}
use Rattle.std.proofs.lemmas.Option.{same_Some}
use Rattle.as4_effects.specs.declared.effect.Effect.{Effect}
use Rattle.as4_effects.specs.declared.effect.Effect.TheVariants.{Refused}
use Rattle.as4_values.specs.declared.signal_body.ErrorItem.{ErrorItem}
use Rattle.as4_values.specs.declared.signal_body.Severity.{Severity}
use Rattle.as4_values.specs.declared.signal_body.Severity.TheVariants.{Failure, Warning}
use Rattle.exchange_model.specs.Questions.{is_pending, sent_of}
use Rattle.exchange_model.specs.Refusing.{Rejection, once, refusal_by, refusal_of, refusal_with, refusals_of}
use Rattle.exchange_model.specs.declared.sent.Sent.{Sent}
use Rattle.msh_transitions.proofs.FitLemmas.{effect_of, is_other}
use Rattle.msh_transitions.specs.Naming.{has_number}

-- one of the refusals has this number
abbrev has : ℕ → List Rejection → Bool
has number refusals = list_any (λ (r : Rejection). eqb r.number number) refusals

turned : (a b : ℕ) (v : Bool) → eqb a b ≡ v → eqb b a ≡ v
turned a b true e = eq-eqb b a (sym (eqb-true a b e))
turned a b false e = ne_eqb b a (λ same. let f : true ≡ false = sym (eq-eqb a b (sym same)) ∙ e in cc)

-- a number remains when others are removed
has_left : (n m : ℕ) (refusals : List Rejection) → eqb m n ≡ false → has n (filter (is_other m) refusals) ≡ has n refusals
has_left n m [] d = refl
has_left n m (r ∷ refusals) d =
    elim (cases_Bool (eqb r.number m)) [
      | inl e ↦
          let other : eqb r.number n ≡ false = ap (λ k. eqb k n) (eqb-true r.number m e) ∙ d in
          rw (e, other) (has_left n m refusals d)
      | inr e ↦ rw e (ap (λ b. eqb r.number n || b) (has_left n m refusals d))
    ]

-- one more at the end, if its number isn't there
abbrev with_one : Rejection → List Rejection → List Rejection
with_one r refusals = cond (has r.number refusals) refusals (refusals ++ r ∷ [])

same_left : (q r : Rejection) (refusals : List Rejection) → eqb q.number r.number ≡ true
    → filter (is_other q.number) (with_one r refusals) ≡ filter (is_other q.number) refusals
same_left q r refusals e =
    elim (has r.number refusals) as (λ b. filter (is_other q.number) (cond b refusals (refusals ++ r ∷ [])) ≡ filter (is_other q.number) refusals) [
      | true ↦ refl
      | false ↦ filter-append (is_other q.number) refusals (r ∷ [])
          ∙ rw (turned q.number r.number true e) (append-nil (filter (is_other q.number) refusals))
    ]

other_left : (q r : Rejection) (refusals : List Rejection) → eqb q.number r.number ≡ false
    → filter (is_other q.number) (with_one r refusals)
    ≡ cond (has r.number refusals) (filter (is_other q.number) refusals) (filter (is_other q.number) refusals ++ r ∷ [])
other_left q r refusals e =
    elim (has r.number refusals) as (λ b. filter (is_other q.number) (cond b refusals (refusals ++ r ∷ []))
    ≡ cond b (filter (is_other q.number) refusals) (filter (is_other q.number) refusals ++ r ∷ [])) [
      | true ↦ refl
      | false ↦ filter-append (is_other q.number) refusals (r ∷ []) ∙ rw (turned q.number r.number false e) refl
    ]

cons_cond : (b : Bool) (q : Rejection) (xs ys : List Rejection) → q ∷ cond b xs ys ≡ cond b (q ∷ xs) (q ∷ ys)
cons_cond true q xs ys = refl
cons_cond false q xs ys = refl

one_behind : (q r : Rejection) (refusals : List Rejection)
    → q ∷ filter (is_other q.number) (with_one r refusals) ≡ with_one r (q ∷ filter (is_other q.number) refusals)
one_behind q r refusals =
    elim (cases_Bool (eqb q.number r.number)) [
      | inl e ↦ rw e (ap (λ (xs : List Rejection). q ∷ xs) (same_left q r refusals e))
      | inr e ↦ rw (e, has_left r.number q.number refusals e)
          (ap (λ (xs : List Rejection). q ∷ xs) (other_left q r refusals e)
          ∙ cons_cond (has r.number refusals) q (filter (is_other q.number) refusals) (filter (is_other q.number) refusals ++ r ∷ []))
    ]

once_more : (refusals : List Rejection) (r : Rejection) → once (refusals ++ r ∷ []) ≡ with_one r (once refusals)
unfolding once
once_more [] r = refl
once_more (q ∷ refusals) r =
    ap (λ (xs : List Rejection). q ∷ filter (is_other q.number) xs) (once_more refusals r) ∙ one_behind q r (once refusals)

-- the numbers in the effects are those in the refusals
has_effect : (n : ℕ) (refusals : List Rejection) → list_any (has_number n) (map effect_of refusals) ≡ has n refusals
has_effect n [] = refl
has_effect n (r ∷ refusals) = ap (λ b. eqb r.number n || b) (has_effect n refusals)

-- the refusals of the first items
abbrev first : Option (List ℕ) → List Sent → ℕ → List ErrorItem → List Rejection
first ref_to sent i items = filter_map (refusal_of ref_to sent) (take i items)

first_more : (ref_to : Option (List ℕ)) (sent : List Sent) (i : ℕ) (items : List ErrorItem) (d : ErrorItem) → i < length items
    → first ref_to sent (i + 1) items ≡ first ref_to sent i items ++ filter_map (refusal_of ref_to sent) (get_or items i d ∷ [])
first_more ref_to sent i items d l =
    ap (filter_map (refusal_of ref_to sent)) (take_more items i d l)
    ∙ filter_map-append (refusal_of ref_to sent) (take i items) (get_or items i d ∷ [])

-- an item that refuses none
none_more : (ref_to : Option (List ℕ)) (sent : List Sent) (i : ℕ) (items : List ErrorItem) (d : ErrorItem) → i < length items
    → refusal_of ref_to sent (get_or items i d) ≡ None
    → refusals_of ref_to sent (take (i + 1) items) ≡ refusals_of ref_to sent (take i items)
unfolding refusals_of
none_more ref_to sent i items d l e =
    ap (λ (xs : List Rejection). map effect_of (once xs))
    (first_more ref_to sent i items d l ∙ rw e (append-nil (first ref_to sent i items)))

one_first : (ref_to : Option (List ℕ)) (sent : List Sent) (i : ℕ) (items : List ErrorItem) (d : ErrorItem) (r : Rejection) → i < length items
    → refusal_of ref_to sent (get_or items i d) ≡ Some r
    → once (first ref_to sent (i + 1) items) ≡ with_one r (once (first ref_to sent i items))
one_first ref_to sent i items d r l e =
    ap once (first_more ref_to sent i items d l ∙ rw e refl) ∙ once_more (first ref_to sent i items) r

-- an item that refuses an already refused submission
had_more : (ref_to : Option (List ℕ)) (sent : List Sent) (i : ℕ) (items : List ErrorItem) (d : ErrorItem) (r : Rejection) → i < length items
    → refusal_of ref_to sent (get_or items i d) ≡ Some r
    → list_any (has_number r.number) (refusals_of ref_to sent (take i items)) ≡ true
    → refusals_of ref_to sent (take (i + 1) items) ≡ refusals_of ref_to sent (take i items)
unfolding refusals_of
had_more ref_to sent i items d r l e had =
    let there : has r.number (once (first ref_to sent i items)) ≡ true = sym (has_effect r.number (once (first ref_to sent i items))) ∙ had in
    ap (map effect_of) (one_first ref_to sent i items d r l e ∙ rw there refl)

-- an item that refuses one more
one_more : (ref_to : Option (List ℕ)) (sent : List Sent) (i : ℕ) (items : List ErrorItem) (d : ErrorItem) (r : Rejection) → i < length items
    → refusal_of ref_to sent (get_or items i d) ≡ Some r
    → list_any (has_number r.number) (refusals_of ref_to sent (take i items)) ≡ false
    → refusals_of ref_to sent (take (i + 1) items) ≡ refusals_of ref_to sent (take i items) ++ Refused r.number r.code ∷ []
unfolding refusals_of
one_more ref_to sent i items d r l e had =
    let there : has r.number (once (first ref_to sent i items)) ≡ false = sym (has_effect r.number (once (first ref_to sent i items))) ∙ had in
    ap (map effect_of) (one_first ref_to sent i items d r l e ∙ rw there refl)
    ∙ map-append effect_of (once (first ref_to sent i items)) (r ∷ [])

abbrev number_of : Option Rejection → Option ℕ
number_of o = option_map (λ (r : Rejection). r.number) o

no_refusal : (o : Option Rejection) → None ≡ number_of o → o ≡ None
no_refusal None e = refl
no_refusal (Some r) e = cc

-- a refusal has its error's code
code_with : (code : List ℕ) (o : Option Sent) (n : ℕ) → Some n ≡ number_of (option_and_then (refusal_with code) o)
    → option_and_then (refusal_with code) o ≡ Some (record { number = n; code = code })
code_with code None n e = cc
code_with code (Some s) n e =
    let r : Rejection = record { number = s.submission.number; code = code } in
    let by : Bool → Option Rejection = λ b. cond b (Some r) None in
    (elim (is_pending s) as (λ b. Some n ≡ number_of (by b) → by b ≡ Some (record { number = n; code = code })) [
      | true ↦ λ f. ap (λ (k : ℕ). let q : Rejection = record { number = k; code = code } in Some q) (sym (same_Some n s.submission.number f))
      | false ↦ λ f. cc
    ]) e

code_by : (severity : Severity) (code : List ℕ) (about : Option (List ℕ)) (sent : List Sent) (n : ℕ)
    → Some n ≡ number_of (refusal_by severity code about sent)
    → refusal_by severity code about sent ≡ Some (record { number = n; code = code })
code_by Warning code about sent n e = cc
code_by Failure code about sent n e = code_with code (option_and_then (λ id. sent_of id sent) about) n e

-- the effects so far, at the next item
pub record IsNext (ref_to : Option (List ℕ)) (sent : List Sent) (items : List ErrorItem) (i : ℕ) (item : ErrorItem) (effects : List Effect) : Type 0 where
  pub within : i < length items
  pub is : item ≡ get_or items i item
  pub so_far : effects ≡ refusals_of ref_to sent (take i items)

-- an item that refuses none
pub refuses_none : (ref_to : Option (List ℕ)) (sent : List Sent) (items : List ErrorItem) (i : ℕ) (item : ErrorItem) (effects : List Effect)
    → IsNext ref_to sent items i item effects → None ≡ number_of (refusal_of ref_to sent item)
    → effects ≡ refusals_of ref_to sent (take (i + 1) items)
refuses_none ref_to sent items i item effects next e =
    next.so_far ∙ sym (none_more ref_to sent i items item next.within (ap (refusal_of ref_to sent) (sym next.is) ∙ no_refusal _ e))

item_refusal : (ref_to : Option (List ℕ)) (sent : List Sent) (items : List ErrorItem) (i : ℕ) (item : ErrorItem) (effects : List Effect) (n : ℕ)
    → IsNext ref_to sent items i item effects → Some n ≡ number_of (refusal_of ref_to sent item)
    → refusal_of ref_to sent (get_or items i item) ≡ Some (record { number = n; code = item.code })
item_refusal ref_to sent items i item effects n next e =
    ap (refusal_of ref_to sent) (sym next.is) ∙ code_by item.severity item.code (option_or item.about ref_to) sent n e

-- an item that refuses an already refused submission
pub refuses_again : (ref_to : Option (List ℕ)) (sent : List Sent) (items : List ErrorItem) (i : ℕ) (item : ErrorItem) (effects : List Effect) (n : ℕ)
    → IsNext ref_to sent items i item effects → Some n ≡ number_of (refusal_of ref_to sent item)
    → list_any (has_number n) effects ≡ true
    → effects ≡ refusals_of ref_to sent (take (i + 1) items)
refuses_again ref_to sent items i item effects n next e had =
    next.so_far ∙ sym (had_more ref_to sent i items item (record { number = n; code = item.code }) next.within
    (item_refusal ref_to sent items i item effects n next e) (sym (ap (list_any (has_number n)) next.so_far) ∙ had))

-- an item that refuses one more
pub refuses_one : (ref_to : Option (List ℕ)) (sent : List Sent) (items : List ErrorItem) (i : ℕ) (item : ErrorItem) (effects : List Effect) (n : ℕ)
    → IsNext ref_to sent items i item effects → Some n ≡ number_of (refusal_of ref_to sent item)
    → list_any (has_number n) effects ≡ false
    → effects ++ Refused n item.code ∷ [] ≡ refusals_of ref_to sent (take (i + 1) items)
refuses_one ref_to sent items i item effects n next e had =
    ap (λ (xs : List Effect). xs ++ Refused n item.code ∷ []) next.so_far
    ∙ sym (one_more ref_to sent i items item (record { number = n; code = item.code }) next.within
    (item_refusal ref_to sent items i item effects n next e) (sym (ap (list_any (has_number n)) next.so_far) ∙ had))

-- before the first item
pub refuses_first : (ref_to : Option (List ℕ)) (sent : List Sent) → refusals_of ref_to sent [] ≡ []
unfolding refusals_of once
refuses_first ref_to sent = refl
