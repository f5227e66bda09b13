-- Modes with different names form a valid list.
use Rattle.std.proofs.Common.{◌≡◌, ◌≢◌, ℕ, zero, suc, ◌<◌, ◌≤◌, List, [], ◌∷◌, ◌++◌, Bool, false, None, length, length-append, append_assoc, get_or, map, refl, sym, ◌∙◌, ap, arith, lit≤}
use Rattle.std.specs.List.{All, AllPairs, find}
use Rattle.std.specs.Str.{bytes_eq}
use Rattle.std.proofs.Math.Seq.{get_or-append_seam}
use Rattle.std.proofs.lemmas.Bool.{false_from_ne_true}
use Rattle.std.proofs.lemmas.List.{get_or_append_left}
use Rattle.std.proofs.lemmas.Slice.Eq.{bytes_eq-Decides}
use Rattle.mode_values.specs.ModeFields.{mode_fields}
use Rattle.mode_values.specs.ModeMatch.{Terms, mode_terms, are_same_terms}
use Rattle.mode_values.specs.declared.mode.Mode.{Mode}
use Rattle.mode_values.proofs.MatchLemmas.{decides_terms}
use Rattle.pmodes.specs.ModeList.{first_repeat, list_refusal}
use Rattle.pmodes.proofs.ListLemmas.{not_refused}
use Rattle.drill_texts.specs.Modes.{AreDrillModes, IsSomeDrillMode}

none_found : {X : Type 0} (p : X → Bool) (xs : List X) → All (λ x. p x ≡ false) xs → find p xs ≡ None
none_found p [] each = refl
none_found p (x ∷ xs) each = rw (each 0 x (omega arith)) (none_found p xs (λ k d within. each (suc k) d (omega arith)))

-- none of `later` repeats an earlier one
no_repeat_from : {X : Type 0} (repeats : X → X → Bool) (earlier later : List X)
    → ((i j : ℕ) (d : X) → i < j → length earlier ≤ j → j < length (earlier ++ later) → repeats (get_or (earlier ++ later) i d) (get_or (earlier ++ later) j d) ≡ false)
    → first_repeat repeats earlier later ≡ None
no_repeat_from repeats earlier [] apart = refl
no_repeat_from {X} repeats earlier (x ∷ later) apart =
    let within : length earlier < length (earlier ++ x ∷ later) = rw length-append (omega arith) in
    let here : find (λ (a : X). repeats a x) earlier ≡ None =
    none_found (λ (a : X). repeats a x) earlier
    (λ k d below. rw (get_or-append_seam earlier x later d, get_or_append_left earlier (x ∷ later) d k below) at (apart k (length earlier) d below (omega arith) within)) in
    rw here
    (no_repeat_from repeats (earlier ++ x ∷ []) later
    (λ i j d before from short.
    let longer : length earlier ≤ j = omega (arith, length-append earlier (x ∷ [])) in
    let shorter : j < length (earlier ++ x ∷ later) = rw append_assoc at short in
    rw append_assoc (apart i j d before longer shorter)))

no_repeat : {X : Type 0} (repeats : X → X → Bool) (xs : List X) → AllPairs (λ a b. repeats a b ≡ false) xs → None ≡ first_repeat repeats [] xs
no_repeat repeats xs apart = sym (no_repeat_from repeats [] xs (λ i j d before _ short. apart i j d before short))

acts_by_name : (mode : Mode) → IsSomeDrillMode mode → mode.name ≡ mode.action
acts_by_name mode is = is.5.named ∙ sym is.5.action

apart_by_name : (a b : Mode) → IsSomeDrillMode a → IsSomeDrillMode b → a.name ≢ b.name → are_same_terms (mode_terms a) (mode_terms b) ≡ false
apart_by_name a b is_one is_other differ =
    false_from_ne_true _ (λ same.
    let terms : mode_terms a ≡ mode_terms b = (decides_terms _ _).0 same in
    differ (acts_by_name a is_one ∙ ap (λ (t : Terms). t.action) terms ∙ sym (acts_by_name b is_other)))

-- the modes of a script are a valid list
pub drill_modes_stand : (modes : List Mode) → AreDrillModes modes → list_refusal (map mode_fields modes) ≡ None
drill_modes_stand modes are =
    not_refused modes are.counted
    (no_repeat (λ (x y : Mode). bytes_eq x.name y.name) modes
    (λ i j d before short. false_from_ne_true _ (λ same. are.named i j d before short ((bytes_eq-Decides _ _).0 same))))
    (no_repeat (λ (x y : Mode). are_same_terms (mode_terms x) (mode_terms y)) modes
    (λ i j d before short. apart_by_name (get_or modes i d) (get_or modes j d) (are.made i d (omega arith)) (are.made j d short) (are.named i j d before short)))

two_made : (a b : Mode) → IsSomeDrillMode a → IsSomeDrillMode b → All IsSomeDrillMode (a ∷ b ∷ [])
two_made a b one other zero d short = one
two_made a b one other (suc zero) d short = other
two_made a b one other (suc (suc k)) d short = absurd (omega arith)

two_named : (a b : Mode) → a.name ≢ b.name → AllPairs (λ (x y : Mode). x.name ≢ y.name) (a ∷ b ∷ [])
two_named a b differ i zero d before short = absurd (omega arith)
two_named a b differ zero (suc zero) d before short = differ
two_named a b differ (suc i) (suc zero) d before short = absurd (omega arith)
two_named a b differ i (suc (suc j)) d before short = absurd (omega arith)

-- two drill modes with different names are the modes of a script
pub two_are_modes : (a b : Mode) → IsSomeDrillMode a → IsSomeDrillMode b → a.name ≢ b.name → AreDrillModes (a ∷ b ∷ [])
two_are_modes a b one other differ = record { counted = lit≤ tt; made = two_made a b one other; named = two_named a b differ }
