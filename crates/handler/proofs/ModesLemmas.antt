-- The modes by which a handler pulls, and why it has none.
use Rattle.std.proofs.Common.{◌≡◌, ◌≢◌, ◌≤◌, ◌<◌, ℕ, zero, suc, Bool, true, false, List, [], ◌∷◌, ◌++◌, Option, Some, None, Result, Ok, Err, IfErr, filter, length, map, slice_get, take, if◌then◌else◌, refl, sym, ap, subst, ◌∙◌, inr, arith, append-nil}
use Rattle.std.proofs.lemmas.List.{map-append}
use Rattle.std.proofs.lemmas.List.Elements.{filter-append}
use Rattle.as4_flow.specs.Flow.{Told}
use Rattle.handler.specs.Endings.{EndsUnread, IsReadingCause}
use Rattle.handler.specs.Handling.{pulled}
use Rattle.handler.specs.declared.ending.HandlerEnd.{HandlerEnd}
use Rattle.mode_values.specs.declared.mode.Mode.{Mode}
use Rattle.pmodes.specs.ModeFile.{modes_of_file}
use Rattle.pmodes.specs.declared.refusal.ModeRefusal.{ModeRefusal}
use Rattle.pmodes.specs.declared.refusal.ModeRefusal.TheVariants as modes

-- the names of those with `collect`
abbrev collected : List Mode → List (List ℕ)
collected all = map (λ (m : Mode). m.name) (filter (λ (m : Mode). m.collect) all)

collected_more : (all : List Mode) (mode : Mode) → collected (all ++ mode ∷ []) ≡ collected all ++ collected (mode ∷ [])
collected_more all mode =
    ap (map (λ (m : Mode). m.name)) (filter-append (λ (m : Mode). m.collect) all (mode ∷ [])) ∙ map-append (λ (m : Mode). m.name) (filter (λ (m : Mode). m.collect) all) (filter (λ (m : Mode). m.collect) (mode ∷ []))

two_more : (names : List (List ℕ)) (name : List ℕ) → length (take 2 names) < 2 → take 2 (names ++ name ∷ []) ≡ take 2 names ++ name ∷ []
two_more [] name few = refl
two_more (a ∷ []) name few = refl
two_more (a ∷ b ∷ names) name few = absurd (omega (arith, few))

two_enough : (names more : List (List ℕ)) → 2 ≤ length (take 2 names) → take 2 (names ++ more) ≡ take 2 names
two_enough [] more many = absurd (omega (arith, many))
two_enough (a ∷ []) more many = absurd (omega (arith, many))
two_enough (a ∷ b ∷ names) more many = refl

one_taken : (all : List Mode) (n : ℕ) (mode : Mode) → slice_get all n ≡ Some mode → take (suc n) all ≡ take n all ++ mode ∷ []
one_taken [] n mode is = absurd cc
one_taken (m ∷ all) zero mode is = ap (λ x. x ∷ []) (let same : m ≡ mode = cc in same)
one_taken (m ∷ all) (suc n) mode is = ap (λ l. m ∷ l) (one_taken all n mode is)

all_taken : (all : List Mode) (n : ℕ) → slice_get all n ≡ None → take n all ≡ all
all_taken [] zero none = refl
all_taken [] (suc n) none = refl
all_taken (m ∷ all) zero none = absurd cc
all_taken (m ∷ all) (suc n) none = ap (λ l. m ∷ l) (all_taken all n none)

-- one more mode with `collect`
pub pulled_with : (all : List Mode) (n : ℕ) (mode : Mode) → slice_get all n ≡ Some mode → mode.collect ≡ true → length (pulled (take n all)) < 2
    → pulled (take (suc n) all) ≡ pulled (take n all) ++ mode.name ∷ []
pulled_with all n mode is collects few =
    let one : collected (mode ∷ []) ≡ mode.name ∷ [] = ap (λ (b : Bool). map (λ (m : Mode). m.name) (if b then mode ∷ [] else [])) collects in
    ap pulled (one_taken all n mode is) ∙ ap (take 2) (collected_more (take n all) mode ∙ ap (λ l. collected (take n all) ++ l) one)
    ∙ two_more (collected (take n all)) mode.name few

-- one more mode without, or when there are two
pub pulled_without : (all : List Mode) (n : ℕ) (mode : Mode) → slice_get all n ≡ Some mode → mode.collect ≡ false
    → pulled (take (suc n) all) ≡ pulled (take n all)
pulled_without all n mode is collects =
    let none : collected (mode ∷ []) ≡ [] = ap (λ (b : Bool). map (λ (m : Mode). m.name) (if b then mode ∷ [] else [])) collects in
    ap pulled (one_taken all n mode is) ∙ ap (take 2) (collected_more (take n all) mode ∙ ap (λ l. collected (take n all) ++ l) none ∙ append-nil (collected (take n all)))

pub pulled_enough : (all : List Mode) (n : ℕ) (mode : Mode) → slice_get all n ≡ Some mode → 2 ≤ length (pulled (take n all))
    → pulled (take (suc n) all) ≡ pulled (take n all)
pulled_enough all n mode is many =
    ap pulled (one_taken all n mode is) ∙ ap (take 2) (collected_more (take n all) mode) ∙ two_enough (collected (take n all)) (collected (mode ∷ [])) many

pub pulled_all : (all : List Mode) (n : ℕ) → slice_get all n ≡ None → pulled (take n all) ≡ pulled all
pulled_all all n none = ap pulled (all_taken all n none)

pub few_pulled : (all : List Mode) → length (pulled all) ≤ 2
few_pulled all = at_most (collected all) where
  at_most : (names : List (List ℕ)) → length (take 2 names) ≤ 2
  at_most [] = omega arith
  at_most (a ∷ []) = omega arith
  at_most (a ∷ b ∷ names) = omega arith

-- why no modes were read
pub unread_cause : (read : Result (List Mode) ModeRefusal) (result : Result (List Mode) HandlerEnd) (bytes : List ℕ) (file : Option (Option (List ℕ))) (before after : ℕ)
    → EndsUnread read result → IfErr read (λ e. e ≢ modes.NoMemory → modes_of_file bytes ≡ Err e) → Told file (λ held. held ≡ Some bytes)
    → IfErr result (IsReadingCause file before after)
unread_cause (Ok all) result bytes file before after is refused told = subst (λ r. IfErr r (IsReadingCause file before after)) (sym is) tt
unread_cause (Err modes.NoMemory) result bytes file before after is refused told = subst (λ r. IfErr r (IsReadingCause file before after)) (sym is) tt
unread_cause (Err other) result bytes file before after is refused told =
    subst (λ r. IfErr r (IsReadingCause file before after)) (sym is) (λ held was. inr (bytes, told held was, inr (other, refused (λ wrong. absurd cc))))

-- all of them were looked at
pub pulled_whole : (all : List Mode) (n : ℕ) → length all ≤ n → pulled (take n all) ≡ pulled all
pulled_whole all n within = ap pulled (whole all n within) where
  whole : (all : List Mode) (n : ℕ) → length all ≤ n → take n all ≡ all
  whole [] zero within = refl
  whole [] (suc n) within = refl
  whole (m ∷ all) zero within = absurd (omega (arith, within))
  whole (m ∷ all) (suc n) within = ap (λ l. m ∷ l) (whole all n (omega (arith, within)))
