-- Two lists, place by place; and tests over lists, name by name.
use Rattle.std.proofs.Common.{◌≡◌, List, [], ◌∷◌, ◌++◌, Bool, true, false, not, ◌&&◌, ◌||◌, cond, refl, sym, ◌∙◌}
use Rattle.std.specs.List.{filter, list_all, list_any, AllByRecursion}
use Rattle.std.proofs.lemmas.Bool.{false≢true}
use Rattle.std.proofs.lemmas.List.Elements.{filter-append}
use Rattle.unit_laws.specs.Pairs.{Pairwise}

-- place by place

pub pairs_same : {X : Type 0} (R : X → X → Type 0) (xs : List X) → ((x : X) → R x x) → Pairwise R xs xs
pairs_same R [] same = tt
pairs_same R (x ∷ xs) same = (same x, pairs_same R xs same)

pub pairs_map : {X : Type 0} (R S : X → X → Type 0) (xs ys : List X) → ((x y : X) → R x y → S x y) → Pairwise R xs ys → Pairwise S xs ys
pairs_map R S [] [] more pairs = tt
pairs_map R S (x ∷ xs) (y ∷ ys) more pairs = (more x y pairs.0, pairs_map R S xs ys more pairs.1)
pairs_map R S [] (y ∷ ys) more pairs = absurd pairs
pairs_map R S (x ∷ xs) [] more pairs = absurd pairs

pub pairs_append : {X : Type 0} (R : X → X → Type 0) (xs ys us vs : List X) → Pairwise R xs ys → Pairwise R us vs → Pairwise R (xs ++ us) (ys ++ vs)
pairs_append R [] [] us vs first second = second
pairs_append R (x ∷ xs) (y ∷ ys) us vs first second = (first.0, pairs_append R xs ys us vs first.1 second)
pairs_append R [] (y ∷ ys) us vs first second = absurd first
pairs_append R (x ∷ xs) [] us vs first second = absurd first

-- one element in the place of another, which a test doesn't tell apart
pub pairs_filter : {X : Type 0} (R : X → X → Type 0) (p : X → Bool) (front back : List X) (a b : X) → ((x : X) → R x x) → R a b → p a ≡ p b
    → Pairwise R (filter p (front ++ a ∷ back)) (filter p (front ++ b ∷ back))
pairs_filter R p front back a b itself one same =
    rw (filter-append p front (a ∷ back), filter-append p front (b ∷ back))
    (pairs_append R (filter p front) (filter p front) _ _ (pairs_same R (filter p front) itself) (rw (← same) (by_test (p a))))
  where
    by_test : (c : Bool) → Pairwise R (cond c (a ∷ filter p back) (filter p back)) (cond c (b ∷ filter p back) (filter p back))
    by_test true = (one, pairs_same R (filter p back) itself)
    by_test false = pairs_same R (filter p back) itself

-- a fact about each element of the first list
pairs_with : {X : Type 0} (R : X → X → Type 0) (P : X → Type 0) (xs ys : List X) → Pairwise R xs ys → AllByRecursion P xs
    → Pairwise (λ x y. R x y × P x) xs ys
pairs_with R P [] [] pairs all = tt
pairs_with R P (x ∷ xs) (y ∷ ys) pairs all = ((pairs.0, all.0), pairs_with R P xs ys pairs.1 all.1)
pairs_with R P [] (y ∷ ys) pairs all = absurd pairs
pairs_with R P (x ∷ xs) [] pairs all = absurd pairs

-- what is filtered passes
passes : {X : Type 0} (p : X → Bool) (xs : List X) → AllByRecursion (λ x. p x ≡ true) (filter p xs)
passes p [] = tt
passes p (x ∷ xs) = by_test (p x) refl (passes p xs)
  where
    by_test : (b : Bool) → p x ≡ b → AllByRecursion (λ y. p y ≡ true) (filter p xs)
        → AllByRecursion (λ y. p y ≡ true) (cond b (x ∷ filter p xs) (filter p xs))
    by_test true is rest = (is, rest)
    by_test false is rest = rest

pub pairs_passed : {X : Type 0} (R : X → X → Type 0) (p : X → Bool) (xs ys : List X) → Pairwise R (filter p xs) (filter p ys)
    → Pairwise (λ x y. R x y × (p x ≡ true)) (filter p xs) (filter p ys)
pairs_passed R p xs ys pairs = pairs_with R (λ x. p x ≡ true) (filter p xs) (filter p ys) pairs (passes p xs)

-- a test that related elements pass alike
pub pairs_any : {X : Type 0} (R : X → X → Type 0) (q : X → Bool) (xs ys : List X) → ((x y : X) → R x y → q x ≡ q y) → Pairwise R xs ys
    → list_any q xs ≡ list_any q ys
pairs_any R q [] [] alike pairs = refl
pairs_any R q (x ∷ xs) (y ∷ ys) alike pairs = rw (alike x y pairs.0, pairs_any R q xs ys alike pairs.1) refl
pairs_any R q [] (y ∷ ys) alike pairs = absurd pairs
pairs_any R q (x ∷ xs) [] alike pairs = absurd pairs

-- name by name

both_ways : (b c : Bool) → (b ≡ true → c ≡ true) → (c ≡ true → b ≡ true) → b ≡ c
both_ways true c there back = sym (there refl)
both_ways false true there back = absurd (false≢true (back refl))
both_ways false false there back = refl

or_true : (a b : Bool) → b ≡ true → (a || b) ≡ true
or_true true b e = refl
or_true false b e = e

-- an element that passes: each filter that it passes leaves one that passes
pub record Passes {X : Type 0} (q : X → Bool) (xs : List X) : Type 0 where
  pub one : X
  pub is : q one ≡ true
  pub left : (p : X → Bool) → p one ≡ true → list_any q (filter p xs) ≡ true

find_any : {X : Type 0} (q : X → Bool) (xs : List X) → list_any q xs ≡ true → Passes q xs
find_any q [] some = absurd (false≢true some)
find_any {X} q (x ∷ xs) some = by_test (q x) refl some (find_any q xs)
  where
    first : q x ≡ true → (p : X → Bool) → p x ≡ true → list_any q (cond (p x) (x ∷ filter p xs) (filter p xs)) ≡ true
    first is p kept = rw (kept, is) refl

    later : (p : X → Bool) (b : Bool) → list_any q (filter p xs) ≡ true → list_any q (cond b (x ∷ filter p xs) (filter p xs)) ≡ true
    later p true found = or_true (q x) (list_any q (filter p xs)) found
    later p false found = found

    by_test : (b : Bool) → q x ≡ b → (b || list_any q xs) ≡ true → (list_any q xs ≡ true → Passes q xs) → Passes q (x ∷ xs)
    by_test true is found rest = record { one = x; is = is; left = first is }
    by_test false is found rest =
        let that = rest found in
        record { one = that.one; is = that.is; left = λ p kept. later p (p x) (that.left p kept) }

-- what passes after a filter passes
unfiltered : {X : Type 0} (q p : X → Bool) (xs : List X) → list_any q (filter p xs) ≡ true → list_any q xs ≡ true
unfiltered q p [] some = absurd (false≢true some)
unfiltered q p (x ∷ xs) some = by_test (p x) (q x) refl some (unfiltered q p xs)
  where
    by_test : (b c : Bool) → q x ≡ c → list_any q (cond b (x ∷ filter p xs) (filter p xs)) ≡ true
        → (list_any q (filter p xs) ≡ true → list_any q xs ≡ true) → (c || list_any q xs) ≡ true
    by_test b true is found rest = refl
    by_test true false is found rest = rest (rw is at found)
    by_test false false is found rest = rest found

-- a test over two lists agrees where it agrees on the elements of each name
pub any_by_name : {X : Type 0} (q : X → Bool) (same_name : X → X → Bool) (xs ys : List X) → ((x : X) → q x ≡ true → same_name x x ≡ true)
    → ((x : X) → list_any q (filter (same_name x) xs) ≡ list_any q (filter (same_name x) ys)) → list_any q xs ≡ list_any q ys
any_by_name {X} q same_name xs ys itself same = both_ways (list_any q xs) (list_any q ys) (one_way xs ys same) (one_way ys xs (λ x. sym (same x)))
  where
    one_way : (us vs : List X) → ((x : X) → list_any q (filter (same_name x) us) ≡ list_any q (filter (same_name x) vs)) → list_any q us ≡ true
        → list_any q vs ≡ true
    one_way us vs agree some =
        let one = find_any q us some in
        unfiltered q (same_name one.one) vs (sym (agree one.one) ∙ one.left (same_name one.one) (itself one.one one.is))

-- each passes where none fails
pub all_by_any : {X : Type 0} (p : X → Bool) (xs : List X) → list_all p xs ≡ not (list_any (λ x. not (p x)) xs)
all_by_any p [] = refl
all_by_any p (x ∷ xs) = by_test (p x) (all_by_any p xs)
  where
    by_test : (b : Bool) → list_all p xs ≡ not (list_any (λ y. not (p y)) xs) → (b && list_all p xs) ≡ not (not b || list_any (λ y. not (p y)) xs)
    by_test true rest = rest
    by_test false rest = refl
