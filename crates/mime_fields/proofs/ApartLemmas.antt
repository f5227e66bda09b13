-- Sorted names are distinct if each differs from the next.
use Rattle.std.proofs.Common.{◌≡◌, ℕ, ◌+◌, ◌<◌, ◌≤◌, Bool, true, false, not, ◌||◌, List, [], ◌∷◌, map, length, get_or, take, refl, sym, ap, ◌∙◌, arith, Ordering, Vec, Global}
use Rattle.std.proofs.lemmas.Bool.{and_parts}
use Rattle.std.proofs.lemmas.Cmp.{nat_list_cmp_total, on_total}
use Rattle.std.proofs.lemmas.List.{take_all}
use Rattle.std.proofs.lemmas.List.Sorted.{IsPermutation-sym}
use Rattle.std.proofs.lemmas.Map.Keys.{sorted_from_all_adjacent, IsDistinct-from_sorted, IsDistinct-from_apart, apart_from_distinct, IsDistinct-IsPermutation}
use Rattle.std.proofs.lemmas.Map.Text.{is_eq-slice_cmp}
use Rattle.std.proofs.lemmas.Slice.Eq.{bytes_eq-Decides}
use Rattle.std.specs.Cmp.{IsTotalOrder}
use Rattle.std.specs.Cmp.Lexicographic.{slice_cmp}
use Rattle.std.specs.List.{AllByRecursion, list_any, IsDistinct}
use Rattle.std.specs.List.Sorted.{IsPermutation, IsSorted}
use Rattle.std.specs.Ordering.{nat_cmp, eq_by_cmp, is_eq, is_lt, on, ordering_reverse}
use Rattle.std.specs.declared.cmp.Ordering.TheVariants.{Less, Equal, Greater}
use Rattle.std.specs.Prelude.{◌↔◌, IsTrue, bytes_eq}
use Rattle.std.specs.Str.{str_to_ascii_lowercase}
use Rattle.mime_fields.specs.MediaTypes.{Parameter, is_named, names_differ}
use Rattle.mime_fields.specs.declared.media_type.Parameter.{Parameter as LentParameter}
use Rattle.mime_fields.specs.Lent.{parameter_of}

abbrev pub items_of : Vec ℕ Global → List ℕ
items_of name = name.items

abbrev pub lower_name : Parameter → List ℕ
lower_name p = str_to_ascii_lowercase p.name

-- whether two have the same name
abbrev alike : {X : Type 0} → (X → List ℕ) → X → X → Bool
alike name a b = bytes_eq (name a) (name b)

abbrev name_cmp : {X : Type 0} → (X → List ℕ) → X → X → Ordering
name_cmp name = on name (slice_cmp nat_cmp)

name_total : {X : Type 0} (name : X → List ℕ) → IsTotalOrder (name_cmp name)
name_total name = on_total name nat_list_cmp_total

tied_alike : {X : Type 0} (name : X → List ℕ) (a b : X) → eq_by_cmp (name_cmp name) a b ≡ alike name a b
tied_alike name a b = is_eq-slice_cmp (name a) (name b)

both_true : (x y : Bool) → (x ≡ true → y ≡ true) → (y ≡ true → x ≡ true) → x ≡ y
both_true true y to back = sym (to refl)
both_true false true to back = back refl
both_true false false to back = refl

eq_flips : (a b : List ℕ) → bytes_eq a b ≡ bytes_eq b a
eq_flips a b = both_true (bytes_eq a b) (bytes_eq b a)
    (λ is. (bytes_eq-Decides b a).1 (sym ((bytes_eq-Decides a b).0 is))) (λ is. (bytes_eq-Decides a b).1 (sym ((bytes_eq-Decides b a).0 is)))

-- ---- by name

-- items whose names differ, and the names themselves

apart-map : {X : Type 0} (name : X → List ℕ) (x : X) (xs : List X) → AllByRecursion (λ y. bytes_eq (name x) y ≡ false) (map name xs) → AllByRecursion (λ y. alike name x y ≡ false) xs
apart-map name x [] apart = tt
apart-map name x (y ∷ xs) apart = (apart.0, apart-map name x xs apart.1)

map-apart : {X : Type 0} (name : X → List ℕ) (x : X) (xs : List X) → AllByRecursion (λ y. alike name x y ≡ false) xs → AllByRecursion (λ y. bytes_eq (name x) y ≡ false) (map name xs)
map-apart name x [] apart = tt
map-apart name x (y ∷ xs) apart = (apart.0, map-apart name x xs apart.1)

distinct-map : {X : Type 0} (name : X → List ℕ) (xs : List X) → IsDistinct bytes_eq (map name xs) → IsDistinct (alike name) xs
unfolding IsDistinct
distinct-map name [] distinct = tt
distinct-map name (x ∷ xs) distinct = (apart-map name x xs distinct.0, distinct-map name xs distinct.1)

map-distinct : {X : Type 0} (name : X → List ℕ) (xs : List X) → IsDistinct (alike name) xs → IsDistinct bytes_eq (map name xs)
unfolding IsDistinct
map-distinct name [] distinct = tt
map-distinct name (x ∷ xs) distinct = (map-apart name x xs distinct.0, map-distinct name xs distinct.1)

-- ---- an order that is neither greater nor equal is less

by_order : (one other : Ordering) → other ≡ ordering_reverse one → is_lt other ≡ false → is_eq one ≡ false → one ≡ Less
by_order Less other back up apart = refl
by_order Equal other back up apart = absurd cc
by_order Greater other back up apart = let less : is_lt other ≡ true = ap is_lt back in absurd cc

next_less : {X : Type 0} (name : X → List ℕ) (a b : X) → is_lt (name_cmp name b a) ≡ false → alike name a b ≡ false → name_cmp name a b ≡ Less
next_less name a b up apart = by_order (name_cmp name a b) (name_cmp name b a) ((name_total name).antisymm b a) up (tied_alike name a b ∙ apart)

-- each name up to this place differs from the next
abbrev pub NextDiffer : {X : Type 0} → (X → List ℕ) → List X → ℕ → Type 0
NextDiffer {X} name names most = (k : ℕ) (d : X) → k + 1 < most → alike name (get_or names k d) (get_or names (k + 1) d) ≡ false

sorted_differ : {X : Type 0} (name : X → List ℕ) (names : List X) → IsSorted (name_cmp name) names → NextDiffer name names (length names) → IsDistinct (alike name) names
unfolding IsDistinct
sorted_differ name [] up next = tt
sorted_differ {X} name (d ∷ rest) up next =
    let names : List X = d ∷ rest in
    let strict = sorted_from_all_adjacent (name_total name) names d (λ k short. next_less name (get_or names k d) (get_or names (k + 1) d) (up k d (omega arith) short) (next k d short)) in
    let apart = IsDistinct-from_sorted (name_cmp name) names strict in
    IsDistinct-from_apart (alike name) names (λ i j e less short. sym (tied_alike name (get_or names i e) (get_or names j e)) ∙ apart_from_distinct (eq_by_cmp (name_cmp name)) names i j e apart less short)

pub all_apart : {X : Type 0} (name : X → List ℕ) (names sorted : List X) → IsPermutation names sorted → IsSorted (name_cmp name) sorted → NextDiffer name sorted (length sorted) → IsDistinct bytes_eq (map name names)
all_apart name names sorted moved up next =
    map-distinct name names (IsDistinct-IsPermutation (alike name) (λ a b. eq_flips (name a) (name b)) sorted names (IsPermutation-sym names sorted moved) (sorted_differ name sorted up next))

pub two_alike : {X : Type 0} (name : X → List ℕ) (names sorted : List X) (before at : ℕ) (d : X) → before + 1 ≡ at → IsPermutation names sorted → at < length sorted
    → bytes_eq (name (get_or sorted before d)) (name (get_or sorted at d)) ≡ true → IsDistinct bytes_eq (map name names) → ⊥
two_alike name names sorted before at d next moved short same distinct =
    let apart = apart_from_distinct (alike name) sorted before at d (IsDistinct-IsPermutation (alike name) (λ a b. eq_flips (name a) (name b)) names sorted moved (distinct-map name names distinct)) (omega arith) short in
    absurd cc

-- ---- in terms of the definition

neither : (a b : Bool) → (a || b) ≡ false → (a ≡ false) × (b ≡ false)
neither false b e = (refl, e)
neither true b e = absurd cc

not_false : (b : Bool) → not b ≡ true → b ≡ false
not_false false e = refl
not_false true e = absurd cc

others_apart : (p : Parameter) (others : List Parameter) → list_any (is_named p.name) others ≡ false → AllByRecursion (λ q. alike lower_name p q ≡ false) others
others_apart p [] none = tt
others_apart p (q ∷ others) none =
    let split = neither (is_named p.name q) (list_any (is_named p.name) others) none in
    (eq_flips (lower_name p) (lower_name q) ∙ split.0, others_apart p others split.1)

none_named : (p : Parameter) (others : List Parameter) → AllByRecursion (λ q. alike lower_name p q ≡ false) others → list_any (is_named p.name) others ≡ false
none_named p [] apart = refl
none_named p (q ∷ others) apart = rw (eq_flips (lower_name q) (lower_name p) ∙ apart.0, none_named p others apart.1) refl

distinct_by : (parameters : List Parameter) → names_differ parameters ≡ true → IsDistinct (alike lower_name) parameters
unfolding IsDistinct
distinct_by [] differ = tt
distinct_by (p ∷ others) differ =
    let split = and_parts (not (list_any (is_named p.name) others)) (names_differ others) differ in
    (others_apart p others (not_false _ split.0), distinct_by others split.1)

differ_by : (parameters : List Parameter) → IsDistinct (alike lower_name) parameters → names_differ parameters ≡ true
unfolding IsDistinct
differ_by [] distinct = refl
differ_by (p ∷ others) distinct = rw (none_named p others distinct.0, differ_by others distinct.1) refl

-- whether these names are distinct, as the definition of parameters says it
pub names_told : (r : Bool) (names : List (List ℕ)) (parameters : List LentParameter) (n : ℕ) → length parameters ≤ n → (IsTrue r ↔ IsDistinct bytes_eq names)
    → names ≡ map lower_name (map parameter_of (take n parameters)) → r ≡ names_differ (map parameter_of parameters)
names_told r names parameters n all told so_far =
    let whole : names ≡ map lower_name (map parameter_of parameters) = so_far ∙ ap (λ (l : List LentParameter). map lower_name (map parameter_of l)) (take_all n parameters all) in
    let says : IsTrue r ↔ IsDistinct bytes_eq (map lower_name (map parameter_of parameters)) = rw whole at told in
    both_true r (names_differ (map parameter_of parameters))
    (λ is. differ_by (map parameter_of parameters) (distinct-map lower_name (map parameter_of parameters) (says.0 is)))
    (λ differ. says.1 (map-distinct lower_name (map parameter_of parameters) (distinct_by (map parameter_of parameters) differ)))
