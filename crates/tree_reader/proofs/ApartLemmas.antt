-- Sorted names are distinct if each differs from the next.
use Rattle.std.proofs.Common.{◌≡◌, ℕ, ◌+◌, ◌<◌, ◌≤◌, Bool, true, false, not, ◌&&◌, List, [], ◌∷◌, map, length, get_or, take, refl, sym, ap, ◌∙◌, arith, Ordering}
use Rattle.std.proofs.lemmas.Bool.{and_parts, false_from_ne_true}
use Rattle.std.proofs.lemmas.Cmp.{nat_list_cmp_total, on_total, then_total}
use Rattle.std.proofs.lemmas.List.{take_all}
use Rattle.std.proofs.lemmas.List.Sorted.{IsPermutation-sym}
use Rattle.std.proofs.lemmas.Map.Keys.{sorted_from_all_adjacent, IsDistinct-from_sorted, IsDistinct-from_apart, apart_from_distinct, IsDistinct-IsPermutation}
use Rattle.std.proofs.lemmas.Map.Text.{is_eq-slice_cmp}
use Rattle.std.specs.Borrow.{Bor}
use Rattle.std.specs.Cmp.{IsTotalOrder, tied_then}
use Rattle.std.specs.Cmp.Lexicographic.{slice_cmp}
use Rattle.std.specs.List.{AllByRecursion, list_any, IsDistinct}
use Rattle.std.specs.List.Sorted.{IsPermutation, IsSorted}
use Rattle.std.specs.Ordering.{nat_cmp, eq_by_cmp, is_eq, is_lt, then_cmp, on, ordering_reverse}
use Rattle.std.specs.declared.cmp.Ordering.TheVariants.{Less, Equal, Greater}
use Rattle.std.specs.Prelude.{bytes_eq}
use Rattle.std.proofs.lemmas.Slice.Eq.{bytes_eq-Decides}
use Rattle.as4_envelope.specs.declared.tree.Attribute.{Attribute}
use Rattle.as4_envelope.specs.Writable.{names_differ}
use Rattle.xml_items.specs.Items.{Written}
use Rattle.xml_items.specs.Raw.{written_of}
use Rattle.xml_items.specs.declared.item.RawAttribute.{RawAttribute}
use Rattle.tree_reader.specs.Scopes.{same_written, written_differ}
use Rattle.tree_reader.specs.Apart.{differ, same_parts, parts_of}
use Rattle.tree_reader.proofs.CanonicalNames.{neither, not_false, true_false}

abbrev pub Parts : Type 0
Parts = Bor (List ℕ) × Bor (List ℕ)

abbrev pub alike : Parts → Parts → Bool
alike a b = same_parts (parts_of a) (parts_of b)

abbrev part_cmp : List ℕ → List ℕ → Ordering
part_cmp = slice_cmp nat_cmp

abbrev pub parts_cmp : Parts → Parts → Ordering
parts_cmp = then_cmp (on (λ (k : Parts). k.0.now) part_cmp) (on (λ (k : Parts). k.1.now) part_cmp)

parts_total : IsTotalOrder parts_cmp
parts_total = then_total (on_total (λ (k : Parts). k.0.now) nat_list_cmp_total) (on_total (λ (k : Parts). k.1.now) nat_list_cmp_total)

tied_alike : (a b : Parts) → eq_by_cmp parts_cmp a b ≡ alike a b
tied_alike a b =
    sym (tied_then (part_cmp a.0.now b.0.now) (part_cmp a.1.now b.1.now))
    ∙ (ap (λ (x : Bool). x && is_eq (part_cmp a.1.now b.1.now)) (is_eq-slice_cmp a.0.now b.0.now)
    ∙ ap (λ (x : Bool). bytes_eq a.0.now b.0.now && x) (is_eq-slice_cmp a.1.now b.1.now))

-- values that differ by recursion are distinct

apart_all : {X : Type 0} (same : X → X → Bool) (x : X) (xs : List X) → list_any (same x) xs ≡ false → AllByRecursion (λ y. same x y ≡ false) xs
apart_all same x [] none = tt
apart_all same x (y ∷ xs) none =
    let split = neither (same x y) (list_any (same x) xs) none in
    (split.0, apart_all same x xs split.1)

none_alike : {X : Type 0} (same : X → X → Bool) (x : X) (xs : List X) → AllByRecursion (λ y. same x y ≡ false) xs → list_any (same x) xs ≡ false
none_alike same x [] all = refl
none_alike same x (y ∷ xs) all = rw (all.0, none_alike same x xs all.1) refl

distinct_by : {X : Type 0} (same : X → X → Bool) (xs : List X) → differ same xs ≡ true → IsDistinct same xs
unfolding IsDistinct
distinct_by same [] is = tt
distinct_by same (x ∷ xs) is =
    let split = and_parts (not (list_any (same x) xs)) (differ same xs) is in
    (apart_all same x xs (not_false _ split.0), distinct_by same xs split.1)

differ_by : {X : Type 0} (same : X → X → Bool) (xs : List X) → IsDistinct same xs → differ same xs ≡ true
unfolding IsDistinct
differ_by same [] is = refl
differ_by same (x ∷ xs) is = rw (none_alike same x xs is.0, differ_by same xs is.1) refl

any-map : {X Y : Type 0} (p : Y → Bool) (f : X → Y) (xs : List X) → list_any p (map f xs) ≡ list_any (λ x. p (f x)) xs
any-map p f [] = refl
any-map p f (x ∷ xs) = rw (any-map p f xs) refl

differ-map : {X Y : Type 0} (same : Y → Y → Bool) (f : X → Y) (xs : List X) → differ same (map f xs) ≡ differ (λ x y. same (f x) (f y)) xs
differ-map same f [] = refl
differ-map same f (x ∷ xs) = rw (any-map (same (f x)) f xs, differ-map same f xs) refl

both_true : (x y : Bool) → (x ≡ true → y ≡ true) → (y ≡ true → x ≡ true) → x ≡ y
both_true true y to back = sym (to refl)
both_true false true to back = back refl
both_true false false to back = refl

eq_flips : (a b : List ℕ) → bytes_eq a b ≡ bytes_eq b a
eq_flips a b = both_true (bytes_eq a b) (bytes_eq b a)
    (λ is. (bytes_eq-Decides b a).1 (sym ((bytes_eq-Decides a b).0 is))) (λ is. (bytes_eq-Decides a b).1 (sym ((bytes_eq-Decides b a).0 is)))

flips : (a b : Parts) → alike a b ≡ alike b a
flips a b = rw (eq_flips a.0.now b.0.now, eq_flips a.1.now b.1.now) refl

-- an order that is neither greater nor equal is less

by_order : (one other : Ordering) → other ≡ ordering_reverse one → is_lt other ≡ false → is_eq one ≡ false → one ≡ Less
by_order Less other back up apart = refl
by_order Equal other back up apart = absurd cc
by_order Greater other back up apart = true_false (is_lt other) (ap is_lt back) up

next_less : (a b : Parts) → is_lt (parts_cmp b a) ≡ false → alike a b ≡ false → parts_cmp a b ≡ Less
next_less a b up apart = by_order (parts_cmp a b) (parts_cmp b a) (parts_total.antisymm b a) up (tied_alike a b ∙ apart)

-- each name up to this place differs from the next
abbrev pub NextDiffer : List Parts → ℕ → Type 0
NextDiffer names most = (k : ℕ) (d : Parts) → k + 1 < most → alike (get_or names k d) (get_or names (k + 1) d) ≡ false

sorted_differ : (names : List Parts) (d : Parts) → IsSorted parts_cmp names → NextDiffer names (length names) → IsDistinct alike names
sorted_differ names d up next =
    let strict = sorted_from_all_adjacent parts_total names d (λ k short. next_less (get_or names k d) (get_or names (k + 1) d) (up k d (omega arith) short) (next k d short)) in
    let apart = IsDistinct-from_sorted parts_cmp names strict in
    IsDistinct-from_apart alike names (λ i j e less short. sym (tied_alike (get_or names i e) (get_or names j e)) ∙ apart_from_distinct (eq_by_cmp parts_cmp) names i j e apart less short)

pub all_apart : (names sorted : List Parts) (d : Parts) → IsPermutation names sorted → IsSorted parts_cmp sorted → NextDiffer sorted (length sorted)
    → true ≡ differ same_parts (map parts_of names)
all_apart names sorted d moved up next =
    sym (differ-map same_parts parts_of names
    ∙ differ_by alike names (IsDistinct-IsPermutation alike flips sorted names (IsPermutation-sym names sorted moved) (sorted_differ sorted d up next)))

pub two_alike : (names sorted : List Parts) (before at : ℕ) (d : Parts) → before + 1 ≡ at → IsPermutation names sorted → at < length sorted
    → bytes_eq (get_or sorted before d).0.now (get_or sorted at d).0.now ≡ true → bytes_eq (get_or sorted before d).1.now (get_or sorted at d).1.now ≡ true
    → false ≡ differ same_parts (map parts_of names)
two_alike names sorted before at d next moved short one other =
    sym (false_from_ne_true (differ same_parts (map parts_of names))
    (λ is.
    let distinct = IsDistinct-IsPermutation alike flips names sorted moved (distinct_by alike names (sym (differ-map same_parts parts_of names) ∙ is)) in
    true_false (alike (get_or sorted before d) (get_or sorted at d)) (rw (one, other) refl) (apart_from_distinct alike sorted before at d distinct (omega arith) short)))

pub nothing : Parts
nothing = (record { ref_ptr = (0, 0); now = [] }, record { ref_ptr = (0, 0); now = [] })

-- names in two parts

abbrev pub written_parts : Written → List ℕ × List ℕ
written_parts a = (a.name, [])

abbrev pub name_parts : Attribute → List ℕ × List ℕ
name_parts a = (a.space, a.local)

beside_nothing : (b : Bool) → b && true ≡ b
beside_nothing true = refl
beside_nothing false = refl

none_written : (a : Written) (others : List Written) → list_any (same_parts (written_parts a)) (map written_parts others) ≡ list_any (same_written a) others
none_written a [] = refl
none_written a (b ∷ others) = rw (beside_nothing (bytes_eq a.name b.name), none_written a others) refl

pub differ-written : (attributes : List Written) → differ same_parts (map written_parts attributes) ≡ written_differ attributes
differ-written [] = refl
differ-written (a ∷ attributes) = rw (none_written a attributes, differ-written attributes) refl

pub differ-names : (attributes : List Attribute) → differ same_parts (map name_parts attributes) ≡ names_differ attributes
differ-names [] = refl
differ-names (a ∷ attributes) = rw (any-map (same_parts (name_parts a)) name_parts attributes, differ-names attributes) refl

pub written_told : (r : Bool) (names : List Parts) (attributes : List RawAttribute) (n : ℕ) → length attributes ≤ n → r ≡ differ same_parts (map parts_of names)
    → map parts_of names ≡ map written_parts (map written_of (take n attributes)) → r ≡ written_differ (map written_of attributes)
written_told r names attributes n all told so_far =
    told ∙ (ap (differ same_parts) so_far ∙ (ap (λ (l : List RawAttribute). differ same_parts (map written_parts (map written_of l))) (take_all n attributes all)
    ∙ differ-written (map written_of attributes)))

pub names_told : (r : Bool) (names : List Parts) (attributes : List Attribute) (n : ℕ) → length attributes ≤ n → r ≡ differ same_parts (map parts_of names)
    → map parts_of names ≡ map name_parts (take n attributes) → r ≡ names_differ attributes
names_told r names attributes n all told so_far =
    told ∙ (ap (differ same_parts) so_far ∙ (ap (λ (l : List Attribute). differ same_parts (map name_parts l)) (take_all n attributes all) ∙ differ-names attributes))

-- fewer than two attributes need no comparison
pub few_differ : (attributes : List Attribute) → length attributes < 2 → true ≡ names_differ attributes
few_differ [] few = refl
few_differ (a ∷ []) few = refl
few_differ (a ∷ b ∷ others) few = absurd (omega arith)
