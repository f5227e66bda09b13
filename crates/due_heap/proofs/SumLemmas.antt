-- The number of pairs at a place of a heap and below it that are due by a moment.
use Rattle.std.proofs.Common.{◌≡◌, ℕ, zero, suc, ◌+◌, ◌*◌, ◌<◌, ◌≤◌, ◌==◌, inl, inr, List, [], ◌∷◌, Bool, true, false, cond, nat_le, All, Some, length, refl, ap, subst, ◌∙◌, arith}
use Rattle.std.specs.Prelude.{count_by, slice_get}
use Rattle.std.proofs.lemmas.Bool.{cond-true, cond-false, eq-eqb, ne_eqb}
use Rattle.std.proofs.lemmas.Bool.Decides.{nat_tests}
use Rattle.std.proofs.lemmas.List.Sums.{sum_by-cons}
use Rattle.std.proofs.lemmas.Option.{get_or_from_slice_get, slice_get_within}
use Rattle.due_heap.specs.Counting.{count_under, due_under, sum_from, under}
use Rattle.due_heap.specs.Order.{IsOrdered, rank, rank_at}
use Rattle.due_heap.specs.declared.pair.Pair.{Pair}
use Rattle.due_heap.proofs.LeastLemmas.{few_found}
use Rattle.due_heap.proofs.TreeLemmas.{all, before, least_under, parts, under_one}

-- sums
sum_split : (f g h : ℕ → Pair → ℕ) (k : ℕ) (pairs : List Pair) → ((i : ℕ) (x : Pair) → f i x ≡ g i x + h i x)
    → sum_from f k pairs ≡ sum_from g k pairs + sum_from h k pairs
unfolding sum_from
sum_split f g h k [] same = refl
sum_split f g h k (x ∷ pairs) same = omega (arith, same k x, sum_split f g h (suc k) pairs same)

sum_none : (f : ℕ → Pair → ℕ) (k : ℕ) (pairs : List Pair) → ((i : ℕ) (x : Pair) → slice_get pairs i ≡ Some x → f (k + i) x ≡ 0)
    → sum_from f k pairs ≡ 0
unfolding sum_from
sum_none f k [] none = refl
sum_none f k (x ∷ pairs) none =
    let here : k + 0 ≡ k = omega arith in
    let first : f k x ≡ 0 = subst (λ n. f n x ≡ 0) here (none zero x refl) in
    let rest : sum_from f (suc k) pairs ≡ 0 = sum_none f (suc k) pairs (λ i y there.
    let next : k + suc i ≡ suc k + i = omega arith in
    subst (λ n. f n y ≡ 0) next (none (suc i) y there)) in
    omega (arith, first, rest)

sum_within : (f : ℕ → Pair → ℕ) (k : ℕ) (pairs : List Pair) → ((i : ℕ) (x : Pair) → f i x ≤ 1) → sum_from f k pairs ≤ length pairs
unfolding sum_from
sum_within f k [] most = omega arith
sum_within f k (x ∷ pairs) most = omega (arith, most k x, sum_within f (suc k) pairs most)

sum_at : (v : Pair → ℕ) (k j at : ℕ) (pairs : List Pair) (x : Pair) → slice_get pairs j ≡ Some x → at ≡ k + j
    → sum_from (λ i y. cond (i == at) (v y) 0) k pairs ≡ v x
unfolding sum_from
sum_at v k j at [] x there is = absurd (cc)
sum_at v k zero at (y ∷ pairs) x there is =
    let same : y ≡ x = cc in
    let first : cond (k == at) (v y) 0 ≡ v y = cond-true _ _ _ (eq-eqb k at (omega arith)) in
    let rest : sum_from (λ i y. cond (i == at) (v y) 0) (suc k) pairs ≡ 0 =
    sum_none (λ i y. cond (i == at) (v y) 0) (suc k) pairs (λ i z there. cond-false _ _ _ (ne_eqb (suc k + i) at (λ e. omega arith))) in
    omega (arith, first, rest, ap v same)
sum_at v k (suc j) at (y ∷ pairs) x there is =
    let first : cond (k == at) (v y) 0 ≡ 0 = cond-false _ _ _ (ne_eqb k at (λ e. omega arith)) in
    omega (arith, first, sum_at v (suc k) j at pairs x there (omega arith))

zeros : (b : Bool) → ◌≡◌ {A = ℕ} (cond b 0 0) 0
zeros true = refl
zeros false = refl

most_one : (b : Bool) (n : ℕ) → n ≤ 1 → cond b n 0 ≤ 1
most_one true n most = most
most_one false n most = omega arith

-- 1 where the pair is due at the place itself, and else 0
at_itself : ℕ → ℕ → ℕ → Pair → ℕ
at_itself moment at i pair = cond (i == at) (cond (nat_le pair.due moment) 1 0) 0

swapped : (late here : Bool) (l r : ℕ) → cond late (cond here 1 0 + (l + r)) 0 ≡ cond here (cond late 1 0) 0 + (cond late l 0 + cond late r 0)
swapped true true l r = omega arith
swapped true false l r = omega arith
swapped false true l r = omega arith
swapped false false l r = omega arith

both_below : ℕ → ℕ → ℕ → Pair → ℕ
both_below moment at i pair = due_under moment (at * 2 + 1) i pair + due_under moment (at * 2 + 2) i pair

count_parts : (moment at : ℕ) (pairs : List Pair)
    → count_under moment at pairs ≡ sum_from (at_itself moment at) 0 pairs + (count_under moment (at * 2 + 1) pairs + count_under moment (at * 2 + 2) pairs)
unfolding count_under at_itself both_below
count_parts moment at pairs =
    let one : (i : ℕ) (x : Pair) → due_under moment at i x ≡ at_itself moment at i x + both_below moment at i x =
    λ i x. ap (λ n. cond (nat_le x.due moment) n 0) (parts at i) ∙ swapped (nat_le x.due moment) (i == at) (under (at * 2 + 1) i) (under (at * 2 + 2) i) in
    sum_split (due_under moment at) (at_itself moment at) (both_below moment at) 0 pairs one
    ∙ ap (λ n. sum_from (at_itself moment at) 0 pairs + n)
    (sum_split (both_below moment at) (due_under moment (at * 2 + 1)) (due_under moment (at * 2 + 2)) 0 pairs (λ i x. refl))

-- where the pair at the place is due, it counts one
pub count_due : (moment at : ℕ) (pairs : List Pair) (pair : Pair) → slice_get pairs at ≡ Some pair → pair.due ≤ moment
    → count_under moment at pairs ≡ 1 + (count_under moment (at * 2 + 1) pairs + count_under moment (at * 2 + 2) pairs)
unfolding at_itself
count_due moment at pairs pair there is_due =
    let here : sum_from (at_itself moment at) 0 pairs ≡ cond (nat_le pair.due moment) 1 0 =
    sum_at (λ p. cond (nat_le p.due moment) 1 0) 0 at at pairs pair there (omega arith) in
    let due : nat_le pair.due moment ≡ true = grind (arith, nat_tests) in
    let one : ◌≡◌ {A = ℕ} (cond (nat_le pair.due moment) 1 0) 1 = cond-true _ _ _ due in
    omega (arith, count_parts moment at pairs, here, one)

-- where it is later, nothing at the place or below it is due
pub count_late : (moment at : ℕ) (pairs : List Pair) (pair : Pair) → IsOrdered (rank_at pairs) (length pairs) → All (λ p. p.number < 1048576) pairs
    → slice_get pairs at ≡ Some pair → moment < pair.due → count_under moment at pairs ≡ 0
unfolding count_under
count_late moment at pairs pair ordered few there late =
    sum_none (due_under moment at) 0 pairs (λ i x here.
    let same : 0 + i ≡ i = omega arith in
    let within : i < length pairs = slice_get_within pairs i x here in
    elim (least_under (rank_at pairs) (length pairs) at i ordered within) [
      | inl none ↦ ap (λ n. cond (nat_le x.due moment) (under at n) 0) same ∙ ap (λ n. cond (nat_le x.due moment) n 0) none ∙ zeros (nat_le x.due moment)
      | inr least ↦
          let first : rank_at pairs at ≡ rank pair = ap rank (get_or_from_slice_get pairs at pair _ there) in
          let other : rank_at pairs i ≡ rank x = ap rank (get_or_from_slice_get pairs i x _ here) in
          let small : x.number < 1048576 = few_found pairs i x few here in
          let past : nat_le x.due moment ≡ false = grind (arith, nat_tests) in
          cond-false _ _ _ past
    ])

-- past the last place there is nothing
pub count_past : (moment at : ℕ) (pairs : List Pair) → length pairs ≤ at → count_under moment at pairs ≡ 0
unfolding count_under
count_past moment at pairs past =
    sum_none (due_under moment at) 0 pairs (λ i x here.
    let within : i < length pairs = slice_get_within pairs i x here in
    let none : under at (0 + i) ≡ 0 = before at (0 + i) (omega arith) in
    ap (λ n. cond (nat_le x.due moment) n 0) none ∙ zeros (nat_le x.due moment))

-- no more than all
pub count_within : (moment at : ℕ) (pairs : List Pair) → count_under moment at pairs ≤ length pairs
unfolding count_under
count_within moment at pairs = sum_within (due_under moment at) 0 pairs (λ i x. most_one (nat_le x.due moment) (under at i) (under_one at i))

-- at the first place all are counted
all_from : (moment k : ℕ) (pairs : List Pair) → sum_from (due_under moment 0) k pairs ≡ count_by (λ p. nat_le p.due moment) pairs
unfolding sum_from
all_from moment k [] = refl
all_from moment k (x ∷ pairs) =
    let first : ◌≡◌ {A = ℕ} (cond (nat_le x.due moment) (under 0 k) 0) (cond (nat_le x.due moment) 1 0) = ap (λ n. cond (nat_le x.due moment) n 0) (all k) in
    let more = sum_by-cons (λ p. cond (nat_le p.due moment) 1 0) x pairs in
    omega (arith, first, all_from moment (suc k) pairs, more)

pub count_all : (moment : ℕ) (pairs : List Pair) → count_under moment 0 pairs ≡ count_by (λ p. nat_le p.due moment) pairs
unfolding count_under
count_all moment pairs = all_from moment 0 pairs
