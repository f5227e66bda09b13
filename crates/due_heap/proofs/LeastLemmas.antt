-- The first pair of a heap, and the first one without a number.
use Rattle.std.proofs.Common.{ℕ, ◌+◌, ◌*◌, ◌<◌, ◌≤◌, ◌≡◌, ◌≢◌, List, Some, All, length, slice_get, ap, sym, arith, ◌∙◌}
use Rattle.std.proofs.lemmas.Option.{same_Some, slice_get_within, get_or_from_slice_get}
use Rattle.due_heap.specs.declared.pair.Pair.{Pair}
use Rattle.due_heap.specs.Heaps.{IsUpTo, IsLeast}
use Rattle.due_heap.specs.Order.{rank, rank_at, IsOrdered, IsIn, IsInBut, AreOnce}
use Rattle.due_heap.proofs.ExchangeLemmas.{no_pair, pair_at, pair_is}
use Rattle.due_heap.proofs.OrderLemmas.{first_is_least, next_is_least}

up_to : (pair other : Pair) → other.number < 1048576 → pair.number < 1048576 → rank pair ≤ rank other → IsUpTo (pair.due, pair.number) (other.due, other.number)
up_to pair other few_other few le =
    record { due = omega arith; number = λ e. omega arith }

-- a pair at a place, by its rank
rank_found : (pairs : List Pair) (i : ℕ) (pair : Pair) → slice_get pairs i ≡ Some pair → rank_at pairs i ≡ rank pair
rank_found pairs i pair found = ap rank (get_or_from_slice_get pairs i pair no_pair found)

pub few_found : (pairs : List Pair) (i : ℕ) (pair : Pair) → All (λ p. p.number < 1048576) pairs → slice_get pairs i ≡ Some pair → pair.number < 1048576
few_found pairs i pair few found =
    let within = slice_get_within pairs i pair found in
    let here = few i no_pair within in
    omega (arith, here, ap (λ (p : Pair). p.number) (get_or_from_slice_get pairs i pair no_pair found))

pub least_first : (pairs : List Pair) (first : Pair) → IsOrdered (rank_at pairs) (length pairs) → All (λ p. p.number < 1048576) pairs → slice_get pairs 0 ≡ Some first → IsLeast (IsIn pairs) (first.due, first.number)
least_first pairs first ordered few found =
    record {
      among = (0, found);
      least = λ other there.
          let pair : Pair = record { due = other.0; number = other.1 } in
          let within = slice_get_within pairs there.0 pair there.1 in
          let le = first_is_least (rank_at pairs) (length pairs) ordered there.0 there.0 (omega arith) within in
          up_to first pair (few_found pairs there.0 pair few there.1) (few_found pairs 0 first few found)
          (omega (arith, le, rank_found pairs 0 first found, rank_found pairs there.0 pair there.1));
    }

-- the first one has another number than the one left out
pub least_first_but : (pairs : List Pair) (first : Pair) (number : ℕ) → IsOrdered (rank_at pairs) (length pairs) → All (λ p. p.number < 1048576) pairs → slice_get pairs 0 ≡ Some first → first.number ≢ number → IsLeast (IsInBut pairs number) (first.due, first.number)
least_first_but pairs first number ordered few found other =
    let least = least_first pairs first ordered few found in
    record { among = (least.among, other); least = λ pair there. least.least pair there.0 }

-- the first one has the number left out
pub least_next : (pairs : List Pair) (first : Pair) (number c : ℕ) → IsOrdered (rank_at pairs) (length pairs) → All (λ p. p.number < 1048576) pairs → AreOnce pairs → slice_get pairs 0 ≡ Some first → first.number ≡ number → 1 ≤ c → c < length pairs → ((k : ℕ) → 0 * 2 + 1 ≤ k → k ≤ 0 * 2 + 2 → k < length pairs → rank_at pairs c ≤ rank_at pairs k) → IsLeast (IsInBut pairs number) ((pair_at pairs c).due, (pair_at pairs c).number)
least_next pairs first number c ordered few once found own some within lesser =
    let next = pair_at pairs c in
    let stands = pair_is pairs c within in
    record {
      among = ((c, stands), λ e. let same = once 0 c first next found stands (own ∙ sym e) in omega (arith, same));
      least = λ other there.
          let pair : Pair = record { due = other.0; number = other.1 } in
          let i = there.0.0 in
          let is_there = there.0.1 in
          let inside = slice_get_within pairs i pair is_there in
          let not_first : i ≢ 0 = λ e. there.1 (ap (λ (p : Pair). p.number) (same_Some pair first (sym is_there ∙ ap (slice_get pairs) e ∙ found)) ∙ own) in
          let le = next_is_least (rank_at pairs) (length pairs) c ordered lesser i i (omega arith) (omega (arith, not_first)) inside in
          up_to next pair (few_found pairs i pair few is_there) (few_found pairs c next few stands)
          (omega (arith, le, rank_found pairs i pair is_there));
    }
