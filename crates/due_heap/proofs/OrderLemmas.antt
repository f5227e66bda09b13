-- The order of a heap, when a pair moves up or down in it.
use Rattle.std.proofs.Common.{ℕ, suc, zero, ◌+◌, ◌*◌, ◌<◌, ◌≤◌, ◌≡◌, ◌/◌, inl, inr, ap, arith}
use Rattle.std.proofs.lemmas.Bool.{cases_eq, cases_lt}
use Rattle.std.proofs.lemmas.List.Edits.{Swapped}
use Rattle.due_heap.specs.Order.{IsOrdered, IsOrderedBut, IsUpToUnder, IsFromAbove}

-- a place that comes before its parent is exchanged with it
pub raised : (f g : ℕ → ℕ) (n p at : ℕ) → p * 2 + 1 ≤ at → at ≤ p * 2 + 2 → at < n → IsOrderedBut at f n → f at < f p → Swapped f g p at → IsOrderedBut p g n × IsUpToUnder p g n
raised f g n p at from to within but less swapped = (
  record {
    elsewhere = λ q k low high in_n q_not k_not.
        elim (cases_eq q at) [
          | inl same ↦ omega (arith, ap g same, swapped.1, swapped.2 k k_not (λ e. omega arith), but.past p k from to (omega arith) (omega arith) in_n)
          | inr other ↦ omega (arith, swapped.2 q q_not other, swapped.2 k k_not (λ e. omega arith), but.elsewhere q k low high in_n other (λ e. omega arith))
        ];
    past = λ q k low high k_low k_high in_n.
        let over : f q ≤ f p = but.elsewhere q p low high (omega arith) (λ e. omega arith) (λ e. omega arith) in
        let still : g q ≡ f q = swapped.2 q (λ e. omega arith) (λ e. omega arith) in
        elim (cases_eq k at) [
          | inl same ↦ omega (arith, ap g same, swapped.1)
          | inr other ↦ omega (arith, swapped.2 k (λ e. omega arith) other, but.elsewhere p k k_low k_high in_n (λ e. omega arith) other)
        ];
  },
  λ k low high in_n.
      elim (cases_eq k at) [
        | inl same ↦ omega (arith, ap g same, swapped.0, swapped.1)
        | inr other ↦ omega (arith, swapped.0, swapped.2 k (λ e. omega arith) other, but.elsewhere p k low high in_n (λ e. omega arith) other)
      ],
)

-- a place whose lesser child comes before it is exchanged with that child
pub lowered : (f g : ℕ → ℕ) (n at c : ℕ) → at * 2 + 1 ≤ c → c ≤ at * 2 + 2 → c < n → IsOrderedBut at f n → ((k : ℕ) → at * 2 + 1 ≤ k → k ≤ at * 2 + 2 → k < n → f c ≤ f k) → f c < f at → Swapped f g at c → IsOrderedBut c g n × IsFromAbove c g
lowered f g n at c from to within but lesser less swapped = (
  record {
    elsewhere = λ q k low high in_n q_not k_not.
        elim (cases_eq q at) [
          | inl same ↦ omega (arith, ap g same, swapped.0, swapped.2 k (λ e. omega arith) k_not, lesser k (omega arith) (omega arith) in_n)
          | inr other ↦
              elim (cases_eq k at) [
                | inl there ↦ omega (arith, ap g there, swapped.0, swapped.2 q other q_not, but.past q c (omega arith) (omega arith) from to within)
                | inr apart ↦ omega (arith, swapped.2 q other q_not, swapped.2 k apart k_not, but.elsewhere q k low high in_n other apart)
              ]
        ];
    past = λ q k low high k_low k_high in_n.
        let here : q ≡ at = omega arith in
        omega (arith, ap g here, swapped.0, swapped.2 k (λ e. omega arith) (λ e. omega arith), but.elsewhere c k k_low k_high in_n (λ e. omega arith) (λ e. omega arith));
  },
  λ q low high.
      let here : q ≡ at = omega arith in
      omega (arith, ap g here, swapped.0, swapped.1),
)

-- none comes before the first
pub first_is_least : (f : ℕ → ℕ) (n : ℕ) → IsOrdered f n → (fuel k : ℕ) → k ≤ fuel → k < n → f 0 ≤ f k
first_is_least f n ordered zero zero le in_n = omega arith
first_is_least f n ordered zero (suc k) le in_n = absurd (omega arith)
first_is_least f n ordered (suc fuel) zero le in_n = omega arith
first_is_least f n ordered (suc fuel) (suc k) le in_n =
    omega (arith, first_is_least f n ordered fuel (k / 2) (omega arith) (omega arith), ordered (k / 2) (suc k) (omega arith) (omega arith) in_n)

-- apart from the first, none comes before the lesser of its two children
pub next_is_least : (f : ℕ → ℕ) (n c : ℕ) → IsOrdered f n → ((k : ℕ) → 0 * 2 + 1 ≤ k → k ≤ 0 * 2 + 2 → k < n → f c ≤ f k) → (fuel k : ℕ) → k ≤ fuel → 0 < k → k < n → f c ≤ f k
next_is_least f n c ordered lesser zero zero le some in_n = absurd (omega arith)
next_is_least f n c ordered lesser zero (suc k) le some in_n = absurd (omega arith)
next_is_least f n c ordered lesser (suc fuel) zero le some in_n = absurd (omega arith)
next_is_least f n c ordered lesser (suc fuel) (suc k) le some in_n =
    elim (cases_lt k 2) [
      | inl near ↦ lesser (suc k) (omega arith) (omega arith) in_n
      | inr far ↦ omega (arith, next_is_least f n c ordered lesser fuel (k / 2) (omega arith) (omega arith) (omega arith), ordered (k / 2) (suc k) (omega arith) (omega arith) in_n)
    ]

-- a change at one place leaves the order elsewhere
pub changed_at : (f g : ℕ → ℕ) (n m at : ℕ) → m ≤ n → ((k : ℕ) → k < m → (k ≡ at → ⊥) → g k ≡ f k) → IsOrdered f n → IsOrderedBut at g m
changed_at f g n m at le same ordered =
    record {
      elsewhere = λ p k low high in_m p_not k_not.
          omega (arith, same p (omega arith) p_not, same k in_m k_not, ordered p k low high (omega arith));
      past = λ p k low high k_low k_high in_m.
          omega (arith, same p (omega arith) (λ e. omega arith), same k in_m (λ e. omega arith), ordered p at low high (omega arith), ordered at k k_low k_high (omega arith));
    }

-- so does one more at the end
pub added_at : (f g : ℕ → ℕ) (n : ℕ) → ((k : ℕ) → k < n → g k ≡ f k) → IsOrdered f n → IsOrderedBut n g (n + 1)
added_at f g n same ordered =
    record {
      elsewhere = λ p k low high in_m p_not k_not.
          let k_in : k < n = omega arith in
          omega (arith, same p (omega arith), same k k_in, ordered p k low high k_in);
      past = λ p k low high k_low k_high in_m. absurd (omega arith);
    }
