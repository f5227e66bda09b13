-- Submissions in rising order of number: two lists that have the same one for each number are equal.
use Rattle.std.proofs.Common.{◌≡◌, ◌≢◌, ℕ, ◌+◌, ◌<◌, ◌≤◌, List, [], ◌∷◌, Some, None, inl, inr, refl, sym, ap, ◌∙◌, arith}
use Rattle.std.proofs.lemmas.Bool.{cases_order, cases_lt, cases_eq, lt-ltb, le-ltb, eq-eqb, ne_eqb}
use Rattle.std.proofs.lemmas.Option.{same_Some, none-some}
use Rattle.channels.specs.Queues.{inserted, without, waiting_at}
use Rattle.channels.specs.Rising.{RisesFrom}
use Rattle.channels.specs.declared.waiting.Waiting.{Waiting}

pub rises_lower : (low high : ℕ) (xs : List Waiting) → low ≤ high → RisesFrom high xs → RisesFrom low xs
unfolding RisesFrom
rises_lower low high [] le rises = tt
rises_lower low high (x ∷ xs) le rises = (omega (arith, rises.0), rises.1)

-- the first one and the later ones
pub at_first : (m : ℕ) (x : Waiting) (xs : List Waiting) → x.number ≡ m → waiting_at m (x ∷ xs) ≡ Some x
at_first m x xs same = rw (eq-eqb x.number m same) refl

pub at_behind : (m : ℕ) (x : Waiting) (xs : List Waiting) → x.number ≢ m → waiting_at m (x ∷ xs) ≡ waiting_at m xs
at_behind m x xs other = rw (ne_eqb x.number m other) refl

-- the one that is found has its number, which is not below the least
pub record IsFound (low m : ℕ) (v : Waiting) : Type 0 where
  pub number : v.number ≡ m
  pub from : low ≤ m

pub found_at : (low m : ℕ) (v : Waiting) (xs : List Waiting) → RisesFrom low xs → waiting_at m xs ≡ Some v → IsFound low m v
unfolding RisesFrom
found_at low m v [] rises found = absurd (none-some v found)
found_at low m v (x ∷ xs) rises found =
    elim (cases_eq x.number m) [
      | inl same ↦
          let it : x ≡ v = same_Some x v (sym (at_first m x xs same) ∙ found) in
          record { number = ap (λ (w : Waiting). w.number) (sym it) ∙ same; from = omega (arith, same, rises.0) }
      | inr other ↦
          let next = found_at (x.number + 1) m v xs rises.1 (sym (at_behind m x xs other) ∙ found) in
          record { number = next.number; from = omega (arith, next.from, rises.0) }
    ]

-- nothing is below the least
pub none_below : (low m : ℕ) (xs : List Waiting) → RisesFrom low xs → m < low → waiting_at m xs ≡ None
unfolding RisesFrom
none_below low m [] rises less = refl
none_below low m (x ∷ xs) rises less =
    at_behind m x xs (λ e. omega (arith, e, rises.0)) ∙ none_below (x.number + 1) m xs rises.1 (omega (arith, rises.0))

pub same_rising : (low high : ℕ) (xs ys : List Waiting) → RisesFrom low xs → RisesFrom high ys → ((m : ℕ) → waiting_at m xs ≡ waiting_at m ys) → xs ≡ ys
unfolding RisesFrom
same_rising low high [] [] up up' same = refl
same_rising low high [] (y ∷ ys) up up' same = absurd (none-some y (same y.number ∙ at_first y.number y ys refl))
same_rising low high (x ∷ xs) [] up up' same = absurd (none-some x (sym (same x.number) ∙ at_first x.number x xs refl))
same_rising low high (x ∷ xs) (y ∷ ys) up up' same =
    elim (cases_order x.number y.number) [
      | inl e ↦
          let head : x ≡ y = same_Some x y (sym (at_first x.number x xs refl) ∙ same x.number ∙ at_first x.number y ys (sym e)) in
          let rest = same_rising (x.number + 1) (y.number + 1) xs ys up.1 up'.1 (λ m.
          elim (cases_eq x.number m) [
            | inl here ↦ none_below (x.number + 1) m xs up.1 (omega (arith, here)) ∙ sym (none_below (y.number + 1) m ys up'.1 (omega (arith, here, e)))
            | inr other ↦ sym (at_behind m x xs other) ∙ same m ∙ at_behind m y ys (λ i. other (e ∙ i))
          ]) in
          cc
      | inr other ↦ elim other [
        | inl less ↦ absurd (none-some x (sym (sym (at_first x.number x xs refl) ∙ same x.number ∙ at_behind x.number y ys (λ i. omega (arith, less, i)) ∙ none_below (y.number + 1) x.number ys up'.1 (omega (arith, less)))))
        | inr more ↦ absurd (none-some y (sym (sym (at_first y.number y ys refl) ∙ sym (same y.number) ∙ at_behind y.number x xs (λ i. omega (arith, more, i)) ∙ none_below (x.number + 1) y.number xs up.1 (omega (arith, more)))))
      ]
    ]

-- a new number keeps them rising
pub inserted_rises : (low : ℕ) (w : Waiting) (xs : List Waiting) → low ≤ w.number → RisesFrom low xs → waiting_at w.number xs ≡ None → RisesFrom low (inserted w xs)
unfolding RisesFrom inserted
inserted_rises low w [] above rises absent = (above, tt)
inserted_rises low w (x ∷ xs) above rises absent =
    elim (cases_order w.number x.number) [
      | inl same ↦ absurd (none-some x (sym absent ∙ at_first w.number x xs (sym same)))
      | inr other ↦ elim other [
        | inl less ↦ rw (lt-ltb w.number x.number less) (above, (omega (arith, less), rises.1))
        | inr more ↦
            rw (le-ltb w.number x.number (omega (arith, more)))
            (rises.0, inserted_rises (x.number + 1) w xs (omega (arith, more)) rises.1 (sym (at_behind w.number x xs (λ e. omega (arith, more, e))) ∙ absent))
      ]
    ]

-- then it is there
inserted_here : (w : Waiting) (xs : List Waiting) → waiting_at w.number xs ≡ None → waiting_at w.number (inserted w xs) ≡ Some w
unfolding inserted
inserted_here w [] absent = at_first w.number w [] refl
inserted_here w (x ∷ xs) absent =
    elim (cases_order w.number x.number) [
      | inl same ↦ absurd (none-some x (sym absent ∙ at_first w.number x xs (sym same)))
      | inr other ↦ elim other [
        | inl less ↦ rw (lt-ltb w.number x.number less) (at_first w.number w (x ∷ xs) refl)
        | inr more ↦
            let apart : x.number ≢ w.number = λ e. omega (arith, more, e) in
            rw (le-ltb w.number x.number (omega (arith, more)))
            (at_behind w.number x (inserted w xs) apart ∙ inserted_here w xs (sym (at_behind w.number x xs apart) ∙ absent))
      ]
    ]

-- and the others are unchanged
inserted_others : (w : Waiting) (m : ℕ) (xs : List Waiting) → w.number ≢ m → waiting_at m (inserted w xs) ≡ waiting_at m xs
unfolding inserted
inserted_others w m [] other = at_behind m w [] other
inserted_others w m (x ∷ xs) other =
    elim (cases_lt w.number x.number) [
      | inl less ↦ rw (lt-ltb w.number x.number less) (at_behind m w (x ∷ xs) other)
      | inr le ↦
          rw (le-ltb w.number x.number le)
          (elim (cases_eq x.number m) [
            | inl same ↦ at_first m x (inserted w xs) same ∙ sym (at_first m x xs same)
            | inr apart ↦ at_behind m x (inserted w xs) apart ∙ inserted_others w m xs other ∙ sym (at_behind m x xs apart)
          ])
    ]

-- a rising list that has it, with the others unchanged, is the list with it inserted
pub is_inserted : (w : Waiting) (xs ys : List Waiting) → RisesFrom 0 xs → RisesFrom 0 ys → waiting_at w.number xs ≡ None → waiting_at w.number ys ≡ Some w → ((m : ℕ) → m ≢ w.number → waiting_at m ys ≡ waiting_at m xs) → ys ≡ inserted w xs
is_inserted w xs ys up up' absent here others =
    same_rising 0 0 ys (inserted w xs) up' (inserted_rises 0 w xs (omega arith) up absent) (λ m.
    elim (cases_eq m w.number) [
      | inl same ↦ ap (λ n. waiting_at n ys) same ∙ here ∙ sym (inserted_here w xs absent) ∙ ap (λ n. waiting_at n (inserted w xs)) (sym same)
      | inr other ↦ others m other ∙ sym (inserted_others w m xs (λ e. other (sym e)))
    ])

-- they rise without one too
pub without_rises : (low number : ℕ) (xs : List Waiting) → RisesFrom low xs → RisesFrom low (without number xs)
unfolding RisesFrom without
without_rises low number [] rises = tt
without_rises low number (x ∷ xs) rises =
    elim (cases_eq x.number number) [
      | inl same ↦ rw (eq-eqb x.number number same) (rises_lower low (x.number + 1) (without number xs) (omega (arith, rises.0)) (without_rises (x.number + 1) number xs rises.1))
      | inr other ↦ rw (ne_eqb x.number number other) (rises.0, without_rises (x.number + 1) number xs rises.1)
    ]

-- then it is not there
pub without_here : (number : ℕ) (xs : List Waiting) → waiting_at number (without number xs) ≡ None
unfolding without
without_here number [] = refl
without_here number (x ∷ xs) =
    elim (cases_eq x.number number) [
      | inl same ↦ rw (eq-eqb x.number number same) (without_here number xs)
      | inr other ↦ rw (ne_eqb x.number number other) (at_behind number x (without number xs) other ∙ without_here number xs)
    ]

pub without_others : (number m : ℕ) (xs : List Waiting) → m ≢ number → waiting_at m (without number xs) ≡ waiting_at m xs
unfolding without
without_others number m [] other = refl
without_others number m (x ∷ xs) other =
    elim (cases_eq x.number number) [
      | inl same ↦ rw (eq-eqb x.number number same) (without_others number m xs other ∙ sym (at_behind m x xs (λ e. other (sym e ∙ same))))
      | inr apart ↦
          rw (ne_eqb x.number number apart)
          (elim (cases_eq x.number m) [
            | inl here ↦ at_first m x (without number xs) here ∙ sym (at_first m x xs here)
            | inr there ↦ at_behind m x (without number xs) there ∙ without_others number m xs other ∙ sym (at_behind m x xs there)
          ])
    ]

-- a rising list that lacks it, with the others unchanged, is the list without it
pub is_without : (number : ℕ) (xs ys : List Waiting) → RisesFrom 0 xs → RisesFrom 0 ys → waiting_at number ys ≡ None → ((m : ℕ) → m ≢ number → waiting_at m ys ≡ waiting_at m xs) → ys ≡ without number xs
is_without number xs ys up up' gone others =
    same_rising 0 0 ys (without number xs) up' (without_rises 0 number xs up) (λ m.
    elim (cases_eq m number) [
      | inl same ↦ ap (λ n. waiting_at n ys) same ∙ gone ∙ sym (without_here number xs) ∙ ap (λ n. waiting_at n (without number xs)) (sym same)
      | inr other ↦ others m other ∙ sym (without_others number m xs other)
    ])
