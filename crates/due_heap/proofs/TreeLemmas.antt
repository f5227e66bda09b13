-- Places of a heap and the places below them: the children of the place p are 2p + 1 and 2p + 2.
use Rattle.std.proofs.Common.{◌≡◌, ◌≢◌, ℕ, zero, suc, ◌+◌, ◌-◌, ◌*◌, ◌/◌, ◌<◌, ◌≤◌, ◌==◌, ◌⊎◌, inl, inr, true, false, cond, nat_lt, refl, sym, ap, ◌∙◌, arith}
use Rattle.std.proofs.lemmas.Bool.{cases_eq, cases_lt, cond-true, cond-false, eq-eqb, ne_eqb}
use Rattle.std.proofs.lemmas.Bool.Decides.{nat_tests}
use Rattle.due_heap.specs.Counting.{under, under_in}
use Rattle.due_heap.specs.Order.{IsOrdered}

-- the place itself, the earlier ones, the later ones
itself_in : (steps at : ℕ) → under_in (suc steps) at at ≡ 1
unfolding under_in
itself_in steps at = cond-true _ _ _ (eq-eqb at at refl)

before_in : (steps at i : ℕ) → i < at → under_in steps at i ≡ 0
unfolding under_in
before_in zero at i less = refl
before_in (suc steps) at i less =
    let other : (i == at) ≡ false = ne_eqb i at (λ same. omega arith) in
    let before : nat_lt i at ≡ true = grind (arith, nat_tests) in
    rw (other, before) refl

behind_in : (steps at i : ℕ) → at < i → under_in (suc steps) at i ≡ under_in steps at ((i - 1) / 2)
unfolding under_in
behind_in steps at i more =
    let other : (i == at) ≡ false = ne_eqb i at (λ same. omega arith) in
    let behind : nat_lt i at ≡ false = grind (arith, nat_tests) in
    rw (other, behind) refl

-- more steps than necessary change nothing
more_steps : (steps more at i : ℕ) → i < steps → under_in (steps + more) at i ≡ under_in steps at i
more_steps zero more at i few = absurd (omega arith)
more_steps (suc steps) more at i few = elim (cases_eq i at) [
  | inl same ↦
      let next : suc steps + more ≡ suc (steps + more) = omega arith in
      ap (λ n. under_in n at i) next ∙ ap (under_in (suc (steps + more)) at) same ∙ itself_in (steps + more) at
      ∙ sym (ap (under_in (suc steps) at) same ∙ itself_in steps at)
  | inr other ↦ elim (cases_lt i at) [
    | inl less ↦ before_in (suc steps + more) at i less ∙ sym (before_in (suc steps) at i less)
    | inr least ↦
        let more_than : at < i = omega arith in
        let next : suc steps + more ≡ suc (steps + more) = omega arith in
        ap (λ n. under_in n at i) next ∙ behind_in (steps + more) at i more_than
        ∙ more_steps steps more at ((i - 1) / 2) (omega arith)
        ∙ sym (behind_in steps at i more_than)
  ]
]

pub itself : (at : ℕ) → under at at ≡ 1
unfolding under
itself at = itself_in at at

pub before : (at i : ℕ) → i < at → under at i ≡ 0
unfolding under
before at i less = before_in (suc i) at i less

pub behind : (at i : ℕ) → at < i → under at i ≡ under at ((i - 1) / 2)
unfolding under
behind at i more =
    let above : ℕ = (i - 1) / 2 in
    let spare : i ≡ suc above + (i - suc above) = omega arith in
    behind_in i at i more ∙ ap (λ n. under_in n at above) spare ∙ more_steps (suc above) (i - suc above) at above (omega arith)

-- 1 where two places are equal, and else 0
one_at : (at i : ℕ) → i ≡ at → ◌≡◌ {A = ℕ} (cond (i == at) 1 0) 1
one_at at i same = cond-true _ _ _ (eq-eqb i at same)

none_at : (at i : ℕ) → i ≢ at → ◌≡◌ {A = ℕ} (cond (i == at) 1 0) 0
none_at at i other = cond-false _ _ _ (ne_eqb i at other)

-- a place and all below it are the place, its two children, and all below these
parts_behind : (at i : ℕ) → at < i
    → under at ((i - 1) / 2) ≡ cond ((i - 1) / 2 == at) 1 0 + (under (at * 2 + 1) ((i - 1) / 2) + under (at * 2 + 2) ((i - 1) / 2))
    → under at i ≡ cond (i == at) 1 0 + (under (at * 2 + 1) i + under (at * 2 + 2) i)
parts_behind at i more above =
    let here : under at i ≡ under at ((i - 1) / 2) = behind at i more in
    let none : ◌≡◌ {A = ℕ} (cond (i == at) 1 0) 0 = none_at at i (λ same. omega arith) in
    elim (cases_lt i (at * 2 + 1)) [
      | inl less ↦ omega (arith, here, none, before at ((i - 1) / 2) (omega arith), before (at * 2 + 1) i less, before (at * 2 + 2) i (omega arith))
      | inr from ↦ elim (cases_eq i (at * 2 + 1)) [
        | inl left ↦
            let up : (i - 1) / 2 ≡ at = omega arith in
            omega (arith, here, none, ap (under at) up, itself at, ap (under (at * 2 + 1)) left, itself (at * 2 + 1), before (at * 2 + 2) i (omega arith))
        | inr past ↦
            let first : under (at * 2 + 1) i ≡ under (at * 2 + 1) ((i - 1) / 2) = behind (at * 2 + 1) i (omega arith) in
            elim (cases_eq i (at * 2 + 2)) [
              | inl right ↦
                  let up : (i - 1) / 2 ≡ at = omega arith in
                  omega (
                    arith,
                    here,
                    none,
                    ap (under at) up,
                    itself at,
                    first,
                    before (at * 2 + 1) ((i - 1) / 2) (omega arith),
                    ap (under (at * 2 + 2)) right,
                    itself (at * 2 + 2),
                  )
              | inr later ↦
                  omega (arith, here, none, above, none_at at ((i - 1) / 2) (λ same. omega arith), first, behind (at * 2 + 2) i (omega arith))
            ]
      ]
    ]

parts_to : (steps at i : ℕ) → i < steps → under at i ≡ cond (i == at) 1 0 + (under (at * 2 + 1) i + under (at * 2 + 2) i)
parts_to zero at i few = absurd (omega arith)
parts_to (suc steps) at i few = elim (cases_lt at i) [
  | inl more ↦ parts_behind at i more (parts_to steps at ((i - 1) / 2) (omega arith))
  | inr least ↦ elim (cases_eq i at) [
    | inl same ↦
        omega (arith, ap (under at) same, itself at, one_at at i same, before (at * 2 + 1) i (omega arith), before (at * 2 + 2) i (omega arith))
    | inr other ↦
        omega (arith, before at i (omega arith), none_at at i other, before (at * 2 + 1) i (omega arith), before (at * 2 + 2) i (omega arith))
  ]
]

pub parts : (at i : ℕ) → under at i ≡ cond (i == at) 1 0 + (under (at * 2 + 1) i + under (at * 2 + 2) i)
parts at i = parts_to (suc i) at i (omega arith)

-- all places are the first or below it
all_to : (steps i : ℕ) → i < steps → under 0 i ≡ 1
all_to zero i few = absurd (omega arith)
all_to (suc steps) i few = elim (cases_eq i 0) [
  | inl same ↦ ap (under 0) same ∙ itself 0
  | inr other ↦ behind 0 i (omega arith) ∙ all_to steps ((i - 1) / 2) (omega arith)
]

pub all : (i : ℕ) → under 0 i ≡ 1
all i = all_to (suc i) i (omega arith)

-- no place below a place is less than it
least_to : (f : ℕ → ℕ) (n steps at i : ℕ) → IsOrdered f n → i < n → i < steps → (under at i ≡ 0) ⊎ (f at ≤ f i)
least_to f n zero at i ordered within few = absurd (omega arith)
least_to f n (suc steps) at i ordered within few = elim (cases_eq i at) [
  | inl same ↦ inr (omega (arith, ap f same))
  | inr other ↦ elim (cases_lt i at) [
    | inl less ↦ inl (before at i less)
    | inr least ↦
        let up : f ((i - 1) / 2) ≤ f i = ordered ((i - 1) / 2) i (omega arith) (omega arith) within in
        elim (least_to f n steps at ((i - 1) / 2) ordered (omega arith) (omega arith)) [
          | inl none ↦ inl (behind at i (omega arith) ∙ none)
          | inr first ↦ inr (omega arith)
        ]
  ]
]

pub least_under : (f : ℕ → ℕ) (n at i : ℕ) → IsOrdered f n → i < n → (under at i ≡ 0) ⊎ (f at ≤ f i)
least_under f n at i ordered within = least_to f n (suc i) at i ordered within (omega arith)

-- a place is below another at most once
one_in : (steps at i : ℕ) → under_in steps at i ≤ 1
unfolding under_in
one_in zero at i = omega arith
one_in (suc steps) at i = elim (cases_eq i at) [
  | inl same ↦ omega (arith, ap (λ n. under_in (suc steps) at n) same, itself_in steps at)
  | inr other ↦ elim (cases_lt i at) [
    | inl less ↦ omega (arith, before_in (suc steps) at i less)
    | inr least ↦ omega (arith, behind_in steps at i (omega arith), one_in steps at ((i - 1) / 2))
  ]
]

pub under_one : (at i : ℕ) → under at i ≤ 1
unfolding under
under_one at i = one_in (suc i) at i
