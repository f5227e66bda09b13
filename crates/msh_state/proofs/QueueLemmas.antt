-- Inserting into a list of waiting submissions, and removing from it.
use Rattle.std.proofs.Common.{◌≡◌, ℕ, ◌<◌, ◌≤◌, List, [], ◌∷◌, eqb, not, Some, None, refl, ap, ◌∙◌, arith, sym, inl, inr}
use Rattle.std.proofs.lemmas.Bool.{eq-eqb, ne_eqb, cond-true, cond-false, lt-ltb, le-ltb, cases_eq}
use Rattle.std.proofs.lemmas.Option.{none-some}
use Rattle.channels.specs.Queues.{inserted, waiting_at, without}
use Rattle.channels.specs.declared.waiting.Waiting.{Waiting}

-- each number is above this one
abbrev pub AreAbove : ℕ → List Waiting → Type 0
AreAbove k [] = Unit {0}
AreAbove k (w ∷ ws) = (k < w.number) × AreAbove k ws

pub without_same : (k : ℕ) (w : Waiting) (ws : List Waiting) → w.number ≡ k → without k (w ∷ ws) ≡ without k ws
unfolding without
without_same k w ws e =
    cond-false (not (eqb w.number k)) (w ∷ without k ws) (without k ws) (ap not (eq-eqb w.number k e))

pub without_other : (k : ℕ) (w : Waiting) (ws : List Waiting) → (w.number ≡ k → ⊥) → without k (w ∷ ws) ≡ w ∷ without k ws
unfolding without
without_other k w ws e =
    cond-true (not (eqb w.number k)) (w ∷ without k ws) (without k ws) (ap not (ne_eqb w.number k e))

pub inserted_before : (w x : Waiting) (xs : List Waiting) → w.number < x.number → inserted w (x ∷ xs) ≡ w ∷ (x ∷ xs)
unfolding inserted
inserted_before w x xs l = cond-true _ (w ∷ (x ∷ xs)) (x ∷ inserted w xs) (lt-ltb w.number x.number l)

pub inserted_after : (w x : Waiting) (xs : List Waiting) → x.number ≤ w.number → inserted w (x ∷ xs) ≡ x ∷ inserted w xs
unfolding inserted
inserted_after w x xs l = cond-false _ (w ∷ (x ∷ xs)) (x ∷ inserted w xs) (le-ltb w.number x.number l)

-- where all are above it, removing it changes nothing
pub above_without : (k : ℕ) (ws : List Waiting) → AreAbove k ws → without k ws ≡ ws
unfolding without
above_without k [] h = refl
above_without k (w ∷ ws) h =
    without_other k w ws (λ e. omega (arith, h.0)) ∙ ap (λ xs. w ∷ xs) (above_without k ws h.1)

-- where all are above it, it is inserted first
pub above_inserted : (w : Waiting) (ws : List Waiting) → AreAbove w.number ws → inserted w ws ≡ w ∷ ws
unfolding inserted
above_inserted w [] h = refl
above_inserted w (x ∷ xs) h = inserted_before w x xs h.0

pub above_at : (k : ℕ) (ws : List Waiting) → AreAbove k ws → waiting_at k ws ≡ None
above_at k [] h = refl
above_at k (w ∷ ws) h =
    cond-false _ _ _ (ne_eqb w.number k (λ e. omega (arith, h.0))) ∙ above_at k ws h.1

-- a removed one is gone
pub at_without : (k : ℕ) (ws : List Waiting) → waiting_at k (without k ws) ≡ None
unfolding without
at_without k [] = refl
at_without k (w ∷ ws) =
    elim (cases_eq w.number k) [
      | inl e ↦ ap (waiting_at k) (without_same k w ws e) ∙ at_without k ws
      | inr d ↦ ap (waiting_at k) (without_other k w ws d) ∙ cond-false _ _ _ (ne_eqb w.number k d) ∙ at_without k ws
    ]

-- where it doesn't wait, removing it changes nothing
pub without_none : (k : ℕ) (ws : List Waiting) → waiting_at k ws ≡ None → without k ws ≡ ws
unfolding without
without_none k [] h = refl
without_none k (w ∷ ws) h =
    elim (cases_eq w.number k) [
      | inl e ↦ absurd (none-some w (sym h ∙ cond-true _ (Some w) (waiting_at k ws) (eq-eqb w.number k e)))
      | inr d ↦ without_other k w ws d ∙ ap (λ xs. w ∷ xs) (without_none k ws (sym (cond-false _ (Some w) (waiting_at k ws) (ne_eqb w.number k d)) ∙ h))
    ]
