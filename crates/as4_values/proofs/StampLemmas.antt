-- Where a text goes wrong as a stamp.
use Rattle.std.proofs.Common.{◌≡◌, ℕ, ◌+◌, ◌<◌, ◌≤◌, inl, inr, List, Some, arith, sym, ◌∙◌}
use Rattle.std.proofs.lemmas.Bool.{cases_lt}
use Rattle.as4_values.specs.Stamp.{IsForm, Begins, StampGoesWrong}
use Rattle.as4_values.specs.StampParts.{Stops}
use Rattle.as4_values.proofs.FormLemmas.{fits_less}

pub stop_is_wrong : (text : List ℕ) (at : ℕ) → Stops IsForm text at → StampGoesWrong text at
stop_is_wrong text at stops = inl (stops.begins, λ begins. stops.no_more begins.0 begins.1 begins.2, stops.not_whole)

begins_less : (text : List ℕ) (m n : ℕ) → m ≤ n → Begins text n → Begins text m
begins_less text m n le begins = (begins.0, begins.1, fits_less begins.0 text m n le begins.2)

not_later : (text : List ℕ) (a b : ℕ) → (Begins text (a + 1) → ⊥) → Begins text b → a < b → ⊥
not_later text a b no_more begins less = no_more (begins_less text (a + 1) b (omega arith) begins)

pub wrong_once : (text : List ℕ) (a b : ℕ) → StampGoesWrong text a → StampGoesWrong text b → a ≡ b
wrong_once text a b (inl one) (inl other) =
    elim (cases_lt a b) as (λ _. a ≡ b) [
      | inl less ↦ absurd (not_later text a b one.1 other.0 less)
      | inr rest ↦ elim (cases_lt b a) as (λ _. a ≡ b) [
        | inl more ↦ absurd (not_later text b a other.1 one.0 more)
        | inr same ↦ omega arith
      ]
    ]
wrong_once text a b (inl one) (inr other) = absurd (one.2 other.0)
wrong_once text a b (inr one) (inl other) = absurd (other.2 one.0)
wrong_once text a b (inr one) (inr other) = let same : Some a ≡ Some b = sym one.1 ∙ other.1 in cc
