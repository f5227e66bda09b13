-- Lemmas on bytes that are parted in two ways.
use Rattle.std.proofs.Common.{◌≡◌, ◌⊎◌, ℕ, List, [], ◌∷◌, ◌++◌, inl, inr, refl, sym}
use Rattle.std.specs.Prelude.{All}
use Rattle.std.proofs.lemmas.List.Elements.{All-nil, All-cons, All-head, All-tail}

-- the first front begins the second, or the second the first
pub split : (a b c d : List ℕ) → a ++ b ≡ c ++ d → ((e : List ℕ) × (a ≡ c ++ e) × (d ≡ e ++ b)) ⊎ ((e : List ℕ) × (c ≡ a ++ e) × (b ≡ e ++ d))
split [] b c d same = inr (c, refl, same)
split (x ∷ a) b [] d same = inl (x ∷ a, refl, sym same)
split (x ∷ a) b (y ∷ c) d same =
    let first : x ≡ y = cc in
    let others : a ++ b ≡ c ++ d = cc in
    elim (split a b c d others) [
      | inl more ↦ inl (more.0, cc (first, more.1), more.2)
      | inr more ↦ inr (more.0, cc (first, more.1), more.2)
    ]

pub all_front : (P : ℕ → Type 0) (front rest : List ℕ) → All P (front ++ rest) → All P front
all_front P [] rest all = All-nil P
all_front P (b ∷ front) rest all = All-cons P b front (All-head P b (front ++ rest) all) (all_front P front rest (All-tail P b (front ++ rest) all))
