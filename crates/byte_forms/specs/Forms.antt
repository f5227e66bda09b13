-- What bytes begin with.
use Rattle.std.specs.Prelude.{◌≡◌, ◌≢◌, ℕ, ◌<◌, ◌^◌, List, [], ◌∷◌, ◌++◌, length}

-- no bytes begin with the bodies of two of these
abbrev pub Once : {X : Type 0} → (X → Type 0) → (X → List ℕ) → Type 0
Once {X} is body = (x y : X) (r s : List ℕ) → is x → is y → body x ++ r ≡ body y ++ s → (x ≡ y) × (r ≡ s)

-- the bytes begin with the body of none of these
pub record Refuses {X : Type 0} (is : X → Type 0) (body : X → List ℕ) (bytes : List ℕ) : Type 0 where
  pub none : (x : X) (r : List ℕ) → is x → bytes ≡ body x ++ r → ⊥

-- a fact of each item
abbrev pub Each : {X : Type 0} → (X → Type 0) → List X → Type 0
Each is [] = Unit {0}
Each is (x ∷ xs) = is x × Each is xs

-- a list whose count fits four bytes
abbrev pub IsCounted : {X : Type 0} → List X → Type 0
IsCounted xs = length xs < 2 ^ 32

-- a counted list of these
abbrev pub IsList : {X : Type 0} → (X → Type 0) → List X → Type 0
IsList is list = IsCounted list × Each is list

-- one value and another
abbrev pub IsPair : {X Y : Type 0} → (X → Type 0) → (Y → Type 0) → X × Y → Type 0
IsPair is also pair = is pair.0 × also pair.1

-- bytes without the one that ends them
abbrev pub IsEnded : ℕ → List ℕ → Type 0
IsEnded end = Each (λ byte. byte ≢ end)
