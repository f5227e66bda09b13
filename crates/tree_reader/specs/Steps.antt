-- Partial steps, in sequence.
use Rattle.std.specs.Prelude.{List, [], ◌∷◌, ◌++◌, Bool, if◌then◌else◌, Option, Some, None}
use Rattle.byte_forms.specs.Cuts.{◌>>=◌}

-- x, if the test holds
abbrev pub given : {A : Type 0} → Bool → Option A → Option A
given test x = if test then x else None

-- a prefix before what follows, if that has a value
abbrev pub with_front : {A : Type 0} → List A → Option (List A) → Option (List A)
with_front front None = None
with_front front (Some others) = Some (front ++ others)

-- the results of all items, in order, if each has one
abbrev pub gathered : {X Y : Type 0} → (X → Option (List Y)) → List X → Option (List Y)
gathered of_one [] = Some []
gathered of_one (x ∷ xs) = of_one x >>= λ ys. with_front ys (gathered of_one xs)
