-- The cases of a match, for two outcomes or one.
use Rattle.std.proofs.Common.{◌≡◌, Bool, true, false, Option, Some, None, refl}
use Rattle.std.specs.Prelude.{MatchOption}
use Rattle.std.specs.Bool.{MatchBool}

-- both take the same case
pub both_option : {X : Type 0} (P P' : Type 0) (Q Q' : X → Type 0) (R : Type 0) (o : Option X) → MatchOption o P Q → MatchOption o P' Q'
    → (P → P' → R) → ((x : X) → Q x → Q' x → R) → R
both_option P P' Q Q' R None m n none some = none m n
both_option P P' Q Q' R (Some x) m n none some = some x m n

pub both_bool : (P P' Q Q' R : Type 0) (b : Bool) → MatchBool b P Q → MatchBool b P' Q' → (P → P' → R) → (Q → Q' → R) → R
both_bool P P' Q Q' R true m n then else = then m n
both_bool P P' Q Q' R false m n then else = else m n

-- each case has one
pub some_option : {X Y : Type 0} (P : Y → Type 0) (Q : X → Y → Type 0) (o : Option X) → ((y : Y) × P y)
    → ((x : X) → o ≡ Some x → (y : Y) × Q x y) → (y : Y) × MatchOption o (P y) (λ x. Q x y)
some_option P Q None none some = none
some_option P Q (Some x) none some = some x refl

pub some_bool : {Y : Type 0} (P Q : Y → Type 0) (b : Bool) → (b ≡ true → (y : Y) × P y) → (b ≡ false → (y : Y) × Q y)
    → (y : Y) × MatchBool b (P y) (Q y)
some_bool P Q true then else = then refl
some_bool P Q false then else = else refl
