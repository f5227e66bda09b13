-- The cases of a match.
use Rattle.std.proofs.Common.{Bool, true, false, Option, Some, None}
use Rattle.std.specs.Prelude.{MatchOption}
use Rattle.std.specs.Bool.{MatchBool}

pub by_option : {X : Type 0} (P : Type 0) (Q : X → Type 0) (R : Type 0) (o : Option X) → MatchOption o P Q → (P → R) → ((x : X) → Q x → R) → R
by_option P Q R None m none some = none m
by_option P Q R (Some x) m none some = some x m

pub by_bool : (P Q R : Type 0) (b : Bool) → MatchBool b P Q → (P → R) → (Q → R) → R
by_bool P Q R true m then else = then m
by_bool P Q R false m then else = else m
