-- What an option was made from, if it has a value.
use Rattle.std.proofs.Common.{◌≡◌, Bool, true, false, cond, Option, Some, None, refl}
use Rattle.std.specs.Prelude.{option_map}
use Rattle.std.proofs.lemmas.Option.{same_Some}

-- one of two choices is the result
pub either : {X P : Type 0} (test : Bool) (x y z : X) → cond test x y ≡ z → (x ≡ z → P) → (y ≡ z → P) → P
either true x y z e first second = first e
either false x y z e first second = second e

-- the first choice has a value, and the second has none
pub only_first : {X : Type 0} (test : Bool) (x : Option X) (z : X) → cond test x None ≡ Some z → x ≡ Some z
only_first true x z e = e
only_first false x z e = absurd cc

-- a value that a function was applied to
pub applied : {X Y P : Type 0} (f : X → Y) (o : Option X) (y : Y) → option_map f o ≡ Some y → ((x : X) → o ≡ Some x → f x ≡ y → P) → P
applied f None y e k = absurd cc
applied f (Some x) y e k = k x refl (same_Some (f x) y e)
