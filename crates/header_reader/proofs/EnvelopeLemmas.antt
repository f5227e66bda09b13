-- Facts for the case that nothing is found.
use Rattle.std.proofs.Common.{◌≡◌, false, sym}
use Rattle.std.specs.Prelude.{Option, Some, None, is_some, MatchOption}
use Rattle.std.proofs.lemmas.Bool.{false≢true}

pub none_left : {A : Type 0} (o : Option A) (P : Type 0) (Q : A → Type 0) → is_some o ≡ false → MatchOption o P Q → P
none_left None P Q none left = left
none_left (Some x) P Q none left = absurd (false≢true (sym none))
