-- A refusal that is passed on.
use Rattle.std.proofs.Common.{◌≡◌, ap, Err}
use Rattle.std.specs.Prelude.{Result}
use Rattle.event_code.specs.declared.refusal.BodyRefusal.{BodyRefusal}
use Rattle.event_code.specs.declared.refusal.BodyRefusal.TheVariants.{NotBody}

pub passed : {T U : Type 0} (r : Result T BodyRefusal) (e : BodyRefusal) → (y : BodyRefusal) × (r ≡ Err y) × (y ≡ e) → r ≡ Err NotBody
    → ◌≡◌ {A = Result U BodyRefusal} (Err e) (Err NotBody)
passed r e p is = let a = p.1 in let b = p.2 in let same : e ≡ NotBody = cc in ap Err same
