-- A function that returns the fault of a call.
use Rattle.std.proofs.Common.{◌≡◌, Result, Ok, Err, sym, subst}
use Rattle.std.specs.Prelude.{IfErr}
use Rattle.std.specs.Result.{IsErrAnd}
use Rattle.pmodes.specs.Verdicts.{Refuses}
use Rattle.pmodes.specs.declared.fault.Fault.{Fault}

pub passes_on : {T A : Type 0} (r : Result T Fault) (e : Fault) (verdict : Result A Fault) → IsErrAnd r (λ x. x ≡ e) → Refuses verdict e → IfErr r (Refuses verdict)
passes_on (Ok t) e verdict is refuses = tt
passes_on {A = A} (Err x) e verdict is refuses = subst (λ (y : Fault). Refuses verdict y) (sym is) refuses
