-- The calls that a pass has seen are part of a run of two offices.
use Rattle.std.proofs.Common.{◌≡◌, Bool, true, List, [], Option, None, sym, ap, subst}
use Rattle.as4_disk.specs.declared.fault_counts.FaultCounts.{FaultCounts}
use Rattle.mode_values.specs.declared.mode.Mode.{Mode}
use Rattle.exchange_model.specs.End.{End}
use Rattle.office.specs.Calls.{LeadsWhere, stop_of}
use Rattle.office.specs.declared.call.Call.{Call}
use Rattle.history_laws.specs.Following.{GoesOn}
use Rattle.history_laws.specs.TwoOffices.{Side}
use Rattle.sessions.specs.Shared.{IsLegal}
use Rattle.sessions.specs.declared.naming.Opening.{Ghosts as OpeningMeaning}

-- legal calls go on from an office that was just opened
pub goes_on : {J : Type 0} (N : OpeningMeaning J) (side : Side) (calls : List Call) → N.observable ≡ true → side.end ≡ N.start → side.modes ≡ N.modes
    → side.calls ≡ [] → (legal : IsLegal N calls) → GoesOn true side.modes (stop_of side.calls) side.end calls legal.0
goes_on N side calls seen start modes none legal =
    let P : Bool → List Mode → End → Type 0 = λ o m s. LeadsWhere o m s calls legal.0 in
    let first : LeadsWhere true N.modes N.start calls legal.0 = subst (λ (o : Bool). P o N.modes N.start) seen legal.1 in
    let second : LeadsWhere true side.modes N.start calls legal.0 = subst (λ (m : List Mode). P true m N.start) (sym modes) first in
    let third : LeadsWhere true side.modes side.end calls legal.0 = subst (λ (s : End). P true side.modes s) (sym start) second in
    subst (λ (f : Option FaultCounts). GoesOn true side.modes f side.end calls legal.0) (sym (ap stop_of none)) third
