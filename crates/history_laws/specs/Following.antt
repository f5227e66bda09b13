-- How calls go on after earlier calls.
use Rattle.std.specs.Prelude.{◌≡◌, Bool, List, Option, Some, None}
use Rattle.std.specs.List.{AllByRecursion}
use Rattle.as4_disk.specs.declared.fault_counts.FaultCounts.{FaultCounts}
use Rattle.mode_values.specs.declared.mode.Mode.{Mode}
use Rattle.exchange_model.specs.End.{End}
use Rattle.office.specs.Calls.{IsRefusedAt, LeadsWhere}
use Rattle.office.specs.declared.call.Call.{Call}

-- After calls that led to the first end, with this fault among them or none, these calls lead to the second end: without a
-- fault they lead there from the first. After a fault each is refused with its counts, and the end stays.
abbrev pub GoesOn : Bool → List Mode → Option FaultCounts → End → List Call → End → Type 0
GoesOn observable modes None here calls end = LeadsWhere observable modes here calls end
GoesOn observable modes (Some halt) here calls end = AllByRecursion (IsRefusedAt halt) calls × (here ≡ end)
