-- What a handler does with what it opened.
use Rattle.std.specs.Prelude.{◌≡◌, ◌≢◌, ◌⊎◌, ◌+◌, ◌≤◌, ◌<◌, ◌^◌, ℕ, Bool, true, false, List, [], ◌∷◌, Option, None, IfSome, length, is_some}
use mathlib.Core.List.{IsPrefix}
use Rattle.as4_disk.specs.Image.{Image}
use Rattle.as4_disk.specs.declared.disk.Disk.{Ghosts as DiskMeaning}
use Rattle.as4_disk.specs.declared.fault_counts.FaultCounts.{FaultCounts}
use Rattle.as4_flow.specs.Flow.{Rose, Told}
use Rattle.as4_flow.specs.declared.clock.Clock.{Ghosts as ClockMeaning}
use Rattle.as4_flow.specs.declared.nonces.Nonces.{Ghosts as NoncesMeaning}
use Rattle.as4_host.specs.declared.door.Door.{Ghosts as DoorMeaning}
use Rattle.as4_host.specs.declared.host.Host.{Ghosts as HostMeaning}
use Rattle.as4_host.specs.declared.link.Link.{Ghosts as LinkMeaning}
use Rattle.exchange_model.specs.End.{End}
use Rattle.exchange_model.specs.Fold.{IsFoldedSize}
use Rattle.handler.specs.Announcing.{Announces, head_of}
use Rattle.handler.specs.Crews.{AllMadeTurns, IsCrew, WorkedOver, jobs_in, jobs_of}
use Rattle.handler.specs.Dismissal.{AllRetire, Gathering, gathering}
use Rattle.handler.specs.Hosts.{IsStill}
use Rattle.handler.specs.Opening.{SettlesStore}
use Rattle.handler.specs.declared.ending.HandlerEnd.{HandlerEnd}
use Rattle.handler.specs.declared.ending.HandlerEnd.TheVariants.{Served, NoMemory, HostFault}
use Rattle.handler.specs.declared.running.Ran.{Ran}
use Rattle.handler.specs.declared.running.Ran.TheVariants as ran
use Rattle.handler.specs.declared.setup.Setup.{Setup}
use Rattle.office.specs.Calls.{LeadsWhere, stop_of}
use Rattle.office.specs.Folds.{CanShorten}
use Rattle.office.specs.Left.{IsLeft}
use Rattle.office.specs.State.{OfficeState}
use Rattle.office.specs.declared.call.Call.{Call}
use Rattle.office.specs.declared.call.Call.TheVariants.{Folded, Stop}
use Rattle.office.specs.declared.fault.OfficeFault.{OfficeFault}
use Rattle.office.specs.declared.fault.OfficeFault.TheVariants as fault
use Rattle.pass_book.specs.States.{PassState}
use Rattle.workers.specs.declared.job.Worker.{Worker}

-- the first of these calls compacted the journal
abbrev pub BeginWithFold : List Call → Type 0
BeginWithFold calls = (size : ℕ) × (later : List Call) × (calls ≡ Folded size ∷ later)

-- The calls that a handler makes by itself, by how far it came: the compaction, if that makes the journal shorter, or none.
-- If the disk failed in it, the call says so.
abbrev pub AreOwn : End → Ran → List Call → Type 0
AreOwn end ran.Served calls = (calls ≡ []) ⊎ ((size : ℕ) × IsFoldedSize end size × (size < end.size) × (calls ≡ Folded size ∷ []))
AreOwn end ran.NoMemory calls = calls ≡ []
AreOwn end ran.DiskFault calls = (halt : FaultCounts) × (calls ≡ Stop None halt ∷ [])

-- how far a handler came whose journal wasn't compacted for this fault
abbrev pub ran_by : OfficeFault → Ran
ran_by fault.NoMemory = ran.NoMemory
ran_by other = ran.DiskFault

-- the end of a handler that came so far, where memory ran out for a turn or not
abbrev pub end_of : Ran → Bool → HandlerEnd
end_of ran.Served false = Served
end_of ran.Served true = NoMemory
end_of ran.NoMemory starved = NoMemory
end_of ran.DiskFault starved = HostFault

-- What is left of an office after these calls. If its disk had failed, its count of faults shows it.
pub record IsClosed {D : Type 0} (S : DiskMeaning D) (office : OfficeState D) (calls : List Call) (end : End) (disk : D) : Type 0 where
  pub leads : LeadsWhere (is_some (S.seen office.disk)) office.modes office.end calls end
  pub tells : is_some (S.seen disk) ≡ is_some (S.seen office.disk)
  pub left : Told (S.seen disk) (λ _. (c : Image) → S.may_leave disk c → IsLeft office.modes end calls c)
  pub stopped : IfSome (stop_of calls) (λ halt. Rose halt.before halt.after × (halt.after ≤ S.fault_count disk))

module _ {D W In Out L C N : Type 0} (S : DiskMeaning D) (G : DoorMeaning W In Out) (keep : ℕ) where
  -- The journal of an office that was just opened was compacted, if that makes it shorter, and then the workers made their
  -- turns; or that ended early.
  pub record RunsOver (office : OfficeState D) (later : OfficeState D) (old new : PassState Call) (crew done : List (Worker W L C N)) (how : Ran) : Type 0 where
    pub leads : LeadsWhere (is_some (S.seen office.disk)) office.modes office.end later.list later.end
    pub tells : is_some (S.seen later.disk) ≡ is_some (S.seen office.disk)
    pub modes : later.modes ≡ office.modes
    pub book : later.book ≡ office.book
    pub pass_book : new.book ≡ office.book
    pub stake : new.stake ≡ old.stake
    pub own : AreOwn office.end how new.list
    pub share : new.share ≡ length new.list
    pub served : how ≡ ran.Served → AllMadeTurns G keep crew done
    pub compacted : how ≡ ran.Served → is_some (S.seen office.disk) ≡ true → CanShorten office.end → BeginWithFold new.list
    pub early : how ≢ ran.Served → done ≡ crew
    pub failed : how ≡ ran.DiskFault → 1 ≤ S.fault_count later.disk

module _ {H Store Door Dialer Time Dice DoorIn DoorOut DialerIn DialerOut : Type 0} (M : HostMeaning H Store Door Dialer Time Dice DoorIn DoorOut DialerIn DialerOut) (G : DoorMeaning Door DoorIn DoorOut) (K : LinkMeaning Dialer DialerIn DialerOut) (S : DiskMeaning Store) (T : ClockMeaning Time) (R : NoncesMeaning Dice) where
  -- All workers were hired, the line was written, the workers made their turns, and were dismissed; then the office was
  -- closed and the store given back. Or this ended early, and nothing was kept. `told` and `later` are what the sink of the
  -- line had taken before and has taken after.
  pub record Works (setup : Setup) (told later : Option (List ℕ)) (pulls : List (List ℕ)) (peer local : Door) (office : OfficeState Store) (old new : H) (end : HandlerEnd) : Type 0 where
    pub crew : List (Worker Door Dialer Time Dice)
    pub done : List (Worker Door Dialer Time Dice)
    pub first : H
    pub pass : PassState Call
    pub how : Ran
    pub last : Gathering H
    pub calls : List Call
    pub close : End
    pub disk : Store
    pub hires : IsStill M old first
    pub staffed : IsCrew G office.book setup.turns (G.guests peer) (G.guests local) crew
    pub many : length crew ≤ 16
    pub own : AreOwn office.end how pass.list
    pub share : pass.share ≡ length pass.list
    pub stakes : pass.stake + length crew ≡ 2 ^ 63
    pub retires : AllRetire M G K setup done (gathering first pass false) last
    pub seen : IsPrefix last.pass.list calls
    pub alone : last.pass.stake ≡ 2 ^ 63 → last.pass.share ≡ length calls
    pub closed : IsClosed S office calls close disk
    pub settles : SettlesStore M S setup.journal.now last.host new disk
    pub worked : how ≡ ran.Served → WorkedOver S G K T R setup.keep office crew done
    pub served : how ≡ ran.Served → AllMadeTurns G setup.keep crew done × (jobs_in crew ≡ jobs_of pulls setup.workers)
    pub line : how ≡ ran.Served → Announces S office pass.list (head_of setup) told later
    pub silent : how ≢ ran.Served → later ≡ told
    pub early : how ≢ ran.Served → done ≡ crew
    pub compacted : how ≡ ran.Served → is_some (S.seen office.disk) ≡ true → CanShorten office.end → BeginWithFold calls
    pub failed : how ≡ ran.DiskFault → 1 ≤ S.fault_count disk
    pub ends : end ≡ end_of how last.starved
