-- How a handler gives back what its workers had.
use Rattle.std.specs.Prelude.{◌≡◌, ◌≢◌, ◌+◌, ◌≤◌, ℕ, Bool, false, List, [], ◌∷◌, Option, Some, None}
use mathlib.Core.List.{IsPrefix}
use Rattle.as4_host.specs.Counts.{raised}
use Rattle.as4_host.specs.Lists.{and_all}
use Rattle.as4_host.specs.declared.door.Door.{Ghosts as DoorMeaning}
use Rattle.as4_host.specs.declared.host.Host.{Ghosts as HostMeaning}
use Rattle.as4_host.specs.declared.link.Link.{Ghosts as LinkMeaning}
use Rattle.handler.specs.declared.setup.Setup.{Setup}
use Rattle.office.specs.declared.call.Call.{Call}
use Rattle.pass_book.specs.States.{PassState, longer}
use Rattle.workers.specs.declared.job.Job.{Job}
use Rattle.workers.specs.declared.job.Job.TheVariants as job
use Rattle.workers.specs.declared.job.Worker.{Worker}

-- the address at which a worker with this job serves
abbrev pub address_of : Setup → Job → List ℕ
address_of setup job.Local = setup.local.now
address_of setup other = setup.peer.now

-- a pass took in another
pub record Joins (old other new : PassState Call) : Type 0 where
  pub sums : new ≡ record old { list = longer old.list other.list; share = old.share + other.share; stake = old.stake + other.stake }
  pub one : IsPrefix old.list new.list
  pub two : IsPrefix other.list new.list

-- a host, the pass that takes in the others, and whether memory ran out for a turn
pub record Gathering (H : Type 0) : Type 0 where
  pub host : H
  pub pass : PassState Call
  pub starved : Bool

abbrev pub gathering : {H : Type 0} → H → PassState Call → Bool → Gathering H
gathering host pass starved = record { host = host; pass = pass; starved = starved }

module _ {H Store Door Dialer Time Dice DoorIn DoorOut DialerIn DialerOut : Type 0} (M : HostMeaning H Store Door Dialer Time Dice DoorIn DoorOut DialerIn DialerOut) (G : DoorMeaning Door DoorIn DoorOut) (K : LinkMeaning Dialer DialerIn DialerOut) where
  -- the host took a door back, at this address
  pub record SettlesDoor (address : List ℕ) (door : Door) (old new : H) : Type 0 where
    pub left : M.guests new address ≡ and_all (M.guests old address) (G.guests door)
    pub guests : (a : List ℕ) → a ≢ address → M.guests new a ≡ M.guests old a
    pub faults : M.fault_count new ≡ raised (G.faults door) (M.fault_count old)
    pub reads : M.reads new ≡ raised (G.reads door) (M.reads old)
    pub writes : M.writes new ≡ raised (G.writes door) (M.writes old)
    pub counted : (M.fault_count old ≤ M.fault_count new) × (M.reads old ≤ M.reads new) × (M.writes old ≤ M.writes new)
    pub files : (p : List ℕ) → M.file new p ≡ M.file old p
    pub names : M.names new ≡ M.names old

  abbrev pub SettlesDoorIf : List ℕ → Option Door → H → H → Type 0
  SettlesDoorIf address None old new = new ≡ old
  SettlesDoorIf address (Some door) old new = SettlesDoor address door old new

  -- the host took a dialer back
  pub record SettlesDialer (link : Dialer) (old new : H) : Type 0 where
    pub faults : M.fault_count new ≡ raised (K.faults link) (M.fault_count old)
    pub reads : M.reads new ≡ raised (K.reads link) (M.reads old)
    pub writes : M.writes new ≡ raised (K.writes link) (M.writes old)
    pub counted : (M.fault_count old ≤ M.fault_count new) × (M.reads old ≤ M.reads new) × (M.writes old ≤ M.writes new)
    pub guests : (a : List ℕ) → M.guests new a ≡ M.guests old a
    pub files : (p : List ℕ) → M.file new p ≡ M.file old p
    pub names : M.names new ≡ M.names old

  -- what a worker had was given back: its door, its dialer, and its pass
  pub record Retires (setup : Setup) (w : Worker Door Dialer Time Dice) (old new : Gathering H) : Type 0 where
    pub middle : H
    pub door : SettlesDoorIf (address_of setup w.job) w.door old.host middle
    pub link : SettlesDialer w.link middle new.host
    pub pass : Joins old.pass w.pass new.pass
    pub starved : new.starved ≡ false → (old.starved ≡ false) × (w.starved ≡ 0)

  -- what all of them had, the last one's first
  abbrev pub AllRetire : Setup → List (Worker Door Dialer Time Dice) → Gathering H → Gathering H → Type 0
  AllRetire setup [] old new = new ≡ old
  AllRetire setup (w ∷ ws) old new =
      (middle : Gathering H) × AllRetire setup ws old middle × Retires setup w middle new
