-- What giving back leaves of the host and of the pass.
use Rattle.std.proofs.Common.{◌≡◌, ◌≢◌, ℕ, Bool, true, false, ◌||◌, Contains, All, List, [], ◌∷◌, ◌++◌, Option, Some, None, refl, ap, ◌∙◌}
use Rattle.std.proofs.lemmas.List.Elements.{All-cons, All-head, All-nil, All-tail}
use Rattle.as4_host.specs.declared.door.Door.{Ghosts as DoorMeaning}
use Rattle.as4_host.specs.declared.host.Host.{Ghosts as HostMeaning}
use Rattle.as4_host.specs.declared.link.Link.{Ghosts as LinkMeaning}
use Rattle.handler.specs.Dismissal.{AllRetire, Gathering, Retires, SettlesDoor, SettlesDoorIf, SettlesDialer, address_of}
use Rattle.handler.specs.Hosts.{Touches, doors_of, words_of}
use Rattle.handler.specs.declared.setup.Setup.{Setup}
use Rattle.handler.proofs.HostLemmas.{asks_none, touches_then, touches_none}
use Rattle.workers.specs.declared.job.Job.{Job}
use Rattle.workers.specs.declared.job.Job.TheVariants as job
use Rattle.workers.specs.declared.job.Worker.{Worker}

-- an address that is none of the two isn't that of a job
elsewhere : (setup : Setup) (a : List ℕ) (j : Job) → a ≢ setup.peer.now → a ≢ setup.local.now → a ≢ address_of setup j
elsewhere setup a job.Peer not_peer not_local = not_peer
elsewhere setup a job.Local not_peer not_local = not_local
elsewhere setup a job.Push not_peer not_local = not_peer
elsewhere setup a (job.Pull mode) not_peer not_local = not_peer
elsewhere setup a job.Tick not_peer not_local = not_peer

module _ {H Store Door Dialer Time Dice DoorIn DoorOut DialerIn DialerOut : Type 0} (M : HostMeaning H Store Door Dialer Time Dice DoorIn DoorOut DialerIn DialerOut) (G : DoorMeaning Door DoorIn DoorOut) (K : LinkMeaning Dialer DialerIn DialerOut) (setup : Setup) where
  pub settled_touches : (address : List ℕ) (door : Door) (old new : H) → ((a : List ℕ) → a ≢ setup.peer.now → a ≢ setup.local.now → a ≢ address)
      → SettlesDoor M G K address door old new → Touches M setup old new
  settled_touches address door old new other settles = record {
    asks = asks_none M (words_of setup) old new settles.names;
    counts = record { faults = settles.counted.0; reads = settles.counted.1; writes = settles.counted.2 };
    files = λ p away. settles.files p;
    guests = λ a not_peer not_local. settles.guests a (other a not_peer not_local);
  }

  settled_if : (address : List ℕ) (door : Option Door) (old new : H) → ((a : List ℕ) → a ≢ setup.peer.now → a ≢ setup.local.now → a ≢ address)
      → SettlesDoorIf M G K address door old new → Touches M setup old new
  settled_if address None old new other same = touches_none M setup old new same
  settled_if address (Some door) old new other settles = settled_touches address door old new other settles

  dialer_touches : (link : Dialer) (old new : H) → SettlesDialer M G K link old new → Touches M setup old new
  dialer_touches link old new settles = record {
    asks = asks_none M (words_of setup) old new settles.names;
    counts = record { faults = settles.counted.0; reads = settles.counted.1; writes = settles.counted.2 };
    files = λ p away. settles.files p;
    guests = λ a not_peer not_local. settles.guests a;
  }

  pub retires_touches : (w : Worker Door Dialer Time Dice) (old new : Gathering H) → Retires M G K setup w old new → Touches M setup old.host new.host
  retires_touches w old new retires =
      touches_then M setup old.host retires.middle new.host
      (settled_if (address_of setup w.job) w.door old.host retires.middle (λ a not_peer not_local. elsewhere setup a w.job not_peer not_local) retires.door)
      (dialer_touches w.link retires.middle new.host retires.link)

  pub all_retire_touches : (ws : List (Worker Door Dialer Time Dice)) (old new : Gathering H) → AllRetire M G K setup ws old new → Touches M setup old.host new.host
  all_retire_touches [] old new same = touches_none M setup old.host new.host (ap (λ (g : Gathering H). g.host) same)
  all_retire_touches (w ∷ ws) old new (middle, first, last) =
      touches_then M setup old.host middle.host new.host (all_retire_touches ws old middle first) (retires_touches w middle new last)

  -- the files stay
  door_files : (address : List ℕ) (door : Option Door) (old new : H) → SettlesDoorIf M G K address door old new → (p : List ℕ) → M.file new p ≡ M.file old p
  door_files address None old new same p = ap (λ (h : H). M.file h p) same
  door_files address (Some door) old new settles p = settles.files p

  pub all_retire_files : (ws : List (Worker Door Dialer Time Dice)) (old new : Gathering H) → AllRetire M G K setup ws old new → (p : List ℕ) → M.file new.host p ≡ M.file old.host p
  all_retire_files [] old new same p = ap (λ (g : Gathering H). M.file g.host p) same
  all_retire_files (w ∷ ws) old new (middle, first, last) p =
      last.link.files p ∙ door_files (address_of setup w.job) w.door middle.host last.middle last.door p ∙ all_retire_files ws old middle first p

  -- the last ones' first
  pub all_retire_split : (xs ys : List (Worker Door Dialer Time Dice)) (old new : Gathering H) → AllRetire M G K setup (xs ++ ys) old new
      → (middle : Gathering H) × AllRetire M G K setup ys old middle × AllRetire M G K setup xs middle new
  all_retire_split [] ys old new all = (new, all, refl)
  all_retire_split (x ∷ xs) ys old new (middle, first, last) =
      let parts = all_retire_split xs ys old middle first in (parts.0, parts.1, (middle, parts.2, last))

-- the addresses of both doors are known
pub knows_address : (setup : Setup) (j : Job) (all : List (List ℕ)) → All (Contains all) (doors_of setup) → All (Contains all) (address_of setup j ∷ [])
knows_address setup job.Peer all known = All-cons (Contains all) setup.peer.now [] (All-head (Contains all) setup.peer.now (setup.local.now ∷ []) known) (All-nil (Contains all))
knows_address setup job.Local all known = All-tail (Contains all) setup.peer.now (setup.local.now ∷ []) known
knows_address setup job.Push all known = All-cons (Contains all) setup.peer.now [] (All-head (Contains all) setup.peer.now (setup.local.now ∷ []) known) (All-nil (Contains all))
knows_address setup (job.Pull mode) all known = All-cons (Contains all) setup.peer.now [] (All-head (Contains all) setup.peer.now (setup.local.now ∷ []) known) (All-nil (Contains all))
knows_address setup job.Tick all known = All-cons (Contains all) setup.peer.now [] (All-head (Contains all) setup.peer.now (setup.local.now ∷ []) known) (All-nil (Contains all))

-- starved before, or now
pub starved_or : (before now : Bool) → (before || now) ≡ false → (before ≡ false) × (now ≡ false)
starved_or false now none = (refl, none)
starved_or true now none = absurd cc
