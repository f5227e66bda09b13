-- What a handler does to its host.
use Rattle.std.specs.Prelude.{◌≡◌, ◌≢◌, ◌≤◌, ℕ, List, [], ◌∷◌, ◌++◌, Some, Contains, All, codes}
use Rattle.as4_disk.specs.declared.file.Paths.{Paths}
use Rattle.as4_disk.specs.declared.part.Part.{Part}
use Rattle.as4_disk.specs.declared.part.Part.TheVariants.{Selector, Leaf0, Leaf1}
use Rattle.as4_flow.specs.Flow.{Told}
use Rattle.as4_host.specs.Lists.{and_all}
use Rattle.as4_host.specs.declared.host.Host.{Ghosts as HostMeaning}
use Rattle.handler.specs.declared.setup.Setup.{Setup}

-- the path of each of a journal's files
abbrev pub file_of : List ℕ → Part → List ℕ
file_of journal Leaf0 = journal
file_of journal Leaf1 = journal ++ codes ".1"
file_of journal Selector = journal ++ codes ".s"

-- these are the paths of the journal's files
pub record AreOf (journal : List ℕ) (paths : Paths) : Type 0 where
  pub leaf0 : paths.leaf0.now ≡ journal
  pub leaf1 : paths.leaf1.now ≡ journal ++ codes ".1"
  pub selector : paths.selector.now ≡ journal ++ codes ".s"

-- the addresses of the doors
abbrev pub doors_of : Setup → List (List ℕ)
doors_of setup = setup.peer.now ∷ setup.local.now ∷ []

-- the paths of the journal's files
abbrev pub files_of : List ℕ → List (List ℕ)
files_of journal = journal ∷ (journal ++ codes ".1") ∷ (journal ++ codes ".s") ∷ []

-- the names that a setup gives
abbrev pub words_of : Setup → List (List ℕ)
words_of setup = setup.modes.now ∷ doors_of setup ++ files_of setup.journal.now

module _ {H Store Door Dialer Time Dice DoorIn DoorOut DialerIn DialerOut : Type 0} (M : HostMeaning H Store Door Dialer Time Dice DoorIn DoorOut DialerIn DialerOut) where
  -- the host was asked for each of these names
  abbrev pub Knows : List (List ℕ) → H → Type 0
  Knows words host = Told (M.names host) (λ all. All (Contains all) words)

  -- the host was asked for some of these names, and for no others
  pub record Asks (words : List (List ℕ)) (old new : H) : Type 0 where
    pub more : List (List ℕ)
    pub are : M.names new ≡ and_all (M.names old) (Some more)
    pub each : All (Contains words) more

  -- no count has fallen
  pub record CountsOn (old new : H) : Type 0 where
    pub faults : M.fault_count old ≤ M.fault_count new
    pub reads : M.reads old ≤ M.reads new
    pub writes : M.writes old ≤ M.writes new

  -- what a handler does to its host, but for its own files and guests
  pub record Touches (setup : Setup) (old new : H) : Type 0 where
    pub asks : Asks (words_of setup) old new
    pub counts : CountsOn old new
    pub files : (p : List ℕ) → ((q : Part) → p ≢ file_of setup.journal.now q) → M.file new p ≡ M.file old p
    pub guests : (a : List ℕ) → a ≢ setup.peer.now → a ≢ setup.local.now → M.guests new a ≡ M.guests old a

  -- nothing changed but the answers that are left, and what the dialer settled last was asked for and sent
  pub record IsStill (old new : H) : Type 0 where
    pub files : (p : List ℕ) → M.file new p ≡ M.file old p
    pub guests : (a : List ℕ) → M.guests new a ≡ M.guests old a
    pub names : M.names new ≡ M.names old
    pub faults : M.fault_count new ≡ M.fault_count old
    pub reads : M.reads new ≡ M.reads old
    pub writes : M.writes new ≡ M.writes old
