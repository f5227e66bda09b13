-- What a host says by the answer of a call: which names were asked for, and whether its count of faults rose.
use Rattle.std.specs.Prelude.{◌≡◌, ℕ, List, [], ◌∷◌, Option, Some, Result, Ok, Err}
use Rattle.as4_disk.specs.Faults.{Rises}
use Rattle.as4_disk.specs.declared.file.Paths.{Paths}
use Rattle.as4_host.specs.Lists.{and_all}
use Rattle.as4_host.specs.declared.host.FileGot.{FileGot}
use Rattle.as4_host.specs.declared.host.FileGot.TheVariants.{Bytes, Missing, TooLong, Failed, NoMemory as NoRoom}
use Rattle.as4_host.specs.declared.host.HostRefusal.{HostRefusal}
use Rattle.as4_host.specs.declared.host.HostRefusal.TheVariants.{HostFailed, NoMemory}

-- the names asked for: these too, unless there was no memory
abbrev pub asked : {T : Type 0} → Result T HostRefusal → List (List ℕ) → Option (List (List ℕ)) → Option (List (List ℕ))
asked (Ok _) names all = and_all all (Some names)
asked (Err HostFailed) names all = and_all all (Some names)
asked (Err NoMemory) names all = all

-- the count of faults rises where the host failed, and else it stays
abbrev pub HasHostCause : {T : Type 0} → ℕ → ℕ → Result T HostRefusal → Type 0
HasHostCause before now (Ok _) = now ≡ before
HasHostCause before now (Err HostFailed) = Rises before now
HasHostCause before now (Err NoMemory) = now ≡ before

-- a read as the answer of a call
abbrev pub outcome : FileGot → Result FileGot HostRefusal
outcome (Bytes bytes) = Ok (Bytes bytes)
outcome Missing = Ok Missing
outcome TooLong = Ok TooLong
outcome Failed = Err HostFailed
outcome NoRoom = Err NoMemory

-- the names of a store's files, in the order in which they are asked for
abbrev pub names_of : Paths → List (List ℕ)
names_of paths = paths.leaf0.now ∷ paths.leaf1.now ∷ paths.selector.now ∷ []
