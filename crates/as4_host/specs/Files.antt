-- Files by path, where a host is observable: `None` where it isn't, else `Some None` where there is no such file.
use Rattle.std.specs.Prelude.{◌≡◌, ◌⊎◌, ℕ, ◌<◌, ◌≤◌, List, [], length, Option, None, Some, Result, Ok, Err, ⊤, option_map, is_some}
use Rattle.as4_flow.specs.Flow.{Told}
use Rattle.as4_disk.specs.Image.{Image}
use Rattle.as4_disk.specs.declared.part.Part.{Part}
use Rattle.as4_disk.specs.declared.part.Part.TheVariants.{Selector, Leaf0, Leaf1}
use Rattle.as4_disk.specs.declared.file.Paths.{Paths}
use Rattle.as4_host.specs.declared.host.FileGot.{FileGot}
use Rattle.as4_host.specs.declared.host.FileGot.TheVariants.{Bytes, Missing, TooLong, Failed, NoMemory as NoRoom}
use Rattle.as4_host.specs.declared.host.HostRefusal.{HostRefusal}
use Rattle.as4_host.specs.declared.host.HostRefusal.TheVariants.{HostFailed, NoMemory}

-- the file after its bytes were written
abbrev pub holding : List ℕ → Option (Option (List ℕ)) → Option (Option (List ℕ))
holding bytes None = None
holding bytes (Some _) = Some (Some bytes)

-- the file, made empty where there was none
abbrev pub made : Option (Option (List ℕ)) → Option (Option (List ℕ))
made None = None
made (Some None) = Some (Some [])
made (Some (Some bytes)) = Some (Some bytes)

-- the bytes of the file, none where there is no such file
abbrev pub bytes_in : Option (Option (List ℕ)) → Option (List ℕ)
bytes_in None = None
bytes_in (Some None) = Some []
bytes_in (Some (Some bytes)) = Some bytes

-- the file has more bytes than this
abbrev pub IsLonger : ℕ → Option (List ℕ) → Type 0
IsLonger limit file = (bytes : List ℕ) × (file ≡ Some bytes) × (limit < length bytes)

-- what a read within this limit says of the file
abbrev pub IsRead : ℕ → Option (Option (List ℕ)) → FileGot → Type 0
IsRead limit file (Bytes bytes) = (length bytes ≤ limit) × Told file (λ held. held ≡ Some bytes)
IsRead limit file Missing = Told file (λ held. held ≡ None)
IsRead limit file TooLong = Told file (IsLonger limit)
IsRead limit file Failed = Unit {0}
IsRead limit file NoRoom = Unit {0}

-- what a write of these bytes says of the file: where the host failed, it may hold anything
abbrev pub IsWritten : List ℕ → Option (Option (List ℕ)) → Option (Option (List ℕ)) → Result ⊤ HostRefusal → Type 0
IsWritten bytes old new (Ok _) = new ≡ holding bytes old
IsWritten bytes old new (Err HostFailed) = is_some new ≡ is_some old
IsWritten bytes old new (Err NoMemory) = new ≡ old

-- what the opening of a store says of one of its files
abbrev pub IsMade : {T : Type 0} → Option (Option (List ℕ)) → Option (Option (List ℕ)) → Result T HostRefusal → Type 0
IsMade old new (Ok _) = new ≡ made old
IsMade old new (Err HostFailed) = (new ≡ old) ⊎ (new ≡ made old)
IsMade old new (Err NoMemory) = new ≡ old

-- the path of a part
abbrev pub path_of : Paths → Part → List ℕ
path_of paths Selector = paths.selector.now
path_of paths Leaf0 = paths.leaf0.now
path_of paths Leaf1 = paths.leaf1.now

-- the bytes of one part
abbrev pub part_of : Part → Option Image → Option (List ℕ)
part_of part image = option_map (λ bytes. bytes part) image
