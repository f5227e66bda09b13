-- A host in memory.
use Rattle.std.specs.Prelude.{ℕ, List, [], Option, option_and_then, unwrap_or, All, IsSome}
use Rattle.as4_host.specs.declared.table.Row.{Row}
use Rattle.as4_host.specs.Rows.{value_at}

pub record HostState : Type 0 where
  -- the files by path, none where there is no such file
  pub files : List (Row (Option (List ℕ)))
  -- the guests by address
  pub doors : List (Row (List (List ℕ)))
  -- the paths and addresses that it was asked for
  pub names : List (List ℕ)
  -- the bytes that each next source of its dialers will give
  pub answers : List (List ℕ)
  -- the addresses that the dialer settled last was asked for
  pub addresses : List (List ℕ)
  -- the bytes that each sink of that dialer took
  pub sent : List (List ℕ)
  -- the numbers of the calls that fail, the first being 1
  pub failing : List ℕ
  -- how many calls were made
  pub calls : ℕ
  pub faults : ℕ
  pub reads : ℕ
  pub writes : ℕ

-- the bytes of the file, or none where there is no such file
abbrev pub file_at : List (Row (Option (List ℕ))) → List ℕ → Option (List ℕ)
file_at files path = option_and_then (λ file. file) (value_at files path)

-- the guests of the door
abbrev pub guests_at : List (Row (List (List ℕ))) → List ℕ → List (List ℕ)
guests_at doors address = unwrap_or (value_at doors address) []

-- each of these names has its rows
abbrev pub AreKnown : List (List ℕ) → List (Row (Option (List ℕ))) → List (Row (List (List ℕ))) → Type 0
AreKnown names files doors = All (λ name. IsSome (value_at files name) × IsSome (value_at doors name)) names

-- a host without files and guests
abbrev pub new_host : List (List ℕ) → HostState
new_host answers = record { files = []; doors = []; names = []; answers = answers; addresses = []; sent = []; failing = []; calls = 0; faults = 0; reads = 0; writes = 0 }
