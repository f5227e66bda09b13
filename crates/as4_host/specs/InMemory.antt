-- A link, a door and a host in memory.
use Rattle.std.specs.Prelude.{ℕ, List, []}

-- a link in memory
pub record LinkState : Type 0 where
  -- the bytes that each of its next sources will give
  pub answers : List (List ℕ)
  -- the addresses that it was asked for
  pub addresses : List (List ℕ)
  -- the bytes that each settled sink took
  pub sent : List (List ℕ)
  -- the numbers of the opens that fail, the first being 1
  pub failing : List ℕ
  -- how many opens were made
  pub calls : ℕ
  pub faults : ℕ
  pub reads : ℕ
  pub writes : ℕ

-- a door in memory
pub record DoorState : Type 0 where
  -- the bytes that each of its next sources will give
  pub guests : List (List ℕ)
  -- the bytes that each settled sink took
  pub answered : List (List ℕ)
  -- the numbers of the calls of `next` that fail, the first being 1
  pub failing : List ℕ
  -- how many were made
  pub calls : ℕ
  pub faults : ℕ
  pub reads : ℕ
  pub writes : ℕ

abbrev pub new_link : List (List ℕ) → List ℕ → LinkState
new_link answers failing = record { answers = answers; addresses = []; sent = []; failing = failing; calls = 0; faults = 0; reads = 0; writes = 0 }

abbrev pub new_door : List (List ℕ) → List ℕ → DoorState
new_door guests failing = record { guests = guests; answered = []; failing = failing; calls = 0; faults = 0; reads = 0; writes = 0 }
