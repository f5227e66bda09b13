-- A source and a sink in memory: their bytes, and how the calls that come will be answered.
use Rattle.std.specs.Prelude.{ℕ, List, [], ◌∷◌, ◌++◌, take, drop, min, max, Contains}
use Rattle.as4_flow.specs.Flow.{one_more}
use Rattle.as4_flow.specs.declared.source.Got.{Got}
use Rattle.as4_flow.specs.declared.source.Got.TheVariants.{Gave, End, Failed}
use Rattle.as4_flow.specs.declared.sink.Put.{Put}
use Rattle.as4_flow.specs.declared.sink.Put.TheVariants.{Took, Failed as Refused}

-- a source in memory
pub record SourceState : Type 0 where
  -- the bytes that are left
  pub bytes : List ℕ
  -- the sizes of the pieces to come
  pub pieces : List ℕ
  -- the numbers of the calls that fail, the first call being 1
  pub failing : List ℕ
  -- how many calls were made
  pub calls : ℕ
  pub faults : ℕ

-- a sink in memory
pub record SinkState : Type 0 where
  -- the bytes that were taken
  pub bytes : List ℕ
  -- how many more fit without asking for memory
  pub room : ℕ
  -- the sizes of the pieces to come
  pub pieces : List ℕ
  -- the numbers of the calls that fail, the first call being 1
  pub failing : List ℕ
  -- how many calls were made
  pub calls : ℕ
  pub faults : ℕ

-- a source before its first call
abbrev pub new_source : List ℕ → List ℕ → List ℕ → SourceState
new_source bytes pieces failing = record { bytes = bytes; pieces = pieces; failing = failing; calls = 0; faults = 0 }

-- a sink before its first call
abbrev pub new_sink : List ℕ → List ℕ → SinkState
new_sink pieces failing = record { bytes = []; room = 0; pieces = pieces; failing = failing; calls = 0; faults = 0 }

-- after this many calls, the next is one that fails
abbrev pub IsFailing : List ℕ → ℕ → Type 0
IsFailing failing calls = Contains failing (one_more calls)

-- the size of the next piece, where at most this many bytes can go: at least 1, and all of them once the list is used up
abbrev pub piece_size : List ℕ → ℕ → ℕ
piece_size [] most = most
piece_size (size ∷ sizes) most = min (max size 1) most

-- a source after a read with this answer
abbrev pub after_read : Got → SourceState → SourceState
after_read (Gave n) source = record source { bytes = drop n source.bytes; pieces = drop 1 source.pieces; calls = one_more source.calls }
after_read End source = record source { calls = one_more source.calls }
after_read Failed source = record source { calls = one_more source.calls; faults = one_more source.faults }

-- a sink after a write of these bytes with this answer, and the room that it then has
abbrev pub after_write : Put → List ℕ → ℕ → SinkState → SinkState
after_write (Took n) bytes room sink = record sink { bytes = sink.bytes ++ take n bytes; room = room; pieces = drop 1 sink.pieces; calls = one_more sink.calls }
after_write Refused bytes room sink = record sink { room = room; calls = one_more sink.calls; faults = one_more sink.faults }
