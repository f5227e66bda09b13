use Rattle.std.proofs.Common.{◌≡◌, length}
use Rattle.std.specs.List.{filter}
use Rattle.header_reader.specs.Envelope.{is_of}
use Rattle.header_reader.proofs.envelope.next_of.Given as goal

-- the elements skipped so far are of another sort
abbrev pub invariant-loop-rest : goal.invariant-loop-rest
invariant-loop-rest l = filter (is_of l.sort) l.rest ≡ filter (is_of l.sort) l.elements

abbrev pub decreases-loop-rest : goal.decreases-loop-rest
decreases-loop-rest l = length l.rest
