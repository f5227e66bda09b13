use Rattle.std.proofs.Common.{◌≡◌, ◌++◌, length}
use Rattle.as4_doors.specs.Targets.{pieces}
use Rattle.as4_doors.proofs.pieces.pieces_of.Given as goal

abbrev pub invariant-pieces : goal.invariant-pieces
invariant-pieces l = l.list.items ++ pieces l.rest ≡ pieces l.target

abbrev pub decreases-pieces : goal.decreases-pieces
decreases-pieces l = length l.rest
