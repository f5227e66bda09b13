use Rattle.std.proofs.Common.{length}
use Rattle.mime_package.specs.Reading.{ending_at}
use Rattle.mime_package.proofs.UpToLemmas.{GoesTo}
use Rattle.mime_package.proofs.search.Search.up_to_ending.Given as goal

-- no part ends before the rest
abbrev pub invariant-search : goal.invariant-search
invariant-search l = GoesTo (ending_at l.self.boundary.now) l.bytes l.rest

abbrev pub decreases-search : goal.decreases-search
decreases-search l = length l.rest
