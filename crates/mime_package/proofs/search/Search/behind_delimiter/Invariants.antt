use Rattle.std.proofs.Common.{length}
use Rattle.mime_package.specs.Reading.{delimiter_at}
use Rattle.mime_package.proofs.UpToLemmas.{GoesTo}
use Rattle.mime_package.proofs.search.Search.behind_delimiter.Given as goal

-- no delimiter begins before the rest
abbrev pub invariant-search : goal.invariant-search
invariant-search l = GoesTo (delimiter_at l.self.boundary.now) l.bytes l.rest

abbrev pub decreases-search : goal.decreases-search
decreases-search l = length l.rest
