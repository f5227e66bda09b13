use Rattle.std.proofs.Common.{take}
use Rattle.as4_audit.specs.Audit.{AllRead}
use Rattle.as4_audit.proofs.ListLemmas.{bytes_of}
use Rattle.as4_audit.proofs.records.records_of.Given as goal

-- the records so far
abbrev pub invariant-loop-body : goal.invariant-loop-body
invariant-loop-body l = AllRead (bytes_of (take l.body-index l.bodies)) l.records.items
