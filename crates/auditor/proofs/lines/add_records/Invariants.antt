use Rattle.std.proofs.Common.{◌≡◌, take}
use Rattle.as4_audit.proofs.ListLemmas.{bytes_of}
use Rattle.auditor.proofs.LineLemmas.{AreLinesTo}
use Rattle.auditor.proofs.lines.add_records.Given as goal

-- the lines so far
abbrev pub invariant-loop-body : goal.invariant-loop-body
invariant-loop-body l = record {
  placed : l.index ≡ l.body-index;
  lines : AreLinesTo (bytes_of (take l.body-index l.bodies)) l.place l.index l.stage l.received l.fn.out.items l.out.items;
}
