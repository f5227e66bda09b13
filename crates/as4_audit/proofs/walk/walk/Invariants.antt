use Rattle.std.proofs.Common.{◌≡◌, take}
use Rattle.as4_audit.proofs.ListLemmas.{bytes_of}
use Rattle.as4_audit.proofs.WalkLemmas.{IsWalkedTo}
use Rattle.as4_audit.proofs.walk.walk.Given as goal

-- the records so far are right
abbrev pub invariant-loop-body : goal.invariant-loop-body
invariant-loop-body g l = record {
  same : l.core.modes ≡ l.modes;
  placed : l.index ≡ l.body-index;
  walked : IsWalkedTo l.modes l.initial.core.end (bytes_of (take l.body-index l.bodies)) l.index l.stage l.start l.core.end (g.E.Collects.holds l.events);
}
