use Rattle.std.proofs.Common.{◌≡◌, ◌+◌, take}
use Rattle.payload_gates.specs.Gates.{moved}
use Rattle.msh_journal.proofs.folding.move_places.Given as goal

-- the first places were given their gates
abbrev pub invariant-gates : goal.invariant-gates
invariant-gates l = record {
  at : l.n ≡ l.fn.core.end.confirmed + l.gate-index;
  places : l.core.places ≡ moved l.fn.core.end.confirmed (take l.gate-index l.gates) l.fn.core.places;
  end : l.core.end ≡ l.fn.core.end;
  modes : l.core.modes ≡ l.fn.core.modes;
}
