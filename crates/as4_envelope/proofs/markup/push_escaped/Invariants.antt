use Rattle.std.proofs.Common.{◌≡◌, ◌≤◌, ◌++◌, take}
use Rattle.std.specs.Prelude.{slice_range}
use Rattle.as4_envelope.specs.Markup.{escaped}
use Rattle.as4_envelope.proofs.markup.push_escaped.Given as goal

-- the written bytes and those since then are the bytes so far, escaped
abbrev pub invariant-loop-at : goal.invariant-loop-at
invariant-loop-at l =
    (l.done ≤ l.at)
    × (l.out.items ++ slice_range l.bytes l.done l.at ≡ l.initial.out.items ++ escaped (take l.at l.bytes))
