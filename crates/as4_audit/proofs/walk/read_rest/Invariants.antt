use Rattle.std.proofs.Common.{List, Option, take}
use Rattle.as4_audit.specs.Audit.{AllRead}
use Rattle.as4_audit.proofs.ListLemmas.{bytes_of}
use Rattle.as4_audit.proofs.walk.read_rest.Given as goal
use Rattle.as4_effects.specs.declared.effect.Effect.{Effect}

-- the records so far
abbrev pub invariant-loop-body : goal.invariant-loop-body
invariant-loop-body l = (records : List (Option (List Effect))) × AllRead (bytes_of (take l.body-index l.bodies)) records
