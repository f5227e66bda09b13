use Rattle.std.proofs.Common.{length, map}
use Rattle.mime_fields.specs.Lent.{parameter_of}
use Rattle.mime_fields.proofs.ParameterLemmas.{GoOn}
use Rattle.mime_fields.proofs.media_type.parameters_in.Given as goal

-- the parameters so far precede those of the rest
abbrev pub invariant-loop-rest : goal.invariant-loop-rest
invariant-loop-rest l = GoOn l.bytes (map parameter_of l.parameters.items) l.rest

abbrev pub decreases-loop-rest : goal.decreases-loop-rest
decreases-loop-rest l = length l.rest
