use Rattle.std.proofs.Common.{ap, ◌∙◌}
use Rattle.as4_doors.specs.Targets.{pieces}
use Rattle.as4_doors.proofs.LocalLemmas.{by_pieces}
use Rattle.as4_doors.proofs.local.asked.Goals as goal

pub returns : goal.returns
returns c = by_pieces c.args.request.now _ c.asked_by-found.result (c.as_slice.ensures.value ∙ (c.in_ok-pieces.ensures ∙ ap pieces c.bytes.ensures)) c.asked_by-found.ensures
