use Rattle.std.proofs.Common.{Err, subst}
use Rattle.as4_doors.specs.Asking.{Asks}
use Rattle.as4_doors.specs.WrittenText.{written_text}
use Rattle.as4_doors.specs.declared.door.DoorRefusal.{DoorRefusal}
use Rattle.sessions.proofs.SessionLemmas.{refused_away}
use Rattle.sessions.proofs.requests.event_of.Goals as goal

pub returns-in-Err-Refused-clause-turned : goal.returns-in-Err-Refused-clause-turned
returns-in-Err-Refused-clause-turned c =
    refused_away c.args.door c.args.request.now c.args.kept c.args.stamp c.args.nonce c.in-Err-Refused.refusal c.refuse.result.0 (written_text c.refuse.result.1)
    (subst (λ (r : DoorRefusal). Asks c.args.door c.args.request.now (Err r)) c.in-Err-Refused.field-0-is c.in-Err-Refused.ensures.asks) c.refuse.ensures
