use Rattle.std.proofs.Common.{Err, refl}
use Rattle.sessions.proofs.sending.send_ready.Goals as goal

pub returns-in-Err : goal.returns-in-Err
returns-in-Err g c = record {
  sends = λ first prepares. record { result = Err c.abandon.result; handles = c.abandon.ensures.handles first prepares; tells = refl };
}
