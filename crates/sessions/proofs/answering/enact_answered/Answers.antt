use Rattle.std.proofs.Common.{Err}
use Rattle.sessions.proofs.answering.enact_answered.Goals as goal

pub returns-in-Err : goal.returns-in-Err
returns-in-Err g c = record {
  answers = λ first prepares. record { result = Err c.in-Err.fault; handles = c.in-Err.ensures.handles first prepares; tells = c.halted.ensures c.args.kept };
}
