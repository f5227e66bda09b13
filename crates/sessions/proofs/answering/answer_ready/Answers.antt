use Rattle.std.proofs.Common.{Err}
use Rattle.sessions.proofs.answering.answer_ready.Goals as goal

pub returns-in-Err : goal.returns-in-Err
returns-in-Err g c = record {
  answers = λ first prepares. record { result = Err c.abandon.result; handles = c.abandon.ensures.handles first prepares; tells = c.halted.ensures c.args.kept };
}
