use Rattle.std.proofs.Common.{Err, Ok, refl, subst, sym}
use Rattle.exchange_model.specs.declared.reply.Reply.{Reply}
use Rattle.sessions.specs.Sending.{IsRequestOf}
use Rattle.sessions.proofs.sending.enact_sent.Goals as goal

pub returns-in-Ok : goal.returns-in-Ok
returns-in-Ok g c = record {
  sends = λ first back prepares request. record {
    result = Ok c.in-Ok.reply;
    handles = c.in-Ok.ensures.handles first prepares;
    tells = (refl, subst (λ (r : Reply). IsRequestOf back r c.args.request) (sym c.in-Ok.ensures.reply) request);
  };
}

pub returns-in-Err : goal.returns-in-Err
returns-in-Err g c = record {
  sends = λ first back prepares request. record { result = Err c.in-Err.fault; handles = c.in-Err.ensures.handles first prepares; tells = refl };
}
