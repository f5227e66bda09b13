use Rattle.std.proofs.Common.{Ok, Err, inl, refl}
use Rattle.hub_laws.specs.Chain.{loads_of}
use Rattle.as4_hub.proofs.StepLemmas.{second_reply}
use Rattle.as4_hub.proofs.relaying.submit.Goals as goal

pub end_of_reply-requires : goal.end_of_reply-requires
end_of_reply-requires g c = record {
  second = second_reply g.row.D.Denot g.D.Disk c.args.office.now c.step.new.self c.args.pass.now c.step.new.pass _ c.in-Ok-step.reply
      c.args.mode.now c.args.header.conversation (loads_of c.args.payloads) c.in-Ok-step.ensures.handles c.in-Ok.ensures;
}

-- the submission is answered, or meets a fault
pub returns-in-Ok-step : goal.returns-in-Ok-step
returns-in-Ok-step g c = record {
  submits = inl (record {
    answer = Ok c.in-Ok-step.reply;
    step = record { event = _; asked = c.in-Ok.ensures; stamped = refl; named = refl; handled = c.in-Ok-step.ensures.handles };
    tells = c.end_of_reply.ensures;
  });
}

pub returns-in-Err-step : goal.returns-in-Err-step
returns-in-Err-step g c = record {
  submits = inl (record {
    answer = Err c.in-Err-step.fault;
    step = record { event = _; asked = c.in-Ok.ensures; stamped = refl; named = refl; handled = c.in-Err-step.ensures.handles };
    tells = c.end_of_fault.ensures;
  });
}
