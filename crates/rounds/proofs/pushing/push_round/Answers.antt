use Rattle.std.proofs.Common.{List, Option, Some, Ok, Err, ℕ, refl, sym, ap, subst, ◌∙◌}
use Rattle.exchange_model.specs.declared.what.What.TheVariants as what
use Rattle.rounds.specs.Rounds.{SendsOut, push_address, using}
use Rattle.rounds.proofs.RoundLemmas.{no_push, stepped}
use Rattle.rounds.proofs.pushing.push_round.Goals as goal

pub returns-in-Err-clause-pushes : goal.returns-in-Err-clause-pushes
returns-in-Err-clause-pushes g c = record {
  middle = using c.send_under.new.pass c.args.link.now c.drawn-event.new.clock c.drawn-event.new.nonces;
  sending = Err c.in-Err.fault;
  takes = stepped g.D.Disk g.J.Opening g.L.Link g.C.Clock g.N.Nonces what.Take _ _ _ _ _ _ _ _ c.drawn-event.result (Err c.in-Err.fault)
      c.drawn-event.ensures.what c.drawn-event.ensures.moment c.drawn-event.ensures.nonce c.in-Err.ensures.sends;
  goes_on = (c.halted.ensures, refl);
}

pub returns-in-Push-clause-pushes : goal.returns-in-Push-clause-pushes
returns-in-Push-clause-pushes g c =
    let middle = using c.send_under.new.pass c.args.link.now c.drawn-event.new.clock c.drawn-event.new.nonces in
    let s = c.send_out-end.new in record {
      middle = middle;
      sending = Ok c.in-Ok.sending;
      takes = stepped g.D.Disk g.J.Opening g.L.Link g.C.Clock g.N.Nonces what.Take _ _ _ _ _ _ _ _ c.drawn-event.result (Ok c.in-Ok.sending)
          c.drawn-event.ensures.what c.drawn-event.ensures.moment c.drawn-event.ensures.nonce c.in-Ok.ensures.sends;
      goes_on = subst (λ (to : Option (List ℕ)). SendsOut g.D.Disk g.J.Opening g.L.Link g.C.Clock g.N.Nonces to c.in-Ok.sending
          middle (using s.pass s.link s.clock s.nonces) c.send_out-end.result)
          (sym (ap push_address c.in-Push.is)) c.send_out-end.ensures.sends;
    }

pub returns-in_default : goal.returns-in_default
returns-in_default g c =
    let middle = using c.send_under.new.pass c.args.link.now c.drawn-event.new.clock c.drawn-event.new.nonces in record {
      pushes = record {
        middle = middle;
        sending = Ok c.in-Ok.sending;
        takes = stepped g.D.Disk g.J.Opening g.L.Link g.C.Clock g.N.Nonces what.Take _ _ _ _ _ _ _ _ c.drawn-event.result (Ok c.in-Ok.sending)
            c.drawn-event.ensures.what c.drawn-event.ensures.moment c.drawn-event.ensures.nonce c.in-Ok.ensures.sends;
        goes_on = subst (λ (to : Option (List ℕ)). SendsOut g.D.Disk g.J.Opening g.L.Link g.C.Clock g.N.Nonces to c.in-Ok.sending
            middle middle c.ended_by.result)
            (sym (no_push c.in-Ok.sending.reply c.in_default.not-Push)) (c.ended_by.ensures, refl);
      };
      legal = c.in-Ok.ensures.legal;
      pass = c.in-Ok.ensures.pass;
    }
