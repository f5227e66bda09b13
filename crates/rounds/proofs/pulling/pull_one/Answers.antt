use Rattle.std.proofs.Common.{List, Option, Some, Ok, Err, ℕ, false, ◌∙◌, refl, sym, ap, inl, subst}
use Rattle.exchange_model.specs.declared.what.What.TheVariants as what
use Rattle.sessions.specs.declared.rounds.RoundEnd.{RoundEnd}
use Rattle.rounds.specs.Rounds.{AsksOut, pull_address, pulled, using}
use Rattle.rounds.proofs.RoundLemmas.{no_request, stepped}
use Rattle.rounds.proofs.pulling.pull_one.Goals as goal

pub returns-in-Err-clause-pulls : goal.returns-in-Err-clause-pulls
returns-in-Err-clause-pulls g c = inl (record {
  middle = using c.send_under.new.pass c.args.link.now c.drawn-event.new.clock c.drawn-event.new.nonces;
  sending = Err c.in-Err.fault;
  asks = stepped g.D.Disk g.J.Opening g.L.Link g.C.Clock g.N.Nonces (what.Ask c.args.mode.now) _ _ _ _ _ _ _ _ c.drawn-event.result (Err c.in-Err.fault)
      (c.drawn-event.ensures.what ∙ ap what.Ask c.in-Ok.ensures) c.drawn-event.ensures.moment c.drawn-event.ensures.nonce c.in-Err.ensures.sends;
  goes_on = (c.unanswered-in-Err.ensures ∙ ap (λ (end : RoundEnd). pulled end false) c.halted.ensures, refl);
})

pub returns-in-Request-clause-pulls : goal.returns-in-Request-clause-pulls
returns-in-Request-clause-pulls g c =
    let middle = using c.send_under.new.pass c.args.link.now c.drawn-event.new.clock c.drawn-event.new.nonces in
    let p = c.pull-end.new in inl (record {
      middle = middle;
      sending = Ok c.in-Ok-send_under.sending;
      asks = stepped g.D.Disk g.J.Opening g.L.Link g.C.Clock g.N.Nonces (what.Ask c.args.mode.now) _ _ _ _ _ _ _ _ c.drawn-event.result (Ok c.in-Ok-send_under.sending)
          (c.drawn-event.ensures.what ∙ ap what.Ask c.in-Ok.ensures) c.drawn-event.ensures.moment c.drawn-event.ensures.nonce c.in-Ok-send_under.ensures.sends;
      goes_on = subst (λ (to : Option (List ℕ)). AsksOut g.D.Disk g.J.Opening g.L.Link g.C.Clock g.N.Nonces to c.in-Ok-send_under.sending
          middle (using p.pass p.link p.clock p.nonces) c.pull-end.result)
          (sym (ap pull_address c.in-Request.is)) c.pull-end.ensures.pulls;
    })

pub returns-in_default-reply : goal.returns-in_default-reply
returns-in_default-reply g c =
    let middle = using c.send_under.new.pass c.args.link.now c.drawn-event.new.clock c.drawn-event.new.nonces in record {
      pulls = inl (record {
        middle = middle;
        sending = Ok c.in-Ok-send_under.sending;
        asks = stepped g.D.Disk g.J.Opening g.L.Link g.C.Clock g.N.Nonces (what.Ask c.args.mode.now) _ _ _ _ _ _ _ _ c.drawn-event.result (Ok c.in-Ok-send_under.sending)
            (c.drawn-event.ensures.what ∙ ap what.Ask c.in-Ok.ensures) c.drawn-event.ensures.moment c.drawn-event.ensures.nonce c.in-Ok-send_under.ensures.sends;
        goes_on = subst (λ (to : Option (List ℕ)). AsksOut g.D.Disk g.J.Opening g.L.Link g.C.Clock g.N.Nonces to c.in-Ok-send_under.sending
            middle middle c.unanswered-in_default-reply.result)
            (sym (no_request c.in-Ok-send_under.sending.reply c.in_default-reply.not-Request))
            (c.unanswered-in_default-reply.ensures ∙ ap (λ (end : RoundEnd). pulled end false) c.ended_by.ensures, refl);
      });
      legal = c.in-Ok-send_under.ensures.legal;
      pass = c.in-Ok-send_under.ensures.pass;
    }
