use Rattle.std.proofs.Common.{ℕ, List, Ok, Err, refl, inl, subst}
use Rattle.link_exchange.specs.Exchanges.{Exchanges}
use Rattle.rounds.proofs.RoundLemmas.{stepped}
use Rattle.rounds.proofs.delivering.deliver.Goals as goal

pub returns-in-Ok-send_under-clause-delivers : goal.returns-in-Ok-send_under-clause-delivers
returns-in-Ok-send_under-clause-delivers g c = record {
  told = Ok c.in-Ok.response;
  link = c.exchange-told.new.link;
  exchanges = subst (λ (request : List ℕ). Exchanges g.L.Link c.args.link.now c.exchange-told.new.link c.args.address.now request (Ok c.in-Ok.response)) c.bytes.ensures c.in-Ok.ensures;
  after = inl (record {
    kind = c.in-Ok-brought.what;
    brought = c.in-Ok-brought.ensures.brings;
    sending = Ok c.in-Ok-send_under.sending;
    steps = stepped g.D.Disk g.J.Opening g.L.Link g.C.Clock g.N.Nonces c.in-Ok-brought.what _ _ _ _ _ _ _ _ c.drawn-event.result (Ok c.in-Ok-send_under.sending)
        c.drawn-event.ensures.what c.drawn-event.ensures.moment c.drawn-event.ensures.nonce c.in-Ok-send_under.ensures.sends;
    follows = refl;
  });
}

pub returns-in-Err-send_under-clause-delivers : goal.returns-in-Err-send_under-clause-delivers
returns-in-Err-send_under-clause-delivers g c = record {
  told = Ok c.in-Ok.response;
  link = c.exchange-told.new.link;
  exchanges = subst (λ (request : List ℕ). Exchanges g.L.Link c.args.link.now c.exchange-told.new.link c.args.address.now request (Ok c.in-Ok.response)) c.bytes.ensures c.in-Ok.ensures;
  after = inl (record {
    kind = c.in-Ok-brought.what;
    brought = c.in-Ok-brought.ensures.brings;
    sending = Err c.in-Err-send_under.fault;
    steps = stepped g.D.Disk g.J.Opening g.L.Link g.C.Clock g.N.Nonces c.in-Ok-brought.what _ _ _ _ _ _ _ _ c.drawn-event.result (Err c.in-Err-send_under.fault)
        c.drawn-event.ensures.what c.drawn-event.ensures.moment c.drawn-event.ensures.nonce c.in-Err-send_under.ensures.sends;
    follows = c.halted.ensures;
  });
}
