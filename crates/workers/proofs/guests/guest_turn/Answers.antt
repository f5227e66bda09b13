use Rattle.std.proofs.Common.{◌∙◌, ap, arith}
use Rattle.as4_flow.specs.Flow.{between, flow}
use Rattle.as4_host.specs.Counts.{raised}
use Rattle.as4_host.specs.Lists.{and_one}
use Rattle.workers.specs.Guests.{caller}
use Rattle.workers.proofs.GuestLemmas.{meets}
use Rattle.workers.proofs.guests.guest_turn.Goals as goal

pub returns-in-Open-clause-meets : goal.returns-in-Open-clause-meets
returns-in-Open-clause-meets g c =
    let o = c.in-Open.ensures in
    let s = c.session-ended in
    let t = c.settle.ensures in
    let streams = between
    (flow (g.W.In.Source.left c.in-Open.source) (g.W.Out.Sink.taken c.in-Open.sink) (g.W.In.Source.faults c.in-Open.source) (g.W.Out.Sink.faults c.in-Open.sink))
    (flow (g.W.In.Source.left s.new.source) (g.W.Out.Sink.taken s.new.sink) (g.W.In.Source.faults s.new.source) (g.W.Out.Sink.faults s.new.sink)) in
    meets g.D.Disk g.J.Opening g.W.Door g.C.Clock g.N.Nonces c.args.kind c.args.door.now c.settle.new.self
    (caller c.args.pass.now c.args.clock.now c.args.nonces.now) (caller s.new.pass s.new.clock s.new.nonces) s.result c.after_session.result
    (record {
      came = o.guest;
      streams = streams;
      left = o.opens.gives;
      taken = o.opens.taken;
      no_reads = o.opens.reads;
      no_writes = o.opens.writes;
      tells = s.ensures.tells;
      ends = s.ensures.ends;
      guests = t.others.0 ∙ o.opens.others;
      answered = t.answered ∙ ap (λ a. and_one a (g.W.Out.Sink.taken s.new.sink)) o.others.2;
      faults = t.others.1 ∙ o.cause;
      reads = t.reads ∙ ap (raised (g.W.In.Source.faults s.new.source)) o.others.0;
      writes = t.writes ∙ ap (raised (g.W.Out.Sink.faults s.new.sink)) o.others.1;
      counted = (omega (arith, t.counted.0, o.others.0), omega (arith, t.counted.1, o.others.1));
    }) c.after_session.ensures
