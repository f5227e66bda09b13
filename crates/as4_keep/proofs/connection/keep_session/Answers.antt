use Rattle.std.proofs.Common.{◌≡◌, ◌+◌, ◌==◌, ◌∙◌, ℕ, suc, true, inl, inr, subst, arith}
use Rattle.as4_flow.specs.Flow.{before, flow}
use Rattle.as4_keep.specs.Connections.{Breaks, ServesRequest, ServesRequests, moment}
use Rattle.as4_keep.proofs.KeepLemmas.{below_limit}
use Rattle.as4_keep.proofs.connection.keep_session.Goals as goal

pub returns-in-Closes-clause-keeps : goal.returns-in-Closes-clause-keeps
returns-in-Closes-clause-keeps g c =
    let l = c.loop-served in
    let meets = c.in-Closes.ensures.meets in
    inr (record {
      others = l.served;
      count = omega arith;
      middle = moment l.pass l.clock l.nonces
          (flow (before l.intake (g.S.Source.left l.source)) (g.K.Sink.taken l.sink) (g.S.Source.faults l.source) (g.K.Sink.faults l.sink));
      serves = l.invariant.0;
      held = meets.0;
      closes = meets.1;
    })

pub returns-in-Ended-clause-keeps : goal.returns-in-Ended-clause-keeps
returns-in-Ended-clause-keeps g c =
    let l = c.loop-served in
    let meets = c.in-Ended.ensures.meets in
    inl (record {
      middle = moment l.pass l.clock l.nonces
          (flow (before l.intake (g.S.Source.left l.source)) (g.K.Sink.taken l.sink) (g.S.Source.faults l.source) (g.K.Sink.faults l.sink));
      serves = l.invariant.0;
      ended = meets.1;
      same = meets.0;
    })

pub returns-in-Breaks-clause-keeps : goal.returns-in-Breaks-clause-keeps
returns-in-Breaks-clause-keeps g c =
    let l = c.loop-served in
    let now = moment l.pass l.clock l.nonces
    (flow (before l.intake (g.S.Source.left l.source)) (g.K.Sink.taken l.sink) (g.S.Source.faults l.source) (g.K.Sink.faults l.sink)) in
    let n = c.serve_next.new in
    let after = moment n.pass n.clock n.nonces
    (flow (g.S.Source.left n.source) (g.K.Sink.taken n.sink) (g.S.Source.faults n.source) (g.K.Sink.faults n.sink)) in
    let next : l.served + 1 ≡ suc l.served = omega arith in (
      now,
      l.invariant.0,
      subst (λ (k : ℕ). Breaks g.D.Disk g.J.Opening g.C.Clock g.N.Nonces c.args.door (k == c.args.limit) now after c.in-Breaks.ended) next c.in-Breaks.ensures.meets,
    )

pub loop-served-preserved : goal.loop-served-preserved
loop-served-preserved g c =
    let l = c.loop-served in
    let e = c.in-GoesOn.ensures in
    let start = moment c.args.pass.now c.args.clock.now c.args.nonces.now
    (flow (g.S.Source.left c.args.source.now) (g.K.Sink.taken c.args.sink.now) (g.S.Source.faults c.args.source.now) (g.K.Sink.faults c.args.sink.now)) in
    let now = moment l.pass l.clock l.nonces
    (flow (before l.intake (g.S.Source.left l.source)) (g.K.Sink.taken l.sink) (g.S.Source.faults l.source) (g.K.Sink.faults l.sink)) in
    let n = c.serve_next.new in
    let after = moment n.pass n.clock n.nonces
    (flow (before c.in-GoesOn.ahead (g.S.Source.left n.source)) (g.K.Sink.taken n.sink) (g.S.Source.faults n.source) (g.K.Sink.faults n.sink)) in
    let next : l.served + 1 ≡ suc l.served = omega arith in
    let back : suc l.served ≡ l.served + 1 = omega arith in (
      subst (λ (k : ℕ). ServesRequests g.D.Disk g.J.Opening g.C.Clock g.N.Nonces c.args.door c.args.limit k start after) back
          (now, l.invariant.0, subst (λ (k : ℕ). ServesRequest g.D.Disk g.J.Opening g.C.Clock g.N.Nonces c.args.door (k == c.args.limit) now after true) next e.meets),
      e.tells ∙ l.invariant.1,
      λ legal. e.legal (l.invariant.2 legal),
      (e.pass.0 ∙ l.invariant.3.0, e.pass.1 ∙ l.invariant.3.1),
      omega (arith, e.reads, l.invariant.4),
      omega (arith, e.writes, l.invariant.5),
    )

-- below the limit each request that keeps the connection is followed by another turn of the loop
pub returns-clause-keeps : goal.returns-clause-keeps
returns-clause-keeps g c =
    let l = c.loop-served in
    let start = moment c.args.pass.now c.args.clock.now c.args.nonces.now
    (flow (g.S.Source.left c.args.source.now) (g.K.Sink.taken c.args.sink.now) (g.S.Source.faults c.args.source.now) (g.K.Sink.faults c.args.sink.now)) in
    let now = moment l.pass l.clock l.nonces
    (flow (before l.intake (g.S.Source.left l.source)) (g.K.Sink.taken l.sink) (g.S.Source.faults l.source) (g.K.Sink.faults l.sink)) in
    let fewer = below_limit g.D.Disk g.J.Opening g.C.Clock g.N.Nonces c.args.door c.args.limit l.served start now c.requires.some l.invariant.0 in
    absurd (omega (arith, fewer, c.loop-served-test.false))
