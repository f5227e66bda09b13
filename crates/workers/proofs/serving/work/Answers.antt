use Rattle.std.proofs.Common.{◌≡◌, ◌+◌, ◌∙◌, ℕ, suc, inr, subst, arith}
use Rattle.workers.specs.Turns.{TakesTurns}
use Rattle.workers.proofs.SumLemmas.{turn_grows}
use Rattle.workers.proofs.serving.work.Goals as goal

pub returns-then-not-worker_turn : goal.returns-then-not-worker_turn
returns-then-not-worker_turn g c =
    let e = c.if-not-worker_turn.ensures in
    let i = c.loop.invariant in record {
      turns = inr (c.loop.counter, c.loop.worker, c.loop-test.true, i.0, e.turn);
      legal = λ legal. e.legal (i.2 legal);
      pass = (e.pass.0 ∙ i.3.0, e.pass.1 ∙ i.3.1);
    }

pub loop-preserved : goal.loop-preserved
loop-preserved g c =
    let e = c.if-not-worker_turn.ensures in
    let grows = turn_grows g.D.Disk g.J.Opening g.W.Door g.L.Link g.C.Clock g.N.Nonces c.loop.worker c.worker_turn.new.worker _ c.worker_turn.ensures.turn in
    let next : suc c.loop.counter ≡ c.loop.counter + 1 = omega arith in (
      subst (λ (n : ℕ). TakesTurns g.D.Disk g.J.Opening g.W.Door g.L.Link g.C.Clock g.N.Nonces n c.args.worker.now c.worker_turn.new.worker) next
          (c.loop.worker, c.loop.invariant.0, e.turn),
      omega (arith, grows.grows.starved_most, c.loop.invariant.1),
      λ legal. e.legal (c.loop.invariant.2 legal),
      (e.pass.0 ∙ c.loop.invariant.3.0, e.pass.1 ∙ c.loop.invariant.3.1),
    )
