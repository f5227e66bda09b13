use Rattle.std.proofs.Common.{◌≡◌, ◌+◌, ◌∙◌, ℕ, suc, inr, subst, arith}
use Rattle.as4_keep.specs.KeptTurns.{TakesKeptTurns}
use Rattle.as4_keep.proofs.TurnLemmas.{turn_starves}
use Rattle.as4_keep.proofs.serving.work_kept.Goals as goal

pub returns-then-not-kept_turn : goal.returns-then-not-kept_turn
returns-then-not-kept_turn g c =
    let e = c.if-not-kept_turn.ensures in
    let i = c.loop.invariant in record {
      turns = inr (c.loop.counter, c.loop.worker, c.loop-test.true, i.0, e.turn);
      legal = λ legal. e.legal (i.2 legal);
      pass = (e.pass.0 ∙ i.3.0, e.pass.1 ∙ i.3.1);
    }

pub loop-preserved : goal.loop-preserved
loop-preserved g c =
    let e = c.if-not-kept_turn.ensures in
    let few = turn_starves g.D.Disk g.J.Opening g.W.Door g.L.Link g.C.Clock g.N.Nonces c.args.limit c.loop.worker c.kept_turn.new.worker _ c.kept_turn.ensures.turn in
    let next : suc c.loop.counter ≡ c.loop.counter + 1 = omega arith in (
      subst (λ (n : ℕ). TakesKeptTurns g.D.Disk g.J.Opening g.W.Door g.L.Link g.C.Clock g.N.Nonces c.args.limit n c.args.worker.now c.kept_turn.new.worker) next
          (c.loop.worker, c.loop.invariant.0, e.turn),
      omega (arith, few, c.loop.invariant.1),
      λ legal. e.legal (c.loop.invariant.2 legal),
      (e.pass.0 ∙ c.loop.invariant.3.0, e.pass.1 ∙ c.loop.invariant.3.1),
    )
