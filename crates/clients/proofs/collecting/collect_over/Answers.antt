use Rattle.std.proofs.Common.{◌≡◌, ◌+◌, ℕ, suc, inr, subst, arith}
use Rattle.clients.specs.Runs.{TakesAll, run}
use Rattle.clients.proofs.collecting.collect_over.Goals as goal

pub returns-in-Err : goal.returns-in-Err
returns-in-Err g c =
    inr (c.loop-i.i, run c.loop-i.host c.loop-i.link c.loop-i.output, c.loop-i-test.true, c.loop-i.invariant, c.in-Err.ensures.takes)

pub loop-i-preserved : goal.loop-i-preserved
loop-i-preserved g c =
    let next : suc c.loop-i.i ≡ c.loop-i.i + 1 = omega arith in
    subst (λ (k : ℕ). TakesAll g.H.Host g.L.Link c.args.address.now c.args.folder.now g.K.Sink c.args.first k
    (run c.args.host.now c.args.link.now c.args.output.now) (run c.take.new.host c.take.new.link c.take.new.output)) next
    (run c.loop-i.host c.loop-i.link c.loop-i.output, c.loop-i.invariant, c.in-Ok.ensures.takes)
