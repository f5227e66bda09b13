use Rattle.std.proofs.Common.{◌≡◌, false, List, ◌++◌}
use Rattle.handler.specs.Dismissal.{AllRetire, gathering}
use Rattle.workers.specs.declared.job.Worker.{Worker as WorkerValue}
use Rattle.handler.proofs.dismissing.dismiss.Given as goal

-- the last workers were dismissed
abbrev pub invariant-loop-worker : goal.invariant-loop-worker
invariant-loop-worker g l =
    ((done : List (WorkerValue _ _ _ _)) × (l.fn.crew.items ≡ l.crew.items ++ done)
    × AllRetire g.H.Host g.H.Entrance.Door g.H.Dialer.Link l.setup done (gathering l.fn.host l.fn.pass false) (gathering l.host l.pass l.is_starved))
    × (g.H.Host.names l.host ≡ g.H.Host.names l.fn.host)
    × (l.pass.book ≡ l.fn.pass.book)

abbrev pub decreases-loop-worker : goal.decreases-loop-worker
decreases-loop-worker g l = goal.left-loop-worker g l
