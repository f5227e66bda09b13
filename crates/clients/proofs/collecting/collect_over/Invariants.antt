use Rattle.clients.specs.Runs.{TakesAll, run}
use Rattle.clients.proofs.collecting.collect_over.Given as goal

-- as many entries were taken as were counted
abbrev pub invariant-loop-i : goal.invariant-loop-i
invariant-loop-i g l =
    TakesAll g.H.Host g.L.Link l.fn.address l.fn.folder g.K.Sink l.first l.i
    (run l.fn.host l.fn.link l.fn.output) (run l.host l.link l.output)
