use Rattle.std.proofs.Common.{◌≡◌, ◌≤◌, List, ◌++◌, replicate, vec_capacity}
use Rattle.handler.specs.Crews.{HiresAside}
use Rattle.handler.specs.Hosts.{IsStill}
use Rattle.workers.specs.declared.job.Job.TheVariants as job
use Rattle.workers.specs.declared.job.Worker.{Worker as WorkerValue}
use Rattle.handler.proofs.crew.share.Given as goal

-- as many workers were hired as were counted
abbrev pub invariant-loop : goal.invariant-loop
invariant-loop g l =
    IsStill g.H.Host l.fn.host l.host
    × (vec_capacity l.fn.crew ≤ vec_capacity l.crew)
    × ((more : List (WorkerValue _ _ _ _)) × (l.crew.items ≡ l.fn.crew.items ++ more)
    × HiresAside g.H.Entrance.Door l.turns (g.H.Entrance.Door.guests l.peer) l.fn.pass l.pass (replicate l.counter job.Peer) more)
