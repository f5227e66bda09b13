use Rattle.std.proofs.Common.{◌≡◌, ◌≤◌, List, ◌++◌, Option, length, ℕ, vec_capacity}
use Rattle.std.specs.Vec.Iter.{into_iter_items, into_iter_len}
use Rattle.handler.specs.Crews.{HiresAside, pulls_by}
use Rattle.handler.specs.Hosts.{IsStill}
use Rattle.workers.specs.declared.job.Worker.{Worker as WorkerValue}
use Rattle.handler.proofs.crew.pull.Given as goal

-- for each mode that was taken a worker was hired
abbrev pub invariant-loop-mode : goal.invariant-loop-mode
invariant-loop-mode g l =
    (l.yielded ++ into_iter_items l.mode-iterator ≡ into_iter_items l.initial.mode-iterator)
    × (into_iter_len l.mode-iterator ≡ length (into_iter_items l.mode-iterator))
    × IsStill g.H.Host l.fn.host l.host
    × (vec_capacity l.fn.crew ≤ vec_capacity l.crew)
    × ((more : List (WorkerValue _ _ _ _)) × (l.crew.items ≡ l.fn.crew.items ++ more)
    × ((peers : Option (List (List ℕ))) → HiresAside g.H.Entrance.Door l.turns peers l.fn.pass l.pass (pulls_by l.yielded) more))
