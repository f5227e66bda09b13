use Rattle.std.proofs.Common.{◌≤◌}
use Rattle.sessions.specs.Answering.{IsSamePass}
use Rattle.sessions.specs.Shared.{IsLegal}
use Rattle.as4_keep.specs.KeptTurns.{TakesKeptTurns}
use Rattle.as4_keep.proofs.serving.work_kept.Given as goal

-- it has made as many turns as were counted, and no more of them are counted as starved
abbrev pub invariant-loop : goal.invariant-loop
invariant-loop g l =
    TakesKeptTurns g.D.Disk g.J.Opening g.W.Door g.L.Link g.C.Clock g.N.Nonces l.fn.limit l.counter l.fn.worker l.worker
    × (l.worker.starved ≤ l.counter)
    × (IsLegal g.J.Opening l.fn.worker.pass.list → IsLegal g.J.Opening l.worker.pass.list)
    × IsSamePass l.fn.worker.pass l.worker.pass
