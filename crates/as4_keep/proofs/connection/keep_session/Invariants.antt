use Rattle.std.proofs.Common.{◌≡◌, ◌≤◌, is_some}
use Rattle.as4_flow.specs.Flow.{before, flow}
use Rattle.sessions.specs.Answering.{IsSamePass}
use Rattle.sessions.specs.Shared.{IsLegal}
use Rattle.as4_keep.specs.Connections.{ServesRequests, moment}
use Rattle.as4_keep.proofs.connection.keep_session.Given as goal

-- as many requests were served as were counted, and after each the connection goes on
abbrev pub invariant-loop-served : goal.invariant-loop-served
invariant-loop-served g l =
    ServesRequests g.D.Disk g.J.Opening g.C.Clock g.N.Nonces l.fn.door l.fn.limit l.served
    (moment l.fn.pass l.fn.clock l.fn.nonces (flow (g.S.Source.left l.fn.source) (g.K.Sink.taken l.fn.sink) (g.S.Source.faults l.fn.source) (g.K.Sink.faults l.fn.sink)))
    (moment l.pass l.clock l.nonces (flow (before l.intake (g.S.Source.left l.source)) (g.K.Sink.taken l.sink) (g.S.Source.faults l.source) (g.K.Sink.faults l.sink)))
    × (is_some (g.S.Source.left l.source) ≡ is_some (g.S.Source.left l.fn.source))
    × (IsLegal g.J.Opening l.fn.pass.list → IsLegal g.J.Opening l.pass.list)
    × IsSamePass l.fn.pass l.pass
    × (g.S.Source.faults l.fn.source ≤ g.S.Source.faults l.source)
    × (g.K.Sink.faults l.fn.sink ≤ g.K.Sink.faults l.sink)
