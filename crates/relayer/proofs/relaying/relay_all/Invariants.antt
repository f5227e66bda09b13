use Rattle.std.proofs.Common.{◌≡◌}
use Rattle.relayer.specs.Relaying.{moment}
use Rattle.relayer.proofs.RelayLemmas.{SoFar}
use Rattle.relayer.proofs.relaying.relay_all.Given as goal

abbrev pub invariant-loop : goal.invariant-loop
invariant-loop g l = record {
  so_far : SoFar g.D.Disk g.C.Clock g.N.Nonces l.fn.mode l.counter (moment l.fn.office l.fn.pass l.fn.clock l.fn.nonces) (moment l.office l.pass l.clock l.nonces) (g.O.Sink.taken l.fn.output) (g.O.Sink.taken l.output);
  quiet : g.O.Sink.faults l.output ≡ g.O.Sink.faults l.fn.output;
}
