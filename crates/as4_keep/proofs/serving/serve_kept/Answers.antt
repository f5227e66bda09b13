use Rattle.std.proofs.Common.{slice_index_or, subst}
use Rattle.workers.specs.declared.job.Worker.{Worker}
use Rattle.as4_keep.specs.KeptTurns.{KeptWorked}
use Rattle.as4_keep.proofs.serving.serve_kept.Goals as goal

pub returns : goal.returns
returns g c = record {
  worked = λ i w within.
      let changed = (c.for_each_mut.ensures i w within).1 in
      subst (λ (old : Worker _ _ _ _). KeptWorked g.D.Disk g.J.Opening g.W.Door g.L.Link g.C.Clock g.N.Nonces c.args.limit old (slice_index_or c.for_each_mut.new.s i w)) changed.argument_is
      (subst (λ (new : Worker _ _ _ _). KeptWorked g.D.Disk g.J.Opening g.W.Door g.L.Link g.C.Clock g.N.Nonces c.args.limit changed.argument.now new) changed.left changed.call);
}
