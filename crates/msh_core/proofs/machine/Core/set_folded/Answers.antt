use Rattle.std.proofs.Common.{◌≡◌, ap, ◌∙◌}
use Rattle.exchange_model.specs.Fold.{resized}
use Rattle.msh_core.specs.Machine.{Machine}
use Rattle.msh_core.proofs.FoldSizeLemmas.{size_is, size_within}
use Rattle.msh_core.proofs.MeasuredLemmas.{consistent_resized, consistent_same}
use Rattle.msh_core.proofs.machine.Core.set_folded.Goals as goal

pub resize-requires-clause-begun : goal.resize-requires-clause-begun
resize-requires-clause-begun c = (size_within c.args.self.now.end c.folded_size-size.result c.folded_size-size.ensures.size c.requires).0

pub resize-requires-clause-limited : goal.resize-requires-clause-limited
resize-requires-clause-limited c = (size_within c.args.self.now.end c.folded_size-size.result c.folded_size-size.ensures.size c.requires).1

pub invariant_of-self : goal.invariant_of-self
invariant_of-self c =
    consistent_same _ _ _ _ c.resize.ensures.end c.resize.ensures.places
    (consistent_resized c.self.inside.tables.end c.self.inside.tables.places c.folded_size-size.result c.self.invariant)

pub returns-clause-end : goal.returns-clause-end
returns-clause-end c size is =
    let same : c.self.inside.tables.end ≡ c.args.self.now.end = ap (λ (m : Machine). m.end) c.self.view_is in
    c.resize.ensures.end ∙ ap (resized c.folded_size-size.result) same
    ∙ ap (λ n. resized n c.args.self.now.end) (size_is c.args.self.now.end c.folded_size-size.result size c.folded_size-size.ensures.size c.requires is)
