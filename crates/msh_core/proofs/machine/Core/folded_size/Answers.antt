use Rattle.std.proofs.Common.{◌≡◌, ap, subst}
use Rattle.exchange_model.specs.End.{End}
use Rattle.fold_laws.specs.Reached.{IsReached}
use Rattle.msh_state.specs.Places.{EachOpen, IsMeasured}
use Rattle.msh_core.specs.Machine.{Machine}
use Rattle.msh_core.proofs.FoldSizeLemmas.{IsSizeOf, size_found, size_only}
use Rattle.msh_core.proofs.machine.Core.folded_size.Goals as goal

found : (c : goal.After-clock_size) → IsSizeOf c.args.self.now.end c.clock_size.result
found c =
    let end = c.self.inside.tables.end in
    let same : end ≡ c.args.self.now.end = ap (λ (m : Machine). m.end) c.self.view_is in
    subst (λ (e : End). IsSizeOf e c.clock_size.result) same
    (size_found end c.submissions_size-sum.result c.taken_over_size-sum.result c.waiting_size-sum.result c.clock_size.result c.self.invariant.reached
    c.submissions_size-sum.ensures c.taken_over_size-sum.ensures c.waiting_size-sum.ensures c.clock_size.ensures)

pub returns-clause-reached : goal.returns-clause-reached
returns-clause-reached c = subst IsReached (ap (λ (m : Machine). m.end) c.self.view_is) c.self.invariant.reached

pub returns-clause-measured : goal.returns-clause-measured
returns-clause-measured c =
    subst (λ (m : Machine). EachOpen IsMeasured m.end.confirmed m.places m.end.inbox) c.self.view_is c.self.invariant.measured

pub waiting_size-sum-requires : goal.waiting_size-sum-requires
waiting_size-sum-requires c = c.self.invariant.measured

pub returns-clause-size : goal.returns-clause-size
returns-clause-size c = found c

pub returns-clause-only : goal.returns-clause-only
returns-clause-only c size is = size_only c.args.self.now.end c.clock_size.result size (found c) is
