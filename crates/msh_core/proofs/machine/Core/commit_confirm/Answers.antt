use Rattle.std.proofs.Common.{◌≡◌, ◌+◌, ◌<◌, ◌≤◌, length, ap, ◌∙◌}
use Rattle.exchange_model.specs.Apply.{after}
use Rattle.exchange_model.specs.End.{End}
use Rattle.msh_state.specs.Places.{places_after}
use Rattle.msh_core.specs.Machine.{Machine}
use Rattle.msh_core.proofs.SmallLemmas.{confirm_done}
use Rattle.msh_core.proofs.MeasuredLemmas.{confirm_consistent}
use Rattle.msh_core.proofs.machine.Core.commit_confirm.Goals as goal

pub returns-clause-step : goal.returns-clause-step
returns-clause-step c outcome stands =
    let same : c.self.inside.tables.end ≡ c.args.self.now.end = ap (λ (m : Machine). m.end) c.self.view_is in
    confirm_done c.args.self.now.end c.grow.new.self.end c.args.upto outcome
    (c.grow.ensures.end ∙ ap (λ (e : End). record e { size = e.size + 20 }) (c.apply.ensures.end ∙ ap (after _) same)) stands

pub invariant_of-self : goal.invariant_of-self
unfolding places_after
invariant_of-self c =
    let same : c.self.inside.tables.end ≡ c.args.self.now.end = ap (λ (m : Machine). m.end) c.self.view_is in
    let left : c.self.inside.tables.end.confirmed ≤ c.args.upto = rw same c.requires.0 in
    let within : c.args.upto < length c.self.inside.tables.end.inbox = rw same c.requires.1 in
    confirm_consistent c.self.inside.tables.end c.apply.new.self.end c.grow.new.self.end c.self.inside.tables.places c.grow.new.self.places
    c.args.upto left within c.apply.ensures.end c.grow.ensures.end (c.grow.ensures.places ∙ c.apply.ensures.places) c.self.invariant
