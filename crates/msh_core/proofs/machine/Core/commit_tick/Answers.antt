use Rattle.std.proofs.Common.{◌≡◌, ◌+◌, ◌<◌, ap, refl, ◌∙◌}
use Rattle.std.specs.List.{count_by}
use Rattle.exchange_model.specs.Apply.{after}
use Rattle.exchange_model.specs.End.{End}
use Rattle.exchange_model.specs.Questions.{is_spent}
use Rattle.msh_state.specs.Places.{places_after}
use Rattle.msh_core.specs.Machine.{Machine}
use Rattle.msh_core.proofs.SmallLemmas.{tick_done}
use Rattle.msh_core.proofs.MeasuredLemmas.{tick_consistent}
use Rattle.msh_core.proofs.machine.Core.commit_tick.Goals as goal

pub returns-clause-step : goal.returns-clause-step
returns-clause-step c outcome stands =
    let same : c.self.inside.tables.end ≡ c.args.self.now.end = ap (λ (m : Machine). m.end) c.self.view_is in
    tick_done c.args.self.now.end c.grow.new.self.end c.args.moment c.spent-failed.result _ outcome refl
    (c.grow.ensures.end ∙ ap (λ (e : End). record e { size = e.size + 20 }) (c.apply.ensures.end ∙ ap (after _) same))
    (c.spent-failed.ensures ∙ ap (λ (e : End). count_by (is_spent c.args.moment) e.sent) same) stands

pub invariant_of-self : goal.invariant_of-self
unfolding places_after
invariant_of-self c =
    let same : c.self.inside.tables.end ≡ c.args.self.now.end = ap (λ (m : Machine). m.end) c.self.view_is in
    let later : c.self.inside.tables.end.moment < c.args.moment = rw same c.requires.0 in
    tick_consistent c.self.inside.tables.end c.apply.new.self.end c.grow.new.self.end c.self.inside.tables.places c.grow.new.self.places _ later
    c.apply.ensures.end c.grow.ensures.end (c.grow.ensures.places ∙ c.apply.ensures.places) c.self.invariant
