use Rattle.std.proofs.Common.{◌≡◌, List, Some, sym, ap, ◌∙◌}
use Rattle.std.specs.Prelude.{position}
use Rattle.std.specs.List.{slice_get}
use Rattle.as4_effects.specs.declared.effect.Effect.{Effect}
use Rattle.msh_journal.specs.Fetching.{delivers}
use Rattle.msh_journal.proofs.FetchLemmas.{delivered_by, delivery_at, no_delivery, other_delivers}
use Rattle.msh_journal.proofs.fetch.first_delivery.Goals as goal

pub returns-in_default : goal.returns-in_default
returns-in_default c =
    let place : position (delivers c.args.id.now) c.args.effects ≡ c.delivery_place.result =
    ap (λ (l : List Effect). position (delivers c.args.id.now) l) (sym c.items.ensures) ∙ sym c.delivery_place.ensures in
    sym (no_delivery c.args.id.now c.args.effects (place ∙ c.in_default.is))

pub returns-in-Delivered : goal.returns-in-Delivered
returns-in-Delivered c =
    let place : position (delivers c.args.id.now) c.args.effects ≡ c.delivery_place.result =
    ap (λ (l : List Effect). position (delivers c.args.id.now) l) (sym c.items.ensures) ∙ sym c.delivery_place.ensures in
    let there : slice_get c.args.effects c.in-Some.place ≡ Some c.take_at.result =
    ap (λ (l : List Effect). slice_get l c.in-Some.place) (sym c.into_vec.ensures) ∙ c.take_at.ensures in
    sym (delivery_at c.args.id.now c.args.effects c.in-Some.place c.take_at.result (place ∙ c.in-Some.is) there ∙ ap (λ (e : Effect). delivered_by (Some e)) c.in-Delivered.is)

pub returns-in_default-take_at : goal.returns-in_default-take_at
returns-in_default-take_at c =
    let place : position (delivers c.args.id.now) c.args.effects ≡ c.delivery_place.result =
    ap (λ (l : List Effect). position (delivers c.args.id.now) l) (sym c.items.ensures) ∙ sym c.delivery_place.ensures in
    let there : slice_get c.args.effects c.in-Some.place ≡ Some c.take_at.result =
    ap (λ (l : List Effect). slice_get l c.in-Some.place) (sym c.into_vec.ensures) ∙ c.take_at.ensures in
    sym (delivery_at c.args.id.now c.args.effects c.in-Some.place c.take_at.result (place ∙ c.in-Some.is) there ∙ other_delivers c.take_at.result c.in_default-take_at.not-Delivered)
