use Rattle.std.proofs.Common.{◌≡◌, ◌==◌, None, length, true, false, ap, sym, ◌∙◌}
use Rattle.exchange_model.specs.Apply.{applied, first_unfit}
use Rattle.exchange_model.specs.End.{End}
use Rattle.exchange_model.specs.Table.{has_room}
use Rattle.msh_core.specs.Machine.{Machine}
use Rattle.msh_core.proofs.RecordLemmas.{grown, rests, rests_places, room_to_grow}
use Rattle.msh_core.proofs.MeasuredLemmas.{consistent_applied, consistent_same}
use Rattle.msh_state.specs.Places.{places_after_all}
use Rattle.msh_core.proofs.machine.Core.commit.Goals as goal

pub grow-requires : goal.grow-requires
grow-requires c =
    let effects = c.into_parts-effects.result.0 in
    let same_end : c.self.inside.tables.end ≡ c.args.self.now.end = ap (λ (m : Machine). m.end) c.self.view_is in
    let room : has_room c.self.inside.tables.end effects ≡ true =
    rw (same_end, c.into_parts-effects.ensures.effects) c.requires.limited in
    let some : (length effects == 0) ≡ false = rw (sym c.items.ensures) (sym c.is_empty.ensures ∙ c.if-is_empty.false) in
    rw c.record_len-len.ensures.value (room_to_grow effects c.self.inside.tables.end c.apply_all.new.tables.end some room c.apply_all.ensures.end)

pub returns-then-is_empty-clause-end : goal.returns-then-is_empty-clause-end
returns-then-is_empty-clause-end c =
    let effects = c.into_parts-effects.result.0 in
    let none : (length effects == 0) ≡ true = rw (sym c.items.ensures) (sym c.is_empty.ensures ∙ c.if-is_empty.true) in
    rests effects c.args.self.now.end none
    ∙ ap (λ l. applied l c.args.self.now.end) c.into_parts-effects.ensures.effects

pub returns-clause-end : goal.returns-clause-end
returns-clause-end c =
    let effects = c.into_parts-effects.result.0 in
    let same_end : c.self.inside.tables.end ≡ c.args.self.now.end = ap (λ (m : Machine). m.end) c.self.view_is in
    let some : (length effects == 0) ≡ false = rw (sym c.items.ensures) (sym c.is_empty.ensures ∙ c.if-is_empty.false) in
    grown effects c.self.inside.tables.end c.apply_all.new.tables.end c.grow.new.self.end some
    c.apply_all.ensures.end (rw c.record_len-len.ensures.value at c.grow.ensures.end)
    ∙ ap (λ (e : End). applied effects e) same_end
    ∙ ap (λ l. applied l c.args.self.now.end) c.into_parts-effects.ensures.effects

pub returns-then-is_empty-clause-places : goal.returns-then-is_empty-clause-places
returns-then-is_empty-clause-places c =
    let effects = c.into_parts-effects.result.0 in
    let none : (length effects == 0) ≡ true = rw (sym c.items.ensures) (sym c.is_empty.ensures ∙ c.if-is_empty.true) in
    rests_places effects c.args.gate c.args.self.now.places none
    ∙ ap (λ l. places_after_all l c.args.gate c.args.self.now.places) c.into_parts-effects.ensures.effects

pub returns-clause-places : goal.returns-clause-places
returns-clause-places c =
    c.grow.ensures.places ∙ c.apply_all.ensures.places
    ∙ ap (λ (m : Machine). places_after_all c.into_parts-effects.result.0 c.args.gate m.places) c.self.view_is
    ∙ ap (λ l. places_after_all l c.args.gate c.args.self.now.places) c.into_parts-effects.ensures.effects

pub invariant_of-self : goal.invariant_of-self
invariant_of-self c =
    let effects = c.into_parts-effects.result.0 in
    let same_end : c.self.inside.tables.end ≡ c.args.self.now.end = ap (λ (m : Machine). m.end) c.self.view_is in
    let fits : first_unfit effects c.self.inside.tables.end ≡ None = rw (same_end, c.into_parts-effects.ensures.effects) c.requires.stands.fit in
    let some : (length effects == 0) ≡ false = rw (sym c.items.ensures) (sym c.is_empty.ensures ∙ c.if-is_empty.false) in
    consistent_same _ _ _ _
    (grown effects c.self.inside.tables.end c.apply_all.new.tables.end c.grow.new.self.end some c.apply_all.ensures.end
    (rw c.record_len-len.ensures.value at c.grow.ensures.end))
    (c.grow.ensures.places ∙ c.apply_all.ensures.places)
    (consistent_applied effects c.args.gate c.self.inside.tables.end c.self.inside.tables.places fits c.self.invariant)
