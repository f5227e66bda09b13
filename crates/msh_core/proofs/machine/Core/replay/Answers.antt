use Rattle.std.proofs.Common.{◌≡◌, ap, ◌∙◌}
use Rattle.exchange_model.specs.Apply.{applied}
use Rattle.exchange_model.specs.End.{End}
use Rattle.msh_core.specs.Machine.{Machine}
use Rattle.msh_core.proofs.RecordLemmas.{are_some, grown, room_for_record}
use Rattle.msh_core.proofs.MeasuredLemmas.{consistent_applied, consistent_same}
use Rattle.msh_state.specs.Places.{places_after_all}
use Rattle.msh_core.proofs.machine.Core.replay.Goals as goal

pub grow-requires : goal.grow-requires
grow-requires c =
    let same : c.self.inside.tables.end ≡ c.args.self.now.end = ap (λ (m : Machine). m.end) c.self.view_is in
    rw c.record_len-len.ensures.value
    (room_for_record c.args.effects c.self.inside.tables.end c.replay_all.new.tables.end (rw same c.requires.limited)
    c.in_ok-replay_all.ensures.ok)

pub returns-clause-ok : goal.returns-clause-ok
returns-clause-ok c =
    let same : c.self.inside.tables.end ≡ c.args.self.now.end = ap (λ (m : Machine). m.end) c.self.view_is in
    grown c.args.effects c.self.inside.tables.end c.replay_all.new.tables.end c.grow.new.self.end
    (are_some c.args.effects c.requires.some)
    c.in_ok-replay_all.ensures.ok (rw c.record_len-len.ensures.value at c.grow.ensures.end)
    ∙ ap (λ (e : End). applied c.args.effects e) same

pub returns-clause-places : goal.returns-clause-places
returns-clause-places c =
    c.grow.ensures.places ∙ c.in_ok-replay_all.ensures.places
    ∙ ap (λ (m : Machine). places_after_all c.args.effects c.args.gate m.places) c.self.view_is

pub invariant_of-self-2 : goal.invariant_of-self-2
invariant_of-self-2 c =
    consistent_same _ _ _ _
    (grown c.args.effects c.self.inside.tables.end c.replay_all.new.tables.end c.grow.new.self.end
    (are_some c.args.effects c.requires.some)
    c.in_ok-replay_all.ensures.ok (rw c.record_len-len.ensures.value at c.grow.ensures.end))
    (c.grow.ensures.places ∙ c.in_ok-replay_all.ensures.places)
    (consistent_applied c.args.effects c.args.gate c.self.inside.tables.end c.self.inside.tables.places c.in_ok-replay_all.ensures.fit c.self.invariant)
