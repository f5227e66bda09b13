use Rattle.std.proofs.Common.{◌≡◌, ◌==◌, length, true, false, ap, refl, sym, ◌∙◌}
use Rattle.exchange_model.specs.declared.outcome.Outcome.{Outcome}
use Rattle.msh_core.specs.Machine.{IsGiven}
use Rattle.msh_core.proofs.GivenLemmas.{given_step, limited_given}
use Rattle.msh_core.proofs.PreparedLemmas.{free_row, not_free, nothing_ready}
use Rattle.msh_core.proofs.machine.Core.prepare.Goals.{in-Ok, in-Err}
use Rattle.msh_core.proofs.machine.Core.prepare.Goals as goal

pub returns-in_err-row-clause-free : goal.returns-in_err-row-clause-free
returns-in_err-row-clause-free c outcome step free =
    let wrong : false ≡ true =
    rw c.in_err-row.was at (c.row_of.ensures.free outcome (free_row _ _ _ outcome (rw (sym c.self.view_is) at step) free) free) in
    absurd cc

pub returns-then-is_empty-clause-given : goal.returns-then-is_empty-clause-given
returns-then-is_empty-clause-given c = rw (c.of-then-is_empty.ensures, ← c.self.view_is)
    (limited_given _ _ c.args.event.now _ _ c.in_ok-row.ensures.row c.limited-outcome.ensures.limited)

pub returns-then-is_empty-clause-ready : goal.returns-then-is_empty-clause-ready
returns-then-is_empty-clause-ready c =
    let none : (length c.limited-outcome.result.effects == 0) ≡ true =
    rw (sym c.items.ensures) (sym c.is_empty.ensures ∙ c.if-is_empty.true) in
    rw (c.of-then-is_empty.ensures, ← c.self.view_is)
    (nothing_ready _ _ _ _ none (c.of.ensures ∙ c.new.ensures.items)
    c.limited-outcome.ensures.stands c.limited-outcome.ensures.room)

pub returns-clause-given : goal.returns-clause-given
returns-clause-given c =
    let given : IsGiven c.self.inside.modes c.self.inside.tables.end c.args.event.now c.limited-outcome.result =
    limited_given _ _ c.args.event.now _ _ c.in_ok-row.ensures.row c.limited-outcome.ensures.limited in
    elim c.match-room_for.branch [
      | in-Ok w ↦ rw (w.result-is, w.of-in-Ok.ensures, ← c.self.view_is) given
      | in-Err w ↦ rw w.result-is tt
    ]

pub returns-clause-ready : goal.returns-clause-ready
returns-clause-ready c =
    elim c.match-room_for.branch [
      | in-Ok w ↦ rw (w.result-is, w.of-in-Ok.ensures) record {
        stands = rw c.room_for.ensures.end c.limited-outcome.ensures.stands;
        queues = rw w.in-Ok.is at c.room_for.ensures.queues;
        room = rw w.in-Ok.is at c.room_for.ensures.room;
        limited = rw c.room_for.ensures.end c.limited-outcome.ensures.room;
      }
      | in-Err w ↦ rw w.result-is tt
    ]

pub returns-clause-free : goal.returns-clause-free
returns-clause-free c outcome step free =
    let planned : IsGiven c.self.inside.modes c.self.inside.tables.end c.args.event.now c.limited-outcome.result =
    limited_given _ _ c.args.event.now _ _ c.in_ok-row.ensures.row c.limited-outcome.ensures.limited in
    let some : (length c.limited-outcome.result.effects == 0) ≡ false =
    rw (sym c.items.ensures) (sym c.is_empty.ensures ∙ c.if-is_empty.false) in
    elim c.match-room_for.branch [
      | in-Ok w ↦ rw w.result-is refl
      | in-Err w ↦ absurd (
          let same : outcome ≡ c.limited-outcome.result =
          w.an_event_has_one_outcome.ensures _ _ _ outcome c.limited-outcome.result (rw (sym c.self.view_is) at step)
          (given_step _ _ _ _ (not_free _ some) planned) in
          not_free _ some (ap (λ (o : Outcome). o.effects) (sym same) ∙ free.rests)
          )
    ]
