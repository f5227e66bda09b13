-- The results of preparing: a plan that is ready, or out of memory, if memory is needed.
use Rattle.std.proofs.Common.{◌≡◌, List, [], ◌∷◌, Bool, true, false, ◌==◌, length, map, ap, sym, subst, ◌∙◌, arith}
use Rattle.std.proofs.lemmas.Bool.{eqb-true}
use Rattle.std.specs.Bool.{MatchBool}
use Rattle.as4_effects.specs.declared.effect.Effect.{Effect}
use Rattle.as4_effects.specs.declared.queue.Queue.{Queue}
use Rattle.mode_values.specs.declared.mode.Mode.{Mode}
use Rattle.msh_state.specs.Standing.{CanStand}
use Rattle.exchange_model.specs.End.{End}
use Rattle.exchange_model.specs.Apply.{record_len}
use Rattle.exchange_model.specs.Table.{Rests, RowOf, Step, has_room}
use Rattle.exchange_model.specs.declared.event.Event.{Event}
use Rattle.exchange_model.specs.declared.outcome.Outcome.{Outcome}
use Rattle.exchange_model.specs.declared.reply.Reply.{Reply}
use Rattle.exchange_model.specs.declared.reply.Reply.TheVariants as reply
use Rattle.msh_transitions.specs.Free.{IsBare, IsFree}
use Rattle.msh_state.specs.Rooms.{queue_for}
use Rattle.msh_core.specs.Machine.{HaveRoom, IsReady, Machine, Planned}

row_is : (b : Bool) (end : End) (row outcome : Outcome)
    → MatchBool b (outcome ≡ row) (Rests (reply.Full end.size (record_len row.effects)) outcome) → IsFree outcome → outcome ≡ row
row_is true end row outcome limited free = limited
row_is false end row outcome limited free = absurd (subst (λ (o : Outcome). IsBare o.reply) limited free.bare)

-- an outcome that needs no memory is a row of the table
pub free_row : (modes : List Mode) (end : End) (event : Event) (outcome : Outcome) → Step modes end event outcome → IsFree outcome
    → RowOf modes end event event.what outcome
free_row modes end event outcome step free =
    subst (λ o. RowOf modes end event event.what o) (sym (row_is _ end step.row outcome step.limited free)) step.decided

-- a plan without effects is ready
pub nothing_ready : (machine : Machine) (effects : List Effect) (r : Reply) (queues : List Queue)
    → (length effects == 0) ≡ true → queues ≡ [] → CanStand machine.end effects → has_room machine.end effects ≡ true
    → IsReady machine (record { outcome = record { effects = effects; reply = r }; queues = queues })
nothing_ready machine [] r queues none empty stands room =
    record { stands = stands; queues = empty; room = tt; limited = room }
nothing_ready machine (e ∷ effects) r queues none empty stands room =
    let zero : length (e ∷ effects) ≡ 0 = eqb-true (length (e ∷ effects)) 0 none in absurd (omega arith)

-- a plan stays ready with another reply
pub still_ready : (machine : Machine) (plan other : Planned) → other.outcome.effects ≡ plan.outcome.effects → other.queues ≡ plan.queues
    → IsReady machine plan → IsReady machine other
still_ready machine plan other same queues ready = record {
  stands = subst (λ (effects : List Effect). CanStand machine.end effects) (sym same) ready.stands;
  queues = queues ∙ ready.queues ∙ ap (map (queue_for machine.end.sent)) (sym same);
  room = subst (λ (effects : List Effect). HaveRoom machine.rooms machine.end.sent effects) (sym same) ready.room;
  limited = ap (has_room machine.end) same ∙ ready.limited;
}

-- an outcome without effects plans none
pub not_free : (effects : List Effect) → (length effects == 0) ≡ false → effects ≡ [] → ⊥
not_free effects some none = absurd cc
