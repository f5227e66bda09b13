-- A step is a row of the table, or changes nothing.
use Rattle.std.proofs.Common.{◌≡◌, ℕ, ◌⊎◌, inl, inr, List, [], sym, ap, subst}
use Rattle.mode_values.specs.declared.mode.Mode.{Mode}
use Rattle.exchange_model.specs.Apply.{applied, record_len}
use Rattle.exchange_model.specs.End.{End}
use Rattle.exchange_model.specs.Table.{Rests, RowOf, Step, has_room}
use Rattle.exchange_model.specs.declared.event.Event.{Event}
use Rattle.exchange_model.specs.declared.outcome.Outcome.{Outcome}
use Rattle.exchange_model.specs.declared.reply.Reply.{Reply}
use Rattle.exchange_model.specs.declared.reply.Reply.TheVariants as reply
use Rattle.exchange_model.specs.declared.what.What.{What}
use Rattle.exchange_laws.proofs.EndSteps.{by_bool}
use Rattle.exchange_laws.proofs.RoomLemmas.{rest_taken}

-- the row of an event
pub row_of : (modes : List Mode) (end : End) (event : Event) (outcome : Outcome) (w : What) (step : Step modes end event outcome) → event.what ≡ w
    → RowOf modes end event w step.row
row_of modes end event outcome w step e = subst (λ (x : What). RowOf modes end event x step.row) e step.decided

-- the outcome is the row, or says that the journal is full
pub row_or_full : (modes : List Mode) (end : End) (event : Event) (outcome : Outcome) (w : What) → Step modes end event outcome
    → event.what ≡ w → RowOf modes end event w outcome ⊎ ((need : ℕ) × Rests (reply.Full end.size need) outcome)
row_or_full modes end event outcome w step e =
    by_bool _ _ _ (has_room end step.row.effects) step.limited
    (λ _ same. inl (subst (RowOf modes end event w) (sym same) (row_of modes end event outcome w step e)))
    (λ _ full. inr (record_len step.row.effects, full))

-- without effects the endpoint stays as it is
pub rests_same : (end : End) (outcome : Outcome) → outcome.effects ≡ [] → applied outcome.effects end ≡ end
unfolding applied
rests_same end outcome e = ap (λ effects. applied effects end) e

-- the reply of an event whose row changes nothing
pub rest_replies : (modes : List Mode) (end : End) (event : Event) (outcome : Outcome) (w : What) (r : Reply) (step : Step modes end event outcome)
    → event.what ≡ w → (RowOf modes end event w step.row → Rests r step.row) → outcome.reply ≡ r
rest_replies modes end event outcome w r step asked rests =
    ap (λ (o : Outcome). o.reply) (rest_taken end step.row outcome r step.limited (rests (row_of modes end event outcome w step asked)))
