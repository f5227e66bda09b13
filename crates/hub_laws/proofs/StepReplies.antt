-- What the hub's two steps reply, and that only an accepted submission changes its state.
use Rattle.std.proofs.Common.{◌≡◌, ℕ, List, [], Bool, true, false, Option, Some, None, length, refl, sym, subst}
use Rattle.std.specs.Prelude.{nat_le, nat_lt, slice_get, if◌then◌else◌}
use Rattle.as4_effects.specs.declared.effect.Effect.{Effect}
use Rattle.as4_values.specs.declared.payload.Load.{Load}
use Rattle.mode_values.specs.ModeMatch.{mode_named}
use Rattle.mode_values.specs.declared.mode.Mode.{Mode}
use Rattle.exchange_model.specs.End.{End}
use Rattle.exchange_model.specs.Submitting.{are_too_large}
use Rattle.exchange_model.specs.Table.{RowOf, Step, Submits, entry_reply, has_room, read_reply}
use Rattle.exchange_model.specs.declared.event.Event.{Event}
use Rattle.exchange_model.specs.declared.inbox_entry.InboxEntry.{InboxEntry}
use Rattle.exchange_model.specs.declared.outcome.Outcome.{Outcome}
use Rattle.exchange_model.specs.declared.reply.Reply.{Reply}
use Rattle.exchange_model.specs.declared.reply.Reply.TheVariants as reply
use Rattle.exchange_model.specs.declared.what.What.{What}
use Rattle.exchange_model.specs.declared.what.What.TheVariants as what
use Rattle.exchange_laws.proofs.EndSteps.{by_option, by_bool}
use Rattle.hub_laws.specs.Replies.{IsFirst, IsSecond, RestsUnless}

-- a `Read`
pub read_first : (hub : End) (n : ℕ) → IsFirst (read_reply hub n)
unfolding read_reply
read_first hub n = by_test (nat_lt n hub.confirmed)
  where
    by_entry : (o : Option InboxEntry) → IsFirst (entry_reply o)
    by_entry None = tt
    by_entry (Some entry) = tt

    by_test : (b : Bool) → IsFirst (if b then reply.Gone else entry_reply (slice_get hub.inbox n))
    by_test true = tt
    by_test false = by_entry (slice_get hub.inbox n)

-- a `Submit`
pub record RepliesSecond (outcome : Outcome) : Type 0 where
  pub second : IsSecond outcome.reply
  pub rests : RestsUnless outcome.reply outcome.effects

second_by : (r : Reply) (effects : List Effect) (outcome : Outcome) → IsSecond r → RestsUnless r effects
    → outcome ≡ record { effects = effects; reply = r } → RepliesSecond outcome
second_by r effects outcome second rests e = subst RepliesSecond (sym e) (record { second = second; rests = rests })

row_second : (modes : List Mode) (end : End) (event : Event) (name : List ℕ) (conversation : Option (List ℕ)) (loads : List Load) (outcome : Outcome)
    → Submits modes end event name conversation loads outcome → RepliesSecond outcome
unfolding Submits
row_second modes end event name conversation loads outcome h =
    by_option _ _ _ (mode_named modes name) h (second_by reply.NoMode [] outcome tt refl) (λ mode _ k.
    by_bool _ _ _ (nat_le 1048576 (length end.sent)) k (λ _. second_by reply.OutboxFull [] outcome tt refl) (λ _ l.
    by_bool _ _ _ (are_too_large loads) l (λ _. second_by reply.TooLarge [] outcome tt refl) (λ _ t.
    second_by (reply.Submitted t.0.number t.0.header.id) _ outcome tt tt t.2)))

pub replies_second : (modes : List Mode) (end : End) (event : Event) (outcome : Outcome) (name : List ℕ) (conversation : Option (List ℕ)) (loads : List Load)
    → Step modes end event outcome → event.what ≡ what.Submit name conversation loads → RepliesSecond outcome
replies_second modes end event outcome name conversation loads step asked =
    by_bool _ _ _ (has_room end step.row.effects) step.limited
    (λ _ same. subst RepliesSecond (sym same)
    (row_second modes end event name conversation loads step.row (subst (λ (w : What). RowOf modes end event w step.row) asked step.decided)))
    (λ _ full. second_by (reply.Full end.size _) [] outcome tt refl full)
