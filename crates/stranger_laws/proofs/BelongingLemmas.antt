-- What is sent belongs to the event.
use Rattle.std.proofs.Common.{◌≡◌, inl, inr, List, refl, sym, subst}
use Rattle.mode_values.specs.declared.mode.Mode.{Mode}
use Rattle.exchange_model.specs.End.{End}
use Rattle.exchange_model.specs.Table.{Step}
use Rattle.exchange_model.specs.declared.event.Event.{Event}
use Rattle.exchange_model.specs.declared.outcome.Outcome.{Outcome}
use Rattle.stranger_laws.specs.Belonging.{BelongsTo}
use Rattle.stranger_laws.proofs.OneStep.{row_or_full}
use Rattle.stranger_laws.proofs.ReplyLemmas.{belongs, row_suits}

pub sent_belongs : (modes : List Mode) (end : End) (event : Event) (outcome : Outcome) → Step modes end event outcome → BelongsTo event.what outcome.reply
sent_belongs modes end event outcome step = elim (row_or_full modes end event outcome event.what step refl) [
  | inl row ↦ belongs event.what outcome.reply (row_suits modes end event event.what outcome row)
  | inr full ↦ subst (λ (o : Outcome). BelongsTo event.what o.reply) (sym full.1) tt
]
