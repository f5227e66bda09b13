use Rattle.std.proofs.Common.{◌≡◌, ◌∷◌, [], ℕ, List, sym, subst, ◌∙◌}
use Rattle.std.specs.List.{Contains}
use Rattle.as4_effects.specs.declared.mark.Mark.TheVariants.{Refused}
use Rattle.as4_values.specs.declared.message.Message.TheVariants as message
use Rattle.as4_values.specs.declared.signal.Signal.{Signal}
use Rattle.exchange_model.specs.Alone.{end_after}
use Rattle.exchange_model.specs.Apply.{marked}
use Rattle.exchange_model.specs.Causes.{BringsFailureOf}
use Rattle.exchange_model.specs.End.{End, empty_end}
use Rattle.exchange_model.specs.World.{Act, Does}
use Rattle.exchange_model.specs.declared.sent.Sent.{Sent}
use Rattle.exchange_model.specs.declared.what.What.TheVariants as what
use Rattle.exchange_model.proofs.NumberedLemmas.{none_numbered}
use Rattle.exchange_laws.proofs.AloneLemmas.{stays_numbered, may_split, after_both}
use Rattle.exchange_laws.proofs.ListLemmas.{has_contained, contains_had}
use Rattle.exchange_laws.proofs.SentSteps.{Fails}
use Rattle.stranger_laws.proofs.RefusalLemmas.{failure_refuses}
use Rattle.stranger_laws.proofs.laws.a_failure_refuses.Goals as goal

brings : (act : Act) (s : Sent) (signal : Signal) (code : List ℕ) → act.event.what ≡ what.Came (message.Signal signal)
    → Fails (what.Came (message.Signal signal)) s.submission code → BringsFailureOf s code act
brings act s signal code came h = record {
  signal = h.signal;
  items = h.items;
  item = h.item;
  came = came ∙ h.came;
  errors = h.errors;
  one = contains_had h.items h.item h.one;
  failure = h.failure;
  names = h.names;
  told = h.told;
}

pub returns : goal.returns
returns c all act s signal items item may there pending came errors one fails names roomy =
    let first : End = end_after all empty_end in
    let split = may_split all (Does act ∷ []) empty_end may in
    let refused = failure_refuses act.modes first act.event act.outcome s signal items item (stays_numbered all empty_end none_numbered split.0)
    split.1.0 (has_contained first.sent s there) pending came errors (has_contained items item one) fails names roomy in (
      refused.code,
      subst (λ (end : End). Contains end.sent (marked (Refused refused.code) s)) (sym (after_both all (Does act ∷ []) empty_end))
          (contains_had (end_after (Does act ∷ []) first).sent (marked (Refused refused.code) s) refused.there),
      brings act s signal refused.code came refused.fails,
    )
