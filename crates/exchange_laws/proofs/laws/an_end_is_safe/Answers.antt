use Rattle.std.proofs.Common.{◌≡◌, List, inl, inr, refl, sym, subst, ◌∙◌}
use Rattle.std.specs.List.{Contains}
use Rattle.as4_values.specs.declared.header.UserHeader.{UserHeader}
use Rattle.as4_values.specs.declared.message.Message.TheVariants as message
use Rattle.as4_values.specs.declared.payload.Payload.{Payload}
use Rattle.exchange_model.specs.Alone.{IsOutboxSafe, IsSettledRightly, IsInboxSafe}
use Rattle.exchange_model.specs.Causes.{BringsSignal, BringsReceiptOf, BringsFailureOf}
use Rattle.exchange_model.specs.End.{End, empty_end}
use Rattle.exchange_model.specs.Table.{message_of}
use Rattle.exchange_model.specs.World.{Act, acts_of}
use Rattle.exchange_model.specs.declared.sent.Sent.{Sent}
use Rattle.exchange_model.specs.declared.what.What.{What}
use Rattle.exchange_laws.proofs.ListLemmas.{has_contained, contains_had}
use Rattle.exchange_laws.proofs.InboxLemmas.{all_apart}
use Rattle.exchange_laws.proofs.SentSteps.{Fails, brings_either}
use Rattle.exchange_laws.proofs.Accounts.{AreAccounted, SomeAct, IsSettledBy, accounted, sized}
use Rattle.exchange_laws.proofs.TimesLemmas.{ids_apart}
use Rattle.exchange_laws.proofs.laws.an_end_is_safe.Goals as goal

some_act : (acts : List Act) (P Q : Act → Type 0) → ((act : Act) → P act → Q act) → SomeAct acts P → (act : Act) × Contains acts act × Q act
some_act acts P Q so h = (h.0, contains_had acts h.0 h.1, so h.0 h.2)

brings_receipt : (s : Sent) (act : Act) → IsSettledBy s.submission act → BringsReceiptOf s act
brings_receipt s act h = record {
  signal = h.brings.signal;
  copy = h.brings.copy;
  came = came;
  receipt = h.brings.receipt;
  names = h.brings.names;
  same = h.brings.same;
  settles = contains_had act.outcome.effects _ h.settles;
}
  where
    came : BringsSignal act.modes act.event.what h.brings.signal
    came = elim (brings_either act.event.what h.brings.signal h.brings.came) [
      | inl alone ↦ subst (λ (w : What). BringsSignal act.modes w h.brings.signal) (sym alone) refl
      | inr paired ↦ subst (λ (w : What). BringsSignal act.modes w h.brings.signal) (sym paired.1) (paired.2, h.named paired.0 paired.1)
    ]

brings_failure : (s : Sent) (code : List _) (act : Act) → Fails act.event.what s.submission code → BringsFailureOf s code act
brings_failure s code act h = record {
  signal = h.signal;
  items = h.items;
  item = h.item;
  came = h.came;
  errors = h.errors;
  one = contains_had h.items h.item h.one;
  failure = h.failure;
  names = h.names;
  told = h.told;
}

same_message : (header : UserHeader) (payloads : List Payload) (s : Sent) → s.submission.header ≡ header → s.submission.payloads ≡ payloads
    → message.User header payloads ≡ message_of s.submission
same_message header payloads s h p = cc

outbox : (acts : List Act) (end : End) → AreAccounted acts end → IsOutboxSafe acts end
outbox acts end all = record {
  told_apart = all_apart _ (ids_apart 0 end.sent all.counted.numbered);
  handed_in = λ s there. some_act acts _ _ (λ act h. h) (all.taken.handed_in s (has_contained end.sent s there));
  taken_in = λ act number id there told. all.taken.taken_in act number id (has_contained acts act there) told;
  counted = all.taken.counted;
  own = λ act header payloads there said. let s = all.counted.own act (has_contained acts act there) header payloads (has_contained _ _ said) in
      (s.0, contains_had end.sent s.0 s.1, same_message header payloads s.0 s.2 s.3);
  tries = λ s there. all.counted.tries s (has_contained end.sent s there);
  limited = λ s there. (all.counted.kept s (has_contained end.sent s there)).most;
}

settled : (acts : List Act) (end : End) → AreAccounted acts end → IsSettledRightly acts end
settled acts end all = record {
  receipted = λ s there m. some_act acts _ _ (brings_receipt s) (all.settled.receipted s (has_contained end.sent s there) m);
  refused = λ s code there m. some_act acts _ _ (brings_failure s code) (all.settled.refused s code (has_contained end.sent s there) m);
  given_up = λ s there m. let h = has_contained end.sent s there in all.counted.tries s h ∙ (all.counted.kept s h).all m;
  none_spent = λ s there. all.settled.spent s (has_contained end.sent s there);
}

inbox : (acts : List Act) (end : End) → AreAccounted acts end → IsInboxSafe acts end
inbox acts end all = record {
  at_most_once = all_apart _ all.apart;
  came = all.taken.came;
  taken_over = λ n less. some_act acts _ _ (λ act h. h) (all.taken.taken_over n less);
}

pub returns : goal.returns
returns c all may =
    let held = accounted all may in
    record {
      outbox = outbox (acts_of all) _ held;
      settled = settled (acts_of all) _ held;
      inbox = inbox (acts_of all) _ held;
      clock = λ act there ticks roomy. held.clock act (has_contained (acts_of all) act there) ticks roomy;
      size = sized all empty_end;
    }
