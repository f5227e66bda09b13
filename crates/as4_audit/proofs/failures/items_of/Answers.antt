use Rattle.std.proofs.Common.{◌+◌, ◌∷◌, [], length, length-append, ap, ◌∙◌}
use Rattle.as4_audit.proofs.RefusalLemmas.{item_next, no_item}
use Rattle.as4_audit.proofs.failures.items_of.Goals as goal

pub returns-in_default-clause-items : goal.returns-in_default-clause-items
returns-in_default-clause-items c =
    no_item c.args.core.now.end.sent c.args.effects.now c.loop-effect.effect-index c.effect-item.result c.loop-effect-test.true c.effect-item.is
    (rw c.in_default.is at c.in_ok-item.ensures)

pub loop-effect-preserved : goal.loop-effect-preserved
loop-effect-preserved c = record {
  items = rw c.in_ok-push.ensures.items
      (item_next c.args.core.now.end.sent c.args.effects.now c.loop-effect.effect-index c.effect-item.result c.in-Some.item c.loop-effect.items.items
      c.loop-effect.invariant.items c.loop-effect-test.true c.effect-item.is (rw c.in-Some.is at c.in_ok-item.ensures));
  counted = ap length c.in_ok-push.ensures.items ∙ length-append c.loop-effect.items.items (c.in-Some.item ∷ [])
      ∙ ap (λ n. n + 1) c.loop-effect.invariant.counted;
}
