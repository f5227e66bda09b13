use Rattle.as4_effects.proofs.LengthLemmas.{list_is_counted}
use Rattle.as4_effects.proofs.measured.SeqMeasured.add_len.Goals as goal

pub returns : goal.returns
returns g c =
    list_is_counted g.T.Measured.body c.args.sum c.saturating_add-total.result c.loop-item.total c.loop-item.item-index c.items-item-items.result.now c.args.self.now
    c.items-item-items.ensures c.loop-item-test.false c.saturating_add-total.ensures c.loop-item.invariant
