use Rattle.std.proofs.Common.{arith, ◌∙◌}
use Rattle.std.proofs.Common.{length-append}
use Rattle.pmodes.proofs.TableLemmas.{party_step, party_stop, parties_end, one_more_party}
use Rattle.pmodes.proofs.sides.parties_in.Goals as goal

pub returns-in-Err-party_of-clause-refused : goal.returns-in-Err-party_of-clause-refused
returns-in-Err-party_of-clause-refused c some =
    c.loop-item.invariant.so_far
    ∙ party_stop c.args.items.now c.loop-item.item-index c.item-item.result c.loop-item.parties.items c.in-Err-party_of.fault c.loop-item-test.true c.item-item.is (c.in-Err-party_of.ensures.refused some)

pub loop-item-preserved : goal.loop-item-preserved
loop-item-preserved c =
    rw c.push_reserved.ensures.items (record {
      so_far = c.loop-item.invariant.so_far ∙ party_step c.args.items.now c.loop-item.item-index c.item-item.result c.loop-item.parties.items c.in-Ok-party_of.party c.loop-item-test.true c.item-item.is c.in-Ok-party_of.ensures.found;
      counted = rw length-append (omega (arith, c.loop-item.invariant.counted));
      len = omega (arith, c.push_reserved.ensures.len, c.loop-item.invariant.len);
      room = c.push_reserved.ensures.capacity ∙ c.loop-item.invariant.room;
      short = one_more_party c.loop-item.parties.items c.in-Ok-party_of.party c.loop-item.invariant.short c.in-Ok-party_of.ensures.short;
    })

pub returns-clause-found : goal.returns-clause-found
returns-clause-found c =
    rw c.of.ensures (c.loop-item.invariant.so_far ∙ parties_end c.args.items.now c.loop-item.item-index c.loop-item.parties.items c.loop-item-test.false)
