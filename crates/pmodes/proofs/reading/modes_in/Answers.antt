use Rattle.std.proofs.Common.{ap, arith, ◌∙◌}
use Rattle.pmodes.specs.ModeFile.{at_place}
use Rattle.pmodes.specs.declared.fault.Fault.{Fault}
use Rattle.pmodes.proofs.TableLemmas.{mode_step, mode_stop, modes_end}
use Rattle.pmodes.proofs.reading.modes_in.Goals as goal

pub returns-in-Err-mode_of_item-clause-refused : goal.returns-in-Err-mode_of_item-clause-refused
returns-in-Err-mode_of_item-clause-refused c some =
    rw c.at_place.ensures
    (c.loop-place.invariant.so_far
    ∙ mode_stop c.args.items.now c.loop-place.place c.index-items-place.result c.loop-place.modes.items c.in-Err-mode_of_item.fault c.loop-place-test.true c.index-items-place.is
    (c.in-Err-mode_of_item.ensures.refused (λ e. some (c.at_place.ensures ∙ ap (λ (f : Fault). at_place c.loop-place.place f) e))))

pub loop-place-preserved : goal.loop-place-preserved
loop-place-preserved c =
    rw c.push_reserved.ensures.items (record {
      so_far = c.loop-place.invariant.so_far ∙ mode_step c.args.items.now c.loop-place.place c.index-items-place.result c.loop-place.modes.items c.in-Ok-mode_of_item.mode c.loop-place-test.true c.index-items-place.is c.in-Ok-mode_of_item.ensures.found;
      len = omega (arith, c.push_reserved.ensures.len, c.loop-place.invariant.len);
      room = c.push_reserved.ensures.capacity ∙ c.loop-place.invariant.room;
    })

pub returns-clause-found : goal.returns-clause-found
returns-clause-found c =
    rw c.of.ensures (c.loop-place.invariant.so_far ∙ modes_end c.args.items.now c.loop-place.place c.loop-place.modes.items c.loop-place-test.false)
