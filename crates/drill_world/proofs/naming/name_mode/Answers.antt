use Rattle.std.proofs.Common.{◌<◌, length, arith, sym, ◌∙◌}
use Rattle.drill_world.proofs.NameLemmas.{modes_more}
use Rattle.drill_world.proofs.StateLemmas.{placed_here}
use Rattle.drill_world.proofs.naming.name_mode.Goals as goal

pub returns-clause-made : goal.returns-clause-made
returns-clause-made c =
    let added = c.in_ok-add_mode.ensures.adds in
    let few : length c.args.modes.now.items < 1024 = rw (← c.as_slice.ensures.value) (omega arith) in
    modes_more c.args.modes.now.items c.add_mode.new.modes.items c.args.link c.args.name.now c.args.way c.args.retries c.args.period added.0
    c.requires.made few
    (rw c.as_slice.ensures.value at (sym c.is_named.ensures ∙ c.if-is_named.false)) added.1 added.2

pub returns-in_err-add_mode-clause-told : goal.returns-in_err-add_mode-clause-told
returns-in_err-add_mode-clause-told c misplaced =
    let few : length c.args.modes.now.items < 1024 = rw (← c.as_slice.ensures.value) (omega arith) in
    let other = rw c.as_slice.ensures.value at (sym c.is_named.ensures ∙ c.if-is_named.false) in
    let placed = placed_here c.args.name.now c.args.modes.now.items c.args.begun c.if-begun.false few other in
    absurd (cc (placed, misplaced))
