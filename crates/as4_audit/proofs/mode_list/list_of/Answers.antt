use Rattle.std.proofs.Common.{◌∙◌, sym}
use Rattle.as4_audit.proofs.ListLemmas.{take_got}
use Rattle.as4_audit.proofs.mode_list.list_of.Goals as goal

pub loop-place-preserved : goal.loop-place-preserved
loop-place-preserved c =
    c.in_ok-push.ensures.items
    ∙ rw (c.loop-place.invariant, c.in_ok-try_clone.ensures)
    (sym (take_got c.args.modes.now c.loop-place.place c.in-Some.mode.now c.in-Some.ensures.value))
