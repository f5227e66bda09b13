use Rattle.std.proofs.Common.{sym, ◌∙◌, refl, map}
use Rattle.as4_message.proofs.AttachLemmas.{paired_so, not_paired_so}
use Rattle.as4_message.proofs.attach.attach_named.Goals as goal

pub returns-then-are_paired : goal.returns-then-are_paired
returns-then-are_paired c =
    paired_so c.args.names.now c.in-Some.parts.items _ (rw c.in-Some.is at c.in_ok-parts.ensures)
    (rw (← c.as_slice.ensures.value) (sym c.are_paired.ensures ∙ c.if-are_paired.true))

pub returns : goal.returns
returns c =
    not_paired_so c.args.names.now c.in-Some.parts.items _ (rw c.in-Some.is at c.in_ok-parts.ensures)
    (rw (← c.as_slice.ensures.value) (sym c.are_paired.ensures ∙ c.if-are_paired.false))
