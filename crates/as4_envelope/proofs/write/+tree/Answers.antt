use Rattle.std.proofs.Common.{append_assoc}
use Rattle.as4_envelope.proofs.TreeLemmas.{element_text_out}
use Rattle.as4_envelope.proofs.write.+tree.Goals as goal

pub push_element-returns : goal.push_element-returns
push_element-returns t c =
    rw (c.in_ok-push_end.ensures, c.in_ok-push_children.ensures, c.in_ok-push_escaped.ensures, c.in_ok-push_start.ensures, c.items.ensures, c.bytes.ensures, element_text_out)
    (simp append_assoc)
