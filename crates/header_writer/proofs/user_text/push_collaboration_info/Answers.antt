use Rattle.std.proofs.Common.{append_assoc}
use Rattle.message_model.specs.UnitText.{collaboration_info}
use Rattle.header_writer.proofs.user_text.push_collaboration_info.Goals as goal

pub returns : goal.returns
unfolding collaboration_info
returns c = rw (c.in_ok-push_end_tag.ensures, c.in_ok-push_text_element-2.ensures, c.in_ok-push_text_element.ensures, c.in_ok-push_to.ensures, c.in_ok-push_agreement.ensures, c.in_ok-push_tag_end.ensures, c.in_ok-push_tag_start.ensures, c.bytes_or_none.ensures, c.bytes.ensures.value) (simp append_assoc)
