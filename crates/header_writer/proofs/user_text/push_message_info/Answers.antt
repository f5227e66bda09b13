use Rattle.std.proofs.Common.{append_assoc}
use Rattle.message_model.specs.UnitText.{message_info}
use Rattle.header_writer.proofs.user_text.push_message_info.Goals as goal

pub returns : goal.returns
unfolding message_info
returns c = rw (c.in_ok-push_end_tag.ensures, c.in_ok-push_optional_element.ensures, c.in_ok-push_text_element-2.ensures, c.in_ok-push_text_element.ensures, c.in_ok-push_tag_end.ensures, c.in_ok-push_tag_start.ensures, c.id_bytes.ensures, c.bytes-2.ensures.value, c.bytes.ensures.value) (simp append_assoc)
