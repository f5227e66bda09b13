use Rattle.std.proofs.Common.{append_assoc}
use Rattle.message_model.specs.UnitText.{property_text}
use Rattle.header_writer.proofs.user_text.PropertyWritten.push_to.Goals as goal

pub returns : goal.returns
unfolding property_text
returns c = rw (c.in_ok-push_end_tag.ensures, c.in_ok-push_escaped.ensures, c.in_ok-push_tag_end.ensures, c.in_ok-push_optional_attribute.ensures, c.in_ok-push_attribute.ensures, c.in_ok-push_tag_start.ensures, c.text_bytes.ensures, c.bytes_or_none.ensures, c.bytes.ensures.value) (simp append_assoc)
