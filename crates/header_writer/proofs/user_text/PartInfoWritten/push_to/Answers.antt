use Rattle.std.proofs.Common.{append_assoc}
use Rattle.message_model.specs.UnitText.{part_info}
use Rattle.header_writer.proofs.user_text.PartInfoWritten.push_to.Goals as goal

pub returns : goal.returns
unfolding part_info
returns c = rw (c.in_ok-push_end_tag.ensures, c.in_ok-push_listed.ensures, c.in_ok-push_tag_end.ensures, c.in_ok-push_optional_attribute.ensures, c.in_ok-push_tag_start.ensures, c.items.ensures, c.text_bytes.ensures) (simp append_assoc)
