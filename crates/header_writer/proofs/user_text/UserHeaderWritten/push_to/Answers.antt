use Rattle.std.proofs.Common.{append_assoc}
use Rattle.message_model.specs.UnitText.{user_message}
use Rattle.header_writer.proofs.user_text.UserHeaderWritten.push_to.Goals as goal

pub returns : goal.returns
unfolding user_message
returns c = rw (c.in_ok-push_end_tag.ensures, c.in_ok-push_listed-2.ensures, c.in_ok-push_listed.ensures, c.in_ok-push_collaboration_info.ensures, c.in_ok-push_party_info.ensures, c.in_ok-push_message_info.ensures, c.in_ok-push_tag_end.ensures, c.in_ok-push_optional_attribute.ensures, c.in_ok-push_tag_start.ensures, c.items-2.ensures, c.items.ensures, c.text_bytes.ensures) (simp append_assoc)
