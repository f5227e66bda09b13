use Rattle.std.proofs.Common.{append_assoc}
use Rattle.message_model.specs.UnitText.{agreement_text}
use Rattle.header_writer.proofs.user_text.push_agreement.Goals as goal

pub returns : goal.returns
unfolding agreement_text
returns c = rw (c.in_ok-push_end_tag.ensures, c.in_ok-push_escaped.ensures, c.in_ok-push_tag_end.ensures, c.in_ok-push_optional_attribute-2.ensures, c.in_ok-push_optional_attribute.ensures, c.in_ok-push_tag_start.ensures, c.text_bytes-2.ensures, c.text_bytes.ensures, c.bytes.ensures.value, c.in-Some.is) (simp append_assoc)
