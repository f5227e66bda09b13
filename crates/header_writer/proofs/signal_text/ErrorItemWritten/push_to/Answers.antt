use Rattle.std.proofs.Common.{append_assoc}
use Rattle.message_model.specs.UnitText.{error_text}
use Rattle.header_writer.proofs.signal_text.ErrorItemWritten.push_to.Goals as goal

pub returns : goal.returns
unfolding error_text
returns c = rw (c.in_ok-push_end_tag.ensures, c.in_ok-push_optional_element-2.ensures, c.in_ok-push_optional_element.ensures, c.in_ok-push_tag_end.ensures, c.in_ok-push_error_start.ensures, c.in_ok-push_tag_start.ensures, c.text_bytes-2.ensures, c.text_bytes.ensures) (simp append_assoc)
