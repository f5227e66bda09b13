use Rattle.std.proofs.Common.{append_assoc}
use Rattle.message_model.specs.UnitText.{error_start}
use Rattle.header_writer.proofs.signal_text.push_error_start.Goals as goal

pub returns : goal.returns
unfolding error_start
returns c = rw (c.in_ok-push_optional_attribute-4.ensures, c.in_ok-push_optional_attribute-3.ensures, c.in_ok-push_optional_attribute-2.ensures, c.in_ok-push_optional_attribute.ensures, c.in_ok-push_attribute-2.ensures, c.in_ok-push_attribute.ensures, c.text_bytes-3.ensures, c.id_bytes.ensures, c.text_bytes-2.ensures, c.text_bytes.ensures, c.severity_text.ensures, c.bytes.ensures.value) (simp append_assoc)
