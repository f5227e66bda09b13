use Rattle.std.proofs.Common.{append_assoc}
use Rattle.message_model.specs.UnitText.{party_info}
use Rattle.header_writer.proofs.user_text.push_party_info.Goals as goal

pub returns : goal.returns
unfolding party_info
returns c = rw (c.in_ok-push_end_tag.ensures, c.in_ok-push_side-2.ensures, c.in_ok-push_side.ensures, c.in_ok-push_tag_end.ensures, c.in_ok-push_tag_start.ensures) (simp append_assoc)
