use Rattle.std.proofs.Common.{append_assoc}
use Rattle.message_model.specs.Package.{part_head}
use Rattle.package_writer.proofs.write.push_part_head.Goals as goal

pub returns : goal.returns
unfolding part_head
returns c = rw (c.in_ok-extend_from_slice-4.ensures.items, c.in_ok-push_media_field.ensures, c.in_ok-extend_from_slice-3.ensures.items, c.in_ok-extend_from_slice-2.ensures.items, c.in_ok-extend_from_slice.ensures.items) (simp append_assoc)
