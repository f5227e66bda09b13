use Rattle.std.proofs.Common.{◌≡◌, false, length, nat_eq, append_assoc}
use Rattle.message_model.specs.Package.{media_field}
use Rattle.package_writer.proofs.write.push_media_field.Goals as goal

pub returns : goal.returns
unfolding media_field
returns c =
    let some : nat_eq (length c.args.media.now) 0 ≡ false = cc in
    rw (c.in_ok-extend_from_slice-3.ensures.items, c.in_ok-extend_from_slice-2.ensures.items, c.in_ok-extend_from_slice.ensures.items, some) (simp append_assoc)
