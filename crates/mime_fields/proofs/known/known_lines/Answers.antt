use Rattle.std.proofs.Common.{refl, sym}
use Rattle.mime_fields.specs.Known.{known_of}
use Rattle.mime_fields.proofs.known.known_lines.Goals as goal

pub returns : goal.returns
unfolding known_of
returns c = rw (sym c.in_ok-id.ensures, sym c.in_ok-media.ensures, sym c.in_ok-encoding.ensures) refl
