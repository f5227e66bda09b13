use Rattle.std.proofs.Common.{sym}
use Rattle.mime_fields.specs.Known.{known_values}
use Rattle.mime_fields.specs.Lent.{head_of}
use Rattle.mime_fields.proofs.PartLemmas.{no_head, no_known, part_told}
use Rattle.mime_fields.proofs.part_reader.read_part.Goals as goal

pub returns-in_default : goal.returns-in_default
returns-in_default c = no_head c.args.bytes.now (sym (rw c.in_default.is at c.in_ok-head.ensures))

pub returns-in_default-known_lines : goal.returns-in_default-known_lines
returns-in_default-known_lines c =
    no_known c.args.bytes.now (head_of c.in-Some.head) (sym (rw c.in-Some.is at c.in_ok-head.ensures)) (sym (rw c.as_slice.ensures.value at c.in_default-known_lines.ensures))

pub returns : goal.returns
returns c =
    rw (
    part_told c.args.bytes.now (head_of c.in-Some.head) (known_values c.in-Some-known_lines.known)
    (sym (rw c.in-Some.is at c.in_ok-head.ensures)) (sym (rw c.as_slice.ensures.value at c.in-Some-known_lines.ensures))
    ) c.part_with.ensures
