use Rattle.std.proofs.Common.{◌≡◌, ◌≤◌, length, take}
use Rattle.std.specs.List.{filter}
use Rattle.mime_fields.specs.Fields.{is_line_byte}
use Rattle.mime_fields.proofs.unfolded.line_bytes.Given as goal

-- the bytes of lines so far
abbrev pub invariant-loop-byte : goal.invariant-loop-byte
invariant-loop-byte l = (length l.value.items ≤ 1024) × (l.value.items ≡ filter is_line_byte (take l.byte-index l.bytes))
