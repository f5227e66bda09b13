-- How much room is reserved for the parts of a package.
use Rattle.std.specs.Prelude.{ℕ, ◌+◌, length}
use Rattle.as4_values.specs.declared.payload.Payload.{Payload}

-- an upper bound on the bytes of a payload's part
abbrev pub part_room : Payload → ℕ
part_room payload = length payload.cid + length payload.media + length payload.content + 256
