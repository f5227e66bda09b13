-- The identifiers that a handler gives its own messages (RFC 2822, section 3.6.4).
use Rattle.std.specs.Prelude.{ℕ, List, ◌++◌, codes}
use Rattle.std.specs.Int.{w128, to_be_bytes}
use Rattle.std.specs.Fmt.{decimal}
use Rattle.uuid.specs.Text.{hyphenated_text, lower}

-- the lower-case text of a UUID with these 128 bits (RFC 9562, section 4)
unfoldable pub uuid_text : ℕ → List ℕ
uuid_text nonce = hyphenated_text lower (to_be_bytes w128 nonce)

-- the identifier of a signal message
abbrev pub signal_id : ℕ → List ℕ
signal_id nonce = codes "s." ++ uuid_text nonce ++ codes "@as4"

-- the identifier of the user message of a submission
abbrev pub submission_id : ℕ → ℕ → List ℕ
submission_id number nonce = decimal number ++ codes "." ++ uuid_text nonce ++ codes "@as4"
