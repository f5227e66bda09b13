-- The bytes in any of their three representations.
use Rattle.std.specs.Prelude.{ℕ, List}
use Rattle.as4_envelope.specs.declared.bytes.Kept.{Kept}
use Rattle.as4_envelope.specs.declared.bytes.Kept.TheVariants.{Fixed, Short, Long}

abbrev pub kept_bytes : Kept → List ℕ
kept_bytes (Fixed bytes) = bytes.now
kept_bytes (Short bytes) = bytes
kept_bytes (Long bytes) = bytes.value.items
