-- A file is a document or not.
use Rattle.std.proofs.Common.{◌≡◌, ℕ, List, Bool, true, false, Some, None, Err, refl}
use Rattle.std.specs.Prelude.{IsUtf8, if◌then◌else◌}
use Rattle.std.specs.Str.{is_utf8}
use Rattle.std.proofs.lemmas.Str.{IsUtf8-from_is_utf8, is_utf8-from_IsUtf8}
use Rattle.toml.specs.Data.{Members}
use Rattle.toml.specs.Parse.{parse_document}
use Rattle.pmodes.specs.ModeFile.{modes_of_table, modes_of_document, modes_of_file}
use Rattle.pmodes.specs.declared.refusal.ModeRefusal.TheVariants.{Toml}

pub of_document : (bytes : List ℕ) (t : Members) → IsUtf8 bytes → parse_document bytes ≡ Some t → modes_of_file bytes ≡ modes_of_table t
unfolding modes_of_file
of_document bytes t text read = rw (is_utf8-from_IsUtf8 bytes text, read)

without : (bytes : List ℕ) (test : Bool) → (test ≡ true → parse_document bytes ≡ None) → modes_of_document (if test then parse_document bytes else None) ≡ Err Toml
without bytes true none = rw (none refl)
without bytes false none = refl

pub no_document : (bytes : List ℕ) → (IsUtf8 bytes → parse_document bytes ≡ None) → modes_of_file bytes ≡ Err Toml
unfolding modes_of_file
no_document bytes none = without bytes (is_utf8 bytes) (λ text. none (IsUtf8-from_is_utf8 bytes text))
