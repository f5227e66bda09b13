-- The errors that a handler reports to its partner (ebMS 3.0 Core, section 6.7.1; AS4 Profile, section 3.6).
use Rattle.std.specs.Prelude.{ℕ, ◌==◌, List, [], ◌∷◌, ◌++◌, Option, Some, None, find, codes}
use Rattle.as4_values.specs.Moment.{digits}
use Rattle.as4_values.specs.declared.signal_body.Severity.{Severity}
use Rattle.as4_values.specs.declared.signal_body.Severity.TheVariants.{Failure, Warning}
use Rattle.as4_values.specs.declared.signal_body.ErrorItem.{ErrorItem}

-- an error: its number, its short description, its severity, and its category
pub record ErrorRow : Type 0 where
  pub code : ℕ
  pub short : List ℕ
  pub severity : Severity
  pub category : List ℕ

abbrev pub row : ℕ → List ℕ → Severity → List ℕ → ErrorRow
row code short severity category = record { code = code; short = short; severity = severity; category = category }

unfoldable pub error_table : List ErrorRow
error_table =
    row 1 (codes "ValueNotRecognized") Failure (codes "Content")
    ∷ row 3 (codes "ValueInconsistent") Failure (codes "Content")
    ∷ row 6 (codes "EmptyMessagePartitionChannel") Warning (codes "Communication")
    ∷ row 7 (codes "MimeInconsistency") Failure (codes "Unpackaging")
    ∷ row 8 (codes "FeatureNotSupported") Failure (codes "Unpackaging")
    ∷ row 9 (codes "InvalidHeader") Failure (codes "Unpackaging")
    ∷ row 10 (codes "ProcessingModeMismatch") Failure (codes "Processing")
    ∷ row 11 (codes "ExternalPayloadError") Failure (codes "Content")
    ∷ row 301 (codes "MissingReceipt") Failure (codes "Communication")
    ∷ row 302 (codes "InvalidReceipt") Failure (codes "Communication")
    ∷ []

-- the row of a code
unfoldable pub error_row : ℕ → Option ErrorRow
error_row code = find (λ row. row.code == code) error_table

-- a code as it is sent: `EBMS:` and four decimal digits
unfoldable pub code_text : ℕ → List ℕ
code_text code = codes "EBMS:" ++ digits 4 code

-- an error in a signal: its row, and the message that it is about
abbrev pub error_item : ErrorRow → Option (List ℕ) → ErrorItem
error_item row about = record {
  code = code_text row.code;
  severity = row.severity;
  origin = None;
  category = Some row.category;
  about = about;
  short = Some row.short;
  description = None;
  detail = None;
}
