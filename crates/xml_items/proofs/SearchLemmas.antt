-- Where the search for the end of a text or a value stops.
use Rattle.std.proofs.Common.{◌≡◌, ℕ, List, length, Option, refl}
use Rattle.std.specs.Prelude.{unwrap_or}
use Rattle.std.specs.List.{prefix_len}
use Rattle.memchr.specs.Find.{IsFirstByte, is_byte, is_byte2}
use Rattle.byte_forms.proofs.SearchLemmas.{found_len}
use Rattle.xml_items.specs.Classes.{is_value_byte, is_text_byte}

pub end_of_text : (bytes : List ℕ) (place : Option ℕ) → IsFirstByte (is_byte 60) bytes place → unwrap_or place (length bytes) ≡ prefix_len is_text_byte bytes
end_of_text bytes place first = found_len (is_byte 60) is_text_byte bytes place (λ b. refl) first

pub end_of_value : (quote : ℕ) (bytes : List ℕ) (place : Option ℕ) → IsFirstByte (is_byte2 quote 60) bytes place → unwrap_or place (length bytes) ≡ prefix_len (is_value_byte quote) bytes
end_of_value quote bytes place first = found_len (is_byte2 quote 60) (is_value_byte quote) bytes place (λ b. refl) first
