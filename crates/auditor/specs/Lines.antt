-- The lines of an audit, in this program's own format: one for each change after the start of the leaf, and the answer.
use Rattle.std.specs.Prelude.{◌≡◌, ℕ, suc, List, [], ◌∷◌, ◌++◌, Option, Some, None, codes, drop, length, take}
use Rattle.std.specs.Fmt.{decimal}
use Rattle.as4_audit.specs.Audit.{AllRead}
use Rattle.as4_audit.specs.Start.{start_of}
use Rattle.as4_audit.specs.declared.finding.Finding.{Finding}
use Rattle.as4_audit.specs.declared.finding.Finding.TheVariants.{Yes, No}
use Rattle.as4_effects.specs.declared.effect.Effect.{Effect}
use Rattle.as4_effects.specs.declared.effect.Effect.TheVariants as effect

-- the line of a change, after this number of received messages; a compaction's changes have none
unfoldable pub line_of : ℕ → Effect → List ℕ
line_of received (effect.Submitted s) = codes "submitted " ++ decimal s.number ++ codes " " ++ s.header.id ++ codes "\n"
line_of received (effect.Ticked tick) = codes "ticked " ++ decimal tick.moment ++ codes "\n"
line_of received (effect.Tried number) = codes "tried " ++ decimal number ++ codes "\n"
line_of received (effect.Delivered d) = codes "delivered " ++ decimal received ++ codes " " ++ d.header.id ++ codes "\n"
line_of received (effect.Receipted number) = codes "receipted " ++ decimal number ++ codes "\n"
line_of received (effect.Refused number code) = codes "refused " ++ decimal number ++ codes " " ++ code ++ codes "\n"
line_of received (effect.Confirmed upto) = codes "confirmed " ++ decimal upto ++ codes "\n"
line_of received (effect.Carried carried) = []
line_of received (effect.Kept kept) = []

-- the number of received messages after a change
unfoldable pub received_after : ℕ → Effect → ℕ
received_after received (effect.Delivered d) = suc received
received_after received (effect.Kept kept) = suc received
received_after received other = received

abbrev pub lines_of : ℕ → List Effect → List ℕ
lines_of received [] = []
lines_of received (e ∷ effects) = line_of received e ++ lines_of (received_after received e) effects

abbrev pub received_in : ℕ → List Effect → ℕ
received_in received [] = received
received_in received (e ∷ effects) = received_in (received_after received e) effects

-- the changes of a record
abbrev pub changes_of : Option (List Effect) → List Effect
changes_of None = []
changes_of (Some effects) = effects

-- the lines of records, and the number of received messages after them
abbrev pub record_lines : ℕ → List (Option (List Effect)) → List ℕ
record_lines received [] = []
record_lines received (item ∷ records) =
    lines_of received (changes_of item) ++ record_lines (received_in received (changes_of item)) records

abbrev pub received_over : ℕ → List (Option (List Effect)) → ℕ
received_over received [] = received
received_over received (item ∷ records) = received_over (received_in received (changes_of item)) records

-- the number of records before which an audit found nothing wrong
abbrev pub right_records : List (Option (List Effect)) → Finding → ℕ
right_records records (Yes start events) = length records
right_records records (No index) = index

abbrev pub answer_line : Finding → List ℕ
answer_line (Yes start events) = codes "yes " ++ decimal events ++ codes "\n"
answer_line (No index) = codes "no " ++ decimal index ++ codes "\n"

-- the lines of the records before this place, after the start
abbrev pub lines_before : ℕ → List (Option (List Effect)) → List ℕ
lines_before place records =
    record_lines (received_over 0 (take (start_of records) records)) (drop (start_of records) (take place records))

-- the lines of the right records after the start, and the answer
abbrev pub text_of : List (Option (List Effect)) → Finding → List ℕ
text_of records finding = lines_before (right_records records finding) records ++ answer_line finding

-- the same of the records with these bodies
abbrev pub IsTextFor : List (List ℕ) → Finding → List ℕ → Type 0
IsTextFor bodies finding text = (records : List (Option (List Effect))) × AllRead bodies records × (text ≡ text_of records finding)
