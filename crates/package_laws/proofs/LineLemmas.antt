-- Lines that begin with the bytes of a delimiter.
use Rattle.std.proofs.Common.{◌≡◌, ℕ, ◌<◌, false, List, [], ◌∷◌, ◌++◌, length, refl, sym, ap, ◌∙◌, arith, append_assoc, length-append}
use Rattle.std.specs.Prelude.{IsTrue, codes}
use Rattle.std.specs.List.{list_all}
use Rattle.std.proofs.lemmas.Bool.{and_parts, false≢true}
use Rattle.message_model.specs.Package.{Occurs}
use Rattle.mime_fields.specs.Fields.{crlf, is_line_byte}
use Rattle.mime_package.specs.Pieces.{IsDelimiter, IsLastDelimiter, Holds}

-- bytes of one line
abbrev pub InLine : List ℕ → Type 0
InLine bytes = IsTrue (list_all is_line_byte bytes)

-- a line, after its CRLF, begins with this word
pub record HasLine (word bytes : List ℕ) : Type 0 where
  pub front : List ℕ
  pub back : List ℕ
  pub bytes_are : bytes ≡ front ++ (crlf ++ (word ++ back))

-- a delimiter is such a line
pub delimiter_line : (boundary bytes : List ℕ) → Holds (IsDelimiter boundary) bytes → HasLine (codes "--" ++ boundary) bytes
delimiter_line boundary bytes holds = record {
  front = holds.front;
  back = holds.is_line.blanks ++ (crlf ++ holds.back);
  bytes_are =
      holds.bytes_are
      ∙ ap (λ (line : List ℕ). holds.front ++ (line ++ (crlf ++ holds.back))) holds.is_line.is
      ∙ regroup holds.front boundary holds.is_line.blanks (crlf ++ holds.back);
}
  where
    regroup : (front boundary blanks back : List ℕ) → front ++ ((crlf ++ (codes "--" ++ (boundary ++ blanks))) ++ back) ≡ front ++ (crlf ++ ((codes "--" ++ boundary) ++ (blanks ++ back)))
    regroup front boundary blanks back = simp append_assoc

pub last_line : (boundary bytes : List ℕ) → Holds (IsLastDelimiter boundary) bytes → HasLine (codes "--" ++ boundary) bytes
last_line boundary bytes holds =
    let line = delimiter_line (boundary ++ codes "--") bytes holds in
    record { front = line.front; back = codes "--" ++ line.back; bytes_are = line.bytes_are ∙ regroup line.front boundary line.back }
  where
    regroup : (front boundary back : List ℕ) → front ++ (crlf ++ ((codes "--" ++ (boundary ++ codes "--")) ++ back)) ≡ front ++ (crlf ++ ((codes "--" ++ boundary) ++ (codes "--" ++ back)))
    regroup front boundary back = simp append_assoc

-- a line contains no CR or LF
no_line_byte : (b : ℕ) (bytes : List ℕ) (c : ℕ) → is_line_byte c ≡ false → b ≡ c → InLine (b ∷ bytes) → ⊥
no_line_byte b bytes c other same is =
    false≢true (sym other ∙ ap is_line_byte (sym same) ∙ (and_parts (is_line_byte b) (list_all is_line_byte bytes) is).0)

rest_in_line : (b : ℕ) (bytes : List ℕ) → InLine (b ∷ bytes) → InLine bytes
rest_in_line b bytes is = (and_parts (is_line_byte b) (list_all is_line_byte bytes) is).1

-- a word that begins after a line begins after its line end
behind_line : (word line rest front back : List ℕ) → InLine line → line ++ (crlf ++ rest) ≡ front ++ (crlf ++ (word ++ back)) → HasLine word (crlf ++ rest)
behind_line word [] rest front back is e = record { front = front; back = back; bytes_are = e }
behind_line word (b ∷ line) rest [] back is e = absurd (no_line_byte b line 13 refl (cc) is)
behind_line word (b ∷ line) rest (c ∷ front) back is e = behind_line word line rest front back (rest_in_line b line is) (cc)

pub past_line : (word line rest : List ℕ) → InLine line → ((back : List ℕ) → line ++ (crlf ++ rest) ≡ word ++ back → ⊥)
    → HasLine word (crlf ++ (line ++ (crlf ++ rest))) → HasLine word (crlf ++ rest)
past_line word line rest is other has = by_front has.front has.back has.bytes_are
  where
    by_front : (front back : List ℕ) → crlf ++ (line ++ (crlf ++ rest)) ≡ front ++ (crlf ++ (word ++ back)) → HasLine word (crlf ++ rest)
    by_front [] back e = absurd (other back (cc))
    by_front (c ∷ []) back e = absurd cc
    by_front (c ∷ d ∷ front) back e = behind_line word line rest front back is (cc)

-- a one-line word with which a text and its CRLF begin is a prefix of the text
in_front : (word text back : List ℕ) → InLine word → text ++ crlf ≡ word ++ back → (more : List ℕ) × (text ≡ word ++ more)
in_front [] text back is e = (text, refl)
in_front (b ∷ word) [] back is e = absurd (no_line_byte b word 13 refl (cc) is)
in_front (b ∷ word) (c ∷ text) back is e =
    let more = in_front word text back (rest_in_line b word is) (cc) in
    (more.0, cc (more.1))

within : (word text front back : List ℕ) → 0 < length word → InLine word → text ++ crlf ≡ front ++ (word ++ back) → Occurs word text
within word text [] back some is e = let more = in_front word text back is e in ([], more.0, more.1)
within [] [] (c ∷ front) back some is e = absurd (omega arith)
within (b ∷ word) [] (c ∷ []) back some is e = absurd (no_line_byte b word 10 refl (cc) is)
within (b ∷ word) [] (c ∷ d ∷ front) back some is e = absurd (omega (arith, ap length e, length-append front ((b ∷ word) ++ back)))
within word (c ∷ text) (d ∷ front) back some is e =
    let found = within word text front back some is (cc) in
    (c ∷ found.0, found.1, ap (λ (t : List ℕ). c ∷ t) found.2)

-- a word that begins a line of the last text occurs in that text
pub in_text : (word text : List ℕ) → 0 < length word → InLine word → HasLine word (crlf ++ (text ++ crlf)) → Occurs word text
in_text word text some is has = by_front has.front has.back has.bytes_are
  where
    by_front : (front back : List ℕ) → crlf ++ (text ++ crlf) ≡ front ++ (crlf ++ (word ++ back)) → Occurs word text
    by_front [] back e = within word text [] back some is (cc)
    by_front (c ∷ []) back e = absurd cc
    by_front (c ∷ d ∷ front) back e = within word text (front ++ crlf) back some is (◌∙◌ {A = List ℕ} (cc) (sym (append_assoc front crlf (word ++ back))))
