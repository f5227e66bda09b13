-- Delimiters, as written and as found.
use Rattle.std.proofs.Common.{◌≡◌, ℕ, Bool, true, false, List, [], ◌∷◌, ◌++◌, ◌⊎◌, ◌==◌, Some, None, nat_eq, length, drop, refl, sym, ap, ◌∙◌, arith, append_assoc, inl, inr}
use Rattle.std.specs.List.{list_all, starts_with, take_while}
use Rattle.std.proofs.lemmas.Bool.{and_parts, true≢false, false≢true, cases_Bool, or_cases, or_right, eqb-true}
use Rattle.std.proofs.lemmas.Bool.Decides.{Decides-eqb}
use Rattle.std.proofs.lemmas.List.{append_cancel_left}
use Rattle.std.proofs.lemmas.Slice.Eq.{starts_is}
use Rattle.byte_forms.specs.Classes.{is_space}
use Rattle.byte_forms.specs.Cuts.{◌>>=◌, strip_prefix, skip}
use Rattle.byte_forms.proofs.OnceLemmas.{first_byte, apart}
use Rattle.mime_fields.specs.Fields.{crlf}
use Rattle.mime_package.specs.Reading.{last, next, is_boundary, is_boundary_byte, line_end, delimiter_at, is_line_end, is_last_at, ending_at}
use Rattle.mime_package.specs.Pieces.{IsDelimiter, IsLastDelimiter, GoesOn}
use Rattle.byte_forms.proofs.CutLemmas.{Stops, cases_option, bind_some, run_whole, run_passes, skip_again, strip_prefix_takes, strip_prefix_again}
use Rattle.mime_package.proofs.DelimiterLemmas.{hyphens}
use Rattle.mime_package.proofs.StartLemmas.{start_of}

-- ---- bytes without a CR

-- none of the bytes is a CR
abbrev pub NoCr : List ℕ → Type 0
NoCr [] = Unit {0}
NoCr (b ∷ bytes) = (b ≡ 13 → ⊥) × NoCr bytes

-- a class without CR contains none
no_cr_class : (class : ℕ → Bool) → class 13 ≡ false → (bytes : List ℕ) → list_all class bytes ≡ true → NoCr bytes
no_cr_class class none [] all = tt
no_cr_class class none (b ∷ bytes) all =
    let parts = and_parts (class b) (list_all class bytes) all in
    (λ is. true≢false (sym parts.0 ∙ ap class is ∙ none), no_cr_class class none bytes parts.1)

-- two such runs, one after the other
no_cr_both : (a b : List ℕ) → NoCr a → NoCr b → NoCr (a ++ b)
no_cr_both [] b none also = also
no_cr_both (x ∷ a) b none also = (none.0, no_cr_both a b none.1 also)

-- a boundary contains no CR
pub no_cr_boundary : (boundary : List ℕ) → is_boundary boundary ≡ true → NoCr boundary
unfolding is_boundary
no_cr_boundary boundary is =
    let some = and_parts _ _ is in
    let few = and_parts _ _ some.1 in
    no_cr_class is_boundary_byte refl boundary (and_parts _ _ few.1).0

-- the bytes after the CRLF of a line contain no CR
pub record IsLine (line : List ℕ) : Type 0 where
  pub tail : List ℕ
  pub is : line ≡ crlf ++ tail
  pub no_cr : NoCr tail

-- a delimiter is a line
pub delimiter_line : (boundary line : List ℕ) → NoCr boundary → IsDelimiter boundary line → IsLine line
delimiter_line boundary line none is = record {
  tail = hyphens ++ (boundary ++ is.blanks);
  is = is.is;
  no_cr = no_cr_both hyphens (boundary ++ is.blanks) (λ e. apart e refl, (λ e. apart e refl, tt)) (no_cr_both boundary is.blanks none (no_cr_class is_space refl is.blanks is.blank));
}

-- the last delimiter is a line
pub last_line : (boundary line : List ℕ) → NoCr boundary → IsLastDelimiter boundary line → IsLine line
last_line boundary line none is = delimiter_line (boundary ++ hyphens) line (no_cr_both boundary hyphens none (λ e. apart e refl, (λ e. apart e refl, tt))) is

-- ---- blanks

-- the end of a line
abbrev pub LineEnds : List ℕ → Type 0
LineEnds rest = (rest ≡ []) ⊎ GoesOn rest

-- no blank is at the end of a line
line_stops : (rest : List ℕ) → LineEnds rest → Stops is_space rest
line_stops rest (inl none) = rw none tt
line_stops rest (inr goes) = rw goes.1 refl

-- ---- delimiters

-- the bytes after the blanks of a line
line_end_taken : (bytes rest : List ℕ) → line_end bytes ≡ Some rest → (skip is_space bytes ≡ rest) × GoesOn rest
unfolding line_end
line_end_taken bytes rest e = elim (cases_option (strip_prefix crlf (skip is_space bytes))) [
  | inl none ↦ let no : line_end bytes ≡ None = rw none refl in absurd cc
  | inr some ↦
      let found : line_end bytes ≡ Some (skip is_space bytes) = rw some.1 refl in
      let same : skip is_space bytes ≡ rest = cc in
      (same, (some.0, sym same ∙ strip_prefix_takes crlf (skip is_space bytes) some.0 some.1))
]

-- the end of a line is found after its blanks
line_end_again : (blanks rest : List ℕ) → list_all is_space blanks ≡ true → GoesOn rest → line_end (blanks ++ rest) ≡ Some rest
unfolding line_end
line_end_again blanks rest all goes =
    let begins : strip_prefix crlf rest ≡ Some goes.0 = ap (strip_prefix crlf) goes.1 ∙ strip_prefix_again crlf goes.0 in
    rw (skip_again is_space blanks rest all (line_stops rest (inr goes)), begins) refl

-- the boundary, followed by the blanks of its line
regroup : (boundary blanks rest : List ℕ) → (crlf ++ (hyphens ++ (boundary ++ blanks))) ++ rest ≡ start_of boundary ++ (blanks ++ rest)
regroup boundary blanks rest = ap (λ (l : List ℕ). crlf ++ (hyphens ++ l)) (append_assoc boundary blanks rest)

-- a delimiter, from its start and its blanks
written : (boundary line rest : List ℕ) (is : IsDelimiter boundary line) → line ++ rest ≡ start_of boundary ++ (is.blanks ++ rest)
written boundary line rest is = ap (λ (l : List ℕ). l ++ rest) is.is ∙ regroup boundary is.blanks rest

-- a start followed by blanks is a delimiter
line_taken : (boundary bytes back : List ℕ) → bytes ≡ start_of boundary ++ back → (line : List ℕ) × IsDelimiter boundary line × (bytes ≡ line ++ skip is_space back)
line_taken boundary bytes back is =
    let blanks = take_while is_space back in
    let line = crlf ++ (hyphens ++ (boundary ++ blanks)) in (
      line,
      record { blanks = blanks; blank = run_passes is_space back; is = refl },
      is ∙ ap (λ (l : List ℕ). start_of boundary ++ l) (run_whole is_space back) ∙ sym (regroup boundary blanks (skip is_space back)),
    )

-- what is found is a delimiter
pub delimiter_taken : (boundary bytes rest : List ℕ) → delimiter_at boundary bytes ≡ Some rest → (line : List ℕ) × IsDelimiter boundary line × GoesOn rest × (bytes ≡ line ++ rest)
unfolding delimiter_at
delimiter_taken boundary bytes rest e =
    bind_some (strip_prefix (start_of boundary) bytes) line_end rest e λ back cut ends.
    let end = line_end_taken back rest ends in
    let taken = line_taken boundary bytes back (strip_prefix_takes (start_of boundary) bytes back cut) in
    (taken.0, taken.1, end.1, taken.2 ∙ ap (λ (l : List ℕ). taken.0 ++ l) end.0)

-- a delimiter is found
pub delimiter_again : (boundary line rest : List ℕ) → IsDelimiter boundary line → GoesOn rest → delimiter_at boundary (line ++ rest) ≡ Some rest
unfolding delimiter_at
delimiter_again boundary line rest is goes =
    let begins : strip_prefix (start_of boundary) (line ++ rest) ≡ Some (is.blanks ++ rest) = ap (strip_prefix (start_of boundary)) (written boundary line rest is) ∙ strip_prefix_again (start_of boundary) (is.blanks ++ rest) in
    ap (λ o. o >>= line_end) begins ∙ line_end_again is.blanks rest is.blank goes

-- ---- the last delimiter

-- a line end, from the test
line_end_is : (bytes : List ℕ) → is_line_end bytes ≡ true → LineEnds bytes
line_end_is [] is = inl refl
line_end_is (b ∷ bytes) is = elim (or_cases (length (b ∷ bytes) == 0) (starts_with nat_eq (b ∷ bytes) crlf) is) [
  | inl none ↦ let zero : length (b ∷ bytes) ≡ 0 = eqb-true (length (b ∷ bytes)) 0 none in absurd (omega arith)
  | inr begins ↦ inr (drop 2 (b ∷ bytes), (starts_is Decides-eqb (b ∷ bytes) crlf (starts_with nat_eq (b ∷ bytes) crlf) refl).0 begins)
]

-- the test passes at a line end
is_line_end_again : (bytes : List ℕ) → LineEnds bytes → is_line_end bytes ≡ true
is_line_end_again bytes (inl none) = rw none refl
is_line_end_again bytes (inr goes) = or_right (length bytes == 0) _ ((starts_is Decides-eqb bytes crlf (starts_with nat_eq bytes crlf) refl).1 goes.0 goes.1)

-- what is found is the last delimiter
pub last_taken : (boundary bytes : List ℕ) → is_last_at boundary bytes ≡ true → (line : List ℕ) × (rest : List ℕ) × IsLastDelimiter boundary line × LineEnds rest × (bytes ≡ line ++ rest)
unfolding is_last_at
last_taken boundary bytes is = elim (cases_option (strip_prefix (start_of (boundary ++ hyphens)) bytes)) [
  | inl none ↦ let no : is_last_at boundary bytes ≡ false = rw (none, is_last_at) refl in absurd (false≢true (sym no ∙ is))
  | inr some ↦
      let found : is_last_at boundary bytes ≡ is_line_end (skip is_space some.0) = rw (some.1, is_last_at) refl in
      let taken = line_taken (boundary ++ hyphens) bytes some.0 (strip_prefix_takes (start_of (boundary ++ hyphens)) bytes some.0 some.1) in
      (taken.0, skip is_space some.0, taken.1, line_end_is (skip is_space some.0) (sym found ∙ is), taken.2)
]

-- the last delimiter is found
pub last_again : (boundary line rest : List ℕ) → IsLastDelimiter boundary line → LineEnds rest → is_last_at boundary (line ++ rest) ≡ true
unfolding is_last_at
last_again boundary line rest is ends =
    let start = start_of (boundary ++ hyphens) in
    let begins : strip_prefix start (line ++ rest) ≡ Some (is.blanks ++ rest) = ap (strip_prefix start) (written (boundary ++ hyphens) line rest is) ∙ strip_prefix_again start (is.blanks ++ rest) in
    rw (begins, is_last_at, skip_again is_space is.blanks rest is.blank (line_stops rest ends)) (is_line_end_again rest ends)

-- a delimiter isn't the last delimiter
no_hyphen : (blanks rest back : List ℕ) → list_all is_space blanks ≡ true → GoesOn rest → blanks ++ rest ≡ hyphens ++ back → ⊥
no_hyphen [] rest back all goes e = apart (first_byte (sym goes.1 ∙ e)) refl
no_hyphen (b ∷ blanks) rest back all goes e = true≢false (sym (and_parts (is_space b) _ all).0 ∙ ap is_space (first_byte e))

-- so the test for the last delimiter fails
pub delimiter_not_last : (boundary line rest : List ℕ) → IsDelimiter boundary line → GoesOn rest → is_last_at boundary (line ++ rest) ≡ false
unfolding is_last_at
delimiter_not_last boundary line rest is goes = elim (cases_option (strip_prefix (start_of (boundary ++ hyphens)) (line ++ rest))) [
  | inl none ↦ rw (none, is_last_at) refl
  | inr some ↦
      let whole : start_of boundary ++ (is.blanks ++ rest) ≡ start_of boundary ++ (hyphens ++ some.0) =
      sym (written boundary line rest is) ∙ strip_prefix_takes (start_of (boundary ++ hyphens)) (line ++ rest) some.0 some.1 ∙ regroup boundary hyphens some.0 in
      absurd (no_hyphen is.blanks rest some.0 is.blank goes (append_cancel_left (start_of boundary) (is.blanks ++ rest) (hyphens ++ some.0) whole))
]

-- ---- the end of a part

-- the last delimiter ends a part
pub ending_last : (boundary bytes : List ℕ) → is_last_at boundary bytes ≡ true → ending_at boundary bytes ≡ Some last
unfolding ending_at
ending_last boundary bytes is = rw is refl

-- so does another delimiter
pub ending_next : (boundary bytes rest : List ℕ) → is_last_at boundary bytes ≡ false → delimiter_at boundary bytes ≡ Some rest → ending_at boundary bytes ≡ Some (next rest)
unfolding ending_at
ending_next boundary bytes rest not_last is = rw (not_last, is) refl

-- nothing else does
ending_none : (boundary bytes : List ℕ) → is_last_at boundary bytes ≡ false → delimiter_at boundary bytes ≡ None → ending_at boundary bytes ≡ None
unfolding ending_at
ending_none boundary bytes not_last none = rw (not_last, none) refl

-- if the last delimiter ends a part, it is found there
pub is_last : (boundary bytes : List ℕ) → ending_at boundary bytes ≡ Some last → is_last_at boundary bytes ≡ true
is_last boundary bytes is = elim (cases_Bool (is_last_at boundary bytes)) [
  | inl held ↦ held
  | inr not_last ↦ elim (cases_option (delimiter_at boundary bytes)) [
    | inl none ↦ let no = ending_none boundary bytes not_last none in absurd cc
    | inr some ↦ let other = ending_next boundary bytes some.0 not_last some.1 in absurd cc
  ]
]

-- so is another delimiter
pub is_next : (boundary bytes rest : List ℕ) → ending_at boundary bytes ≡ Some (next rest) → delimiter_at boundary bytes ≡ Some rest
is_next boundary bytes rest is = elim (cases_Bool (is_last_at boundary bytes)) [
  | inl held ↦ let other = ending_last boundary bytes held in absurd cc
  | inr not_last ↦ elim (cases_option (delimiter_at boundary bytes)) [
    | inl none ↦ let no = ending_none boundary bytes not_last none in absurd cc
    | inr some ↦ let other = ending_next boundary bytes some.0 not_last some.1 in cc
  ]
]
