-- A written part contains no delimiter if its content doesn't contain the boundary.
use Rattle.std.proofs.Common.{◌≡◌, ℕ, ◌==◌, List, [], ◌∷◌, ◌++◌, refl, sym, ap, subst, ◌∙◌, arith, inr, append_assoc}
use Rattle.std.specs.Prelude.{codes}
use Rattle.std.specs.List.{AllByRecursion}
use Rattle.std.proofs.lemmas.Bool.{eqb-false}
use Rattle.as4_values.specs.declared.payload.Payload.{Payload}
use Rattle.byte_forms.proofs.CutLemmas.{Stops}
use Rattle.message_model.specs.Package.{hex_digits, dash_boundary, part_head, Occurs}
use Rattle.mime_fields.specs.Fields.{crlf, is_line_byte}
use Rattle.mime_package.specs.Pieces.{IsPiece}
use Rattle.package_laws.proofs.DigitLemmas.{digits_pass}
use Rattle.package_laws.proofs.LineLemmas.{InLine, HasLine, delimiter_line, last_line, past_line, in_text}
use Rattle.package_laws.proofs.PartLemmas.{lines_text, media_lines, last_lines, head_lines, head_is, bracketed_in_line}
use Rattle.package_laws.proofs.ValueLemmas.{bracketed, id_in_line, media_facts}

-- the boundary of number n, without the hyphens before it
abbrev pub boundary : ℕ → List ℕ
boundary n = codes "as4-" ++ hex_digits 16 n

pub dash_is : (n : ℕ) → dash_boundary n ≡ codes "--" ++ boundary n
unfolding dash_boundary
dash_is n = refl

boundary_in_line : (n : ℕ) → InLine (codes "--" ++ boundary n)
boundary_in_line n = digits_pass is_line_byte refl 16 n

-- a line that doesn't begin with a hyphen
abbrev IsHeadLine : List ℕ → Type 0
IsHeadLine line = InLine line × Stops (λ b. b == 45) line

no_hyphen : (word line rest back : List ℕ) → Stops (λ b. b == 45) line → line ++ (crlf ++ rest) ≡ (45 ∷ word) ++ back → ⊥
no_hyphen word [] rest back other e = absurd cc
no_hyphen word (b ∷ line) rest back other e = eqb-false b 45 other (cc)

past_lines : (word : List ℕ) (lines : List (List ℕ)) (rest : List ℕ) → AllByRecursion IsHeadLine lines → HasLine (45 ∷ word) (crlf ++ lines_text lines rest) → HasLine (45 ∷ word) (crlf ++ rest)
past_lines word [] rest are has = has
past_lines word (line ∷ lines) rest are has =
    past_lines word lines rest are.1
    (past_line (45 ∷ word) line (lines_text lines rest) are.0.0 (λ back e. no_hyphen word line (lines_text lines rest) back are.0.1 e) has)

-- the lines of a head don't
last_begin : AllByRecursion IsHeadLine last_lines
last_begin = ((refl, refl), ((refl, tt), tt))

lines_begin : (media : List ℕ) → InLine media → AllByRecursion IsHeadLine (media_lines media ++ last_lines)
lines_begin [] is = last_begin
lines_begin (b ∷ media) is = ((is, refl), last_begin)

-- the part of a payload after a delimiter, up to the next one's CRLF
abbrev pub piece : Payload → List ℕ
piece p = crlf ++ (part_head p.cid p.media ++ p.content)

no_line : (n : ℕ) (p : Payload) → (Occurs (dash_boundary n) p.content → ⊥) → HasLine (codes "--" ++ boundary n) (piece p ++ crlf) → ⊥
no_line n p free has =
    let whole : piece p ++ crlf ≡ crlf ++ lines_text (head_lines p.cid p.media) (p.content ++ crlf) =
    ap (λ (r : List ℕ). crlf ++ r) (append_assoc (part_head p.cid p.media) p.content crlf ∙ head_is p.cid p.media (p.content ++ crlf)) in
    let first : IsHeadLine (codes "Content-ID: " ++ bracketed p.cid) = (bracketed_in_line p.cid (id_in_line p.cid p.named), refl) in
    let behind = lines_begin p.media (media_facts p.media p.typed).one_line in
    let last = past_lines (codes "-" ++ boundary n) (head_lines p.cid p.media) (p.content ++ crlf) (first, behind) (subst (HasLine (codes "--" ++ boundary n)) whole has) in
    free (subst (λ (word : List ℕ). Occurs word p.content) (sym (dash_is n)) (in_text (codes "--" ++ boundary n) p.content (omega arith) (boundary_in_line n) last))

pub is_piece : (n : ℕ) (p : Payload) → (Occurs (dash_boundary n) p.content → ⊥) → IsPiece (boundary n) (piece p)
is_piece n p free = record {
  begins = inr (part_head p.cid p.media ++ p.content, refl);
  whole = λ holds. no_line n p free (delimiter_line (boundary n) (piece p ++ crlf) holds);
  not_last = λ holds. no_line n p free (last_line (boundary n) (piece p ++ crlf) holds);
}
