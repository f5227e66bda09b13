-- Lemmas on the shortest end of an unended chunk line.
use Rattle.std.proofs.Common.{◌≡◌, ◌≢◌, ◌⊎◌, ℕ, ◌+◌, ◌<◌, ◌≤◌, ◌==◌, Bool, if◌then◌else◌, IsTrue, List, [], ◌∷◌, ◌++◌, length, get_or, Option, None, Some, inl, inr, refl, sym, ◌∙◌, ap, subst, arith, append_assoc, append-nil, length-append}
use Rattle.std.specs.Prelude.{All}
use Rattle.std.specs.Char.{is_ascii_hexdigit}
use Rattle.std.proofs.Math.Seq.{get_or-append_seam}
use Rattle.std.proofs.lemmas.Bool.{ne_eqb}
use Rattle.std.proofs.lemmas.Bool.Decides.{nat_tests}
use Rattle.std.proofs.lemmas.List.Elements.{All-nil, All-cons, All-append, All-weaker}
use Rattle.httparse.specs.Grammar.{ChunkLine, IsChunkLine, IsExtension, print_chunk_line, print_extension, HasNoChunkLine, NeverHasChunkLine, MayBecomeChunkLine, chunk_size, AllPass, is_ows, is_extension_byte}
use Rattle.httparse.specs.Spans.{IsChunkLineAt}
use Rattle.httparse.proofs.ChunkLemmas.{chunk_line_unique}
use Rattle.as4_http.specs.ChunkLines.{IsWholeLine, shortest_end}
use Rattle.as4_http.specs.Refused.{MayBecome}
use Rattle.as4_http.specs.declared.limits.TheConstants.{MAX_CHUNK_LINE, MAX_BODY}
use Rattle.as4_http.proofs.ChunkLineLemmas.{text_of, print_is}
use Rattle.as4_http.proofs.SplitLemmas.{split, all_front}

abbrev made : List ℕ → List ℕ → Option (List ℕ) → ChunkLine
made digits pad extension = record { digits = digits; pad = pad; extension = extension }

-- the bytes are the text of a line, before its CRLF
abbrev IsText : List ℕ → Type 0
IsText bytes = (l : ChunkLine) × IsChunkLine l × (bytes ≡ text_of l)

-- a front of the digits
digits_text : (l : ChunkLine) (front rest : List ℕ) → IsChunkLine l → l.digits ≡ front ++ rest → (front ≡ []) ⊎ IsText front
digits_text l [] rest valid is = inl refl
digits_text l (b ∷ front) rest valid is = inr (
  made (b ∷ front) [] None,
  record {
    digits = (omega arith, omega (arith, valid.digits.1, ap length is, length-append (b ∷ front) rest), all_front (λ d. IsTrue (is_ascii_hexdigit d)) (b ∷ front) rest (subst (λ (ds : List ℕ). AllPass is_ascii_hexdigit ds) is valid.digits.2));
    pad = All-nil (λ d. IsTrue (is_ows d));
    extension = tt;
  },
  sym (append-nil (b ∷ front ++ []) ∙ append-nil (b ∷ front)),
)

-- the digits and a front of the white space
pad_text : (l : ChunkLine) (pad rest : List ℕ) → IsChunkLine l → l.pad ≡ pad ++ rest → IsText (l.digits ++ pad)
pad_text l pad rest valid is = (
  made l.digits pad None,
  record {
    digits = valid.digits;
    pad = all_front (λ b. IsTrue (is_ows b)) pad rest (subst (λ (bs : List ℕ). AllPass is_ows bs) is valid.pad);
    extension = tt;
  },
  sym (append-nil (l.digits ++ pad)),
)

-- what stands before the extension, and a front of it
extension_text : (l : ChunkLine) (extension : Option (List ℕ)) (front rest : List ℕ) → IsChunkLine l → IsExtension extension → print_extension extension ≡ front ++ rest → IsText ((l.digits ++ l.pad) ++ front)
extension_text l extension [] rest valid allowed is = (made l.digits l.pad None, record { digits = valid.digits; pad = valid.pad; extension = tt }, refl)
extension_text l None (b ∷ front) rest valid allowed is = let clash : ◌≡◌ {A = List ℕ} [] (b ∷ (front ++ rest)) = is in absurd (cc)
extension_text l (Some text) (b ∷ front) rest valid allowed is =
    let first : b ≡ 59 = cc in
    let parts : text ≡ front ++ rest = cc in
    (made l.digits l.pad (Some front), record { digits = valid.digits; pad = valid.pad; extension = all_front (λ c. IsTrue (is_extension_byte c)) front rest (subst (λ (bs : List ℕ). AllPass is_extension_byte bs) parts allowed) }, ap (λ (c : ℕ). (l.digits ++ l.pad) ++ c ∷ front) first)

-- a front of the text of a line is nothing, or the text of a line
front_text : (l : ChunkLine) (front rest : List ℕ) → IsChunkLine l → text_of l ≡ front ++ rest → (front ≡ []) ⊎ IsText front
front_text l front rest valid is =
    elim (split (l.digits ++ l.pad) (print_extension l.extension) front rest is) [
      | inr on ↦ inr (subst IsText (sym on.1) (extension_text l l.extension on.0 rest valid valid.extension on.2))
      | inl within ↦ elim (split l.digits l.pad front within.0 within.1) [
        | inl digits ↦ digits_text l front digits.0 valid digits.1
        | inr pad ↦ inr (subst IsText (sym pad.1) (pad_text l pad.0 within.0 valid pad.2))
      ]
    ]

-- none of the bytes before the CRLF is a CR
not_cr_hex : (b : ℕ) → IsTrue (is_ascii_hexdigit b) → b ≢ 13
not_cr_hex b hex is = grind (arith, nat_tests)

not_cr_ows : (b : ℕ) → IsTrue (is_ows b) → b ≢ 13
not_cr_ows b ows is = grind (arith, nat_tests)

not_cr_extension : (b : ℕ) → IsTrue (is_extension_byte b) → b ≢ 13
not_cr_extension b allowed is = grind (arith, nat_tests)

no_cr_extension : (extension : Option (List ℕ)) → IsExtension extension → All (λ b. b ≢ 13) (print_extension extension)
no_cr_extension None allowed = All-nil (λ b. b ≢ 13)
no_cr_extension (Some text) allowed = All-cons (λ b. b ≢ 13) 59 text (λ (is : 59 ≡ 13). omega arith) (All-weaker (λ b. IsTrue (is_extension_byte b)) (λ b. b ≢ 13) not_cr_extension text allowed)

-- the text of a line has no CR
no_cr : (l : ChunkLine) → IsChunkLine l → All (λ b. b ≢ 13) (text_of l)
no_cr l valid =
    All-append (λ b. b ≢ 13) (l.digits ++ l.pad) (print_extension l.extension)
    (All-append (λ b. b ≢ 13) l.digits l.pad (All-weaker (λ b. IsTrue (is_ascii_hexdigit b)) (λ b. b ≢ 13) not_cr_hex l.digits valid.digits.2) (All-weaker (λ b. IsTrue (is_ows b)) (λ b. b ≢ 13) not_cr_ows l.pad valid.pad))
    (no_cr_extension l.extension valid.extension)

-- behind the text of a line, the shortest end is CRLF
end_of_text : (line : List ℕ) → 0 < length line → All (λ b. b ≢ 13) line → shortest_end line ≡ 13 ∷ 10 ∷ []
end_of_text [] some none = absurd (omega arith)
end_of_text (b ∷ bytes) some none = ap (λ (t : Bool). if t then 10 ∷ [] else 13 ∷ 10 ∷ []) (ne_eqb (get_or (b ∷ bytes) (length bytes) 0) 13 (none (length bytes) 0 (omega arith)))

-- behind its CR, it is LF
end_of_cr : (text : List ℕ) → shortest_end (text ++ 13 ∷ []) ≡ 10 ∷ []
end_of_cr [] = refl
end_of_cr (b ∷ text) =
    let here : length (text ++ 13 ∷ []) ≡ length (b ∷ text) = omega (arith, length-append text (13 ∷ [])) in
    let last : get_or ((b ∷ text) ++ 13 ∷ []) (length (text ++ 13 ∷ [])) 0 ≡ 13 = ap (λ (n : ℕ). get_or ((b ∷ text) ++ 13 ∷ []) n 0) here ∙ get_or-append_seam (b ∷ text) 13 [] 0 in
    ap (λ (c : ℕ). if c == 13 then 10 ∷ [] else 13 ∷ 10 ∷ []) last

-- the text of a line has a byte
text_some : (l : ChunkLine) → IsChunkLine l → 0 < length (text_of l)
text_some l valid = omega (arith, valid.digits.0, length-append (l.digits ++ l.pad) (print_extension l.extension), length-append l.digits l.pad)

-- the line that says 0
abbrev pub zero_line : ChunkLine
zero_line = made (48 ∷ []) [] None

pub zero_valid : IsChunkLine zero_line
zero_valid = record { digits = (omega arith, omega arith, All-cons (λ b. IsTrue (is_ascii_hexdigit b)) 48 [] refl (All-nil (λ b. IsTrue (is_ascii_hexdigit b)))); pad = All-nil (λ b. IsTrue (is_ows b)); extension = tt }

-- the shortest end makes it a line
abbrev Ends : List ℕ → Type 0
Ends line = (l : ChunkLine) × IsChunkLine l × (line ++ shortest_end line ≡ print_chunk_line l)

-- the text of a line is ended by CRLF
text_ends : (line : List ℕ) → IsText line → Ends line
text_ends line text =
    let some : 0 < length line = subst (λ (t : List ℕ). 0 < length t) (sym text.2) (text_some text.0 text.1) in
    let none : All (λ b. b ≢ 13) line = subst (All (λ b. b ≢ 13)) (sym text.2) (no_cr text.0 text.1) in
    (text.0, text.1, ap (λ (e : List ℕ). line ++ e) (end_of_text line some none) ∙ ap (λ (t : List ℕ). t ++ 13 ∷ 10 ∷ []) text.2 ∙ sym (print_is text.0))

-- what may become a line is ended by the shortest end
pub line_ends : (line : List ℕ) → HasNoChunkLine line → MayBecomeChunkLine line → Ends line
line_ends line none may =
    let l = may.1 in
    let whole : line ++ may.0 ≡ text_of l ++ 13 ∷ 10 ∷ [] = may.2.1 ∙ append-nil (print_chunk_line l) ∙ print_is l in
    elim (split line may.0 (text_of l) (13 ∷ 10 ∷ []) whole) [
      | inl behind ↦ go l may.2.0 behind.0 behind.1 behind.2
      | inr within ↦ elim (front_text l line within.0 may.2.0 within.1) [
        | inl empty ↦ subst Ends (sym empty) (zero_line, zero_valid, sym (print_is zero_line))
        | inr text ↦ text_ends line text
      ]
    ]
  where
    go : (l : ChunkLine) → IsChunkLine l → (e : List ℕ) → line ≡ text_of l ++ e → 13 ∷ 10 ∷ [] ≡ e ++ may.0 → Ends line
    go l valid [] is end = text_ends line (l, valid, is ∙ append-nil (text_of l))
    go l valid (c ∷ []) is end =
        let cr : c ≡ 13 = cc in
        let whole : line ≡ text_of l ++ 13 ∷ [] = is ∙ ap (λ (b : ℕ). text_of l ++ b ∷ []) cr in
        (l, valid, ap (λ (t : List ℕ). t ++ shortest_end t) whole ∙ ap (λ (e : List ℕ). (text_of l ++ 13 ∷ []) ++ e) (end_of_cr (text_of l)) ∙ append_assoc (text_of l) (13 ∷ []) (10 ∷ []) ∙ sym (print_is l))
    go l valid (c ∷ d ∷ e) is end =
        let cr : c ≡ 13 = cc in
        let lf : d ≡ 10 = cc in
        absurd (none l e (valid, is ∙ ap (λ (b : ℕ). text_of l ++ b ∷ d ∷ e) cr ∙ ap (λ (b : ℕ). text_of l ++ 13 ∷ b ∷ e) lf ∙ sym (append_assoc (text_of l) (13 ∷ 10 ∷ []) e) ∙ ap (λ (t : List ℕ). t ++ e) (sym (print_is l))))

-- where the parser finds it within the limits, it may become a line
pub may_whole : (line ended end : List ℕ) (len size passed : ℕ) → HasNoChunkLine line → MayBecomeChunkLine line → ended ≡ line ++ end → end ≡ shortest_end line → (l : ChunkLine) × IsChunkLineAt ended len size l → len ≤ MAX_CHUNK_LINE → passed + size ≤ MAX_BODY → MayBecome (IsWholeLine passed) line
may_whole line ended end len size passed none may is shortest_is at short room =
    let ends = line_ends line none may in
    let same : ended ≡ print_chunk_line ends.0 ++ [] = is ∙ ap (λ (e : List ℕ). line ++ e) shortest_is ∙ ends.2 ∙ sym (append-nil (print_chunk_line ends.0)) in
    let one : at.0 ≡ ends.0 = (chunk_line_unique ended at.0 ends.0 _ [] at.1.reads (ends.1, same)).0 in (
      shortest_end line,
      record {
        line = ends.0;
        valid = ends.1;
        short = omega (arith, at.1.len_is, ap (λ (l : ChunkLine). length (print_chunk_line l)) one, short);
        room = omega (arith, at.1.size_is, ap chunk_size one, room);
        is = ends.2;
      },
    )

-- and it finds a line
pub ended_line : (line ended end : List ℕ) → HasNoChunkLine line → MayBecomeChunkLine line → ended ≡ line ++ end → end ≡ shortest_end line → HasNoChunkLine ended → ⊥
ended_line line ended end none may is shortest_is not =
    let ends = line_ends line none may in
    not ends.0 [] (ends.1, is ∙ ap (λ (e : List ℕ). line ++ e) shortest_is ∙ ends.2 ∙ sym (append-nil (print_chunk_line ends.0)))

pub ended_never : (line ended end : List ℕ) → HasNoChunkLine line → MayBecomeChunkLine line → ended ≡ line ++ end → end ≡ shortest_end line → NeverHasChunkLine ended → ⊥
ended_never line ended end none may is shortest_is never = ended_line line ended end none may is shortest_is (subst HasNoChunkLine (append-nil ended) (never []))
