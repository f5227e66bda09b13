-- Lemmas on the line before a chunk, as the parser finds it in what an intake holds.
use Rattle.std.proofs.Common.{◌≡◌, ℕ, ◌+◌, ◌<◌, ◌≤◌, ◌==◌, Bool, true, false, if◌then◌else◌, IsTrue, List, [], ◌∷◌, ◌++◌, length, take, get_or, Option, None, Some, inl, inr, refl, sym, ◌∙◌, ap, subst, arith, append_assoc, length-append, drop}
use Rattle.std.specs.Char.{is_ascii_hexdigit}
use Rattle.std.specs.Str.Parse.{digits_value}
use Rattle.std.proofs.Math.ListN.{get_or-append}
use Rattle.std.proofs.Math.Seq.{get_or-append_seam}
use Rattle.std.proofs.lemmas.Bool.{cases_lt, eqb-false}
use Rattle.std.proofs.lemmas.Bool.Decides.{nat_tests}
use Rattle.std.proofs.lemmas.List.Elements.{All-head, All-tail}
use Rattle.std.proofs.lemmas.Str.Parse.{digits_value-take-le}
use Rattle.httparse.specs.Grammar.{ChunkLine, IsChunkLine, print_chunk_line, print_extension, ReadsChunkLine, HasNoChunkLine, MayBecomeChunkLine, chunk_size, AllPass, is_ows}
use Rattle.httparse.specs.Spans.{IsChunkLineAt}
use Rattle.httparse.proofs.ChunkLemmas.{chunk_line_unique}
use Rattle.httparse.proofs.PieceLemmas.{front-append}
use Rattle.as4_http.specs.ChunkLines.{HasNoLine, shortest_end}
use Rattle.as4_http.specs.Limits.{the_limits}
use Rattle.as4_http.specs.Passed.{GoesOver, IsLongLine, IsLargeChunk}
use Rattle.as4_http.specs.declared.limits.TheConstants.{MAX_CHUNK_LINE, MAX_BODY}
use Rattle.as4_http.proofs.PassedLemmas.{begun_over}
use Rattle.as4_http.proofs.StreamLemmas.{front_is}

pub ReadsChunkLine-append : (buf : List ℕ) (line : ChunkLine) (rest more : List ℕ) → ReadsChunkLine buf line rest → ReadsChunkLine (buf ++ more) line (rest ++ more)
ReadsChunkLine-append buf line rest more reads = (reads.0, front-append buf (print_chunk_line line) rest more reads.1)

-- a line that is too long stays it
pub line_long : (held : List ℕ) (len size : ℕ) → (line : ChunkLine) × IsChunkLineAt held len size line → MAX_CHUNK_LINE < len → (passed : ℕ) (more : List ℕ) → HasNoLine passed the_limits (held ++ more)
line_long held len size at long passed more rest other begins =
    let same : at.0 ≡ begins.line = (chunk_line_unique (held ++ more) at.0 begins.line _ rest (ReadsChunkLine-append held at.0 _ more at.1.reads) begins.reads).0 in
    omega (arith, at.1.len_is, ap (λ (l : ChunkLine). length (print_chunk_line l)) same, begins.short)

-- no line came yet, and there are more bytes than a line has
pub line_yet : (held : List ℕ) → HasNoChunkLine held → MAX_CHUNK_LINE < length held → (passed : ℕ) (more : List ℕ) → HasNoLine passed the_limits (held ++ more)
line_yet held none long passed more rest size begins =
    absurd (none begins.line _ (begins.reads.0, front_is held (print_chunk_line begins.line) more rest begins.reads.1 (omega (arith, begins.short))))

-- a line for whose chunk there is no room
pub line_over : (held : List ℕ) (len size passed : ℕ) → (line : ChunkLine) × IsChunkLineAt held len size line → MAX_BODY < passed + size → (more : List ℕ) → HasNoLine passed the_limits (held ++ more)
line_over held len size passed at over more rest other begins =
    let same : at.0 ≡ begins.line = (chunk_line_unique (held ++ more) at.0 begins.line _ rest (ReadsChunkLine-append held at.0 _ more at.1.reads) begins.reads).0 in
    omega (arith, at.1.size_is, ap chunk_size same, begins.says, over)

-- a whole line that is over a limit
pub line_passes : (IsOver : ChunkLine → Type 0) (held : List ℕ) (len size : ℕ) (at : (line : ChunkLine) × IsChunkLineAt held len size line) → IsOver at.0 → GoesOver ReadsChunkLine IsOver held
line_passes IsOver held len size at over =
    let text = print_chunk_line at.0 in
    let valid = at.1.reads.0 in record {
      front = text;
      rest = drop len held;
      parts = at.1.reads.1;
      right = ([], at.0, (valid, refl));
      over = λ more other behind begins. subst IsOver (chunk_line_unique (text ++ more) at.0 other more behind (valid, refl) begins).0 over;
    }

-- ---- an unended line

print_parts : (l : ChunkLine) (rest : List ℕ) → print_chunk_line l ++ rest ≡ l.digits ++ (l.pad ++ (print_extension l.extension ++ 13 ∷ 10 ∷ rest))
unfolding print_chunk_line
print_parts l rest = simp append_assoc

-- what stands before the CRLF of a line
abbrev pub text_of : ChunkLine → List ℕ
text_of l = l.digits ++ l.pad ++ print_extension l.extension

pub print_is : (l : ChunkLine) → print_chunk_line l ≡ text_of l ++ 13 ∷ 10 ∷ []
unfolding print_chunk_line
print_is l = refl

-- a line that these bytes begin goes on behind them
line_goes_on : (line more rest : List ℕ) (l : ChunkLine) → HasNoChunkLine line → ReadsChunkLine (line ++ more) l rest → length line < length (print_chunk_line l)
line_goes_on line more rest l none reads =
    elim (cases_lt (length line) (length (print_chunk_line l))) [
      | inl longer ↦ longer
      | inr within ↦ absurd (none l _ (reads.0, front_is line (print_chunk_line l) more rest reads.1 within))
    ]

-- where it goes on by one byte, the last one before is its CR
last_is_cr : (line more rest : List ℕ) (l : ChunkLine) (n : ℕ) → ReadsChunkLine (line ++ more) l rest → length line ≡ n + 1 → length (print_chunk_line l) ≡ n + 2 → get_or line n 0 ≡ 13
last_is_cr line more rest l n reads count whole =
    let text : length (text_of l) ≡ n = omega (arith, ap length (print_is l), length-append (text_of l) (13 ∷ 10 ∷ [])) in
    let parts : line ++ more ≡ text_of l ++ 13 ∷ (10 ∷ rest) = reads.1 ∙ ap (λ (t : List ℕ). t ++ rest) (print_is l) ∙ append_assoc (text_of l) (13 ∷ 10 ∷ []) rest in
    sym (get_or-append line more 0 n (omega arith))
    ∙ ap (λ (t : List ℕ). get_or t n 0) parts
    ∙ ap (λ (k : ℕ). get_or (text_of l ++ 13 ∷ (10 ∷ rest)) k 0) (sym text)
    ∙ get_or-append_seam (text_of l) 13 (10 ∷ rest) 0

-- no line is shorter than with the shortest end
pub shortest : (line more rest : List ℕ) (l : ChunkLine) → HasNoChunkLine line → ReadsChunkLine (line ++ more) l rest → length line + length (shortest_end line) ≤ length (print_chunk_line l)
shortest [] more rest l none reads = omega (arith, ap length (print_is l), length-append (text_of l) (13 ∷ 10 ∷ []), length-append (l.digits ++ l.pad) (print_extension l.extension), length-append l.digits l.pad, reads.0.digits.0)
shortest (b ∷ bytes) more rest l none reads = go (get_or (b ∷ bytes) (length bytes) 0 == 13) refl
  where
    longer : length (b ∷ bytes) < length (print_chunk_line l)
    longer = line_goes_on (b ∷ bytes) more rest l none reads

    go : (cr : Bool) → (get_or (b ∷ bytes) (length bytes) 0 == 13) ≡ cr → length (b ∷ bytes) + length {A = ℕ} (if cr then 10 ∷ [] else 13 ∷ 10 ∷ []) ≤ length (print_chunk_line l)
    go true is = omega (arith, longer)
    go false is =
        elim (cases_lt (length (b ∷ bytes) + 1) (length (print_chunk_line l))) [
          | inl more ↦ omega (arith, more)
          | inr one ↦ absurd (eqb-false _ _ is (last_is_cr (b ∷ bytes) more rest l (length bytes) reads (omega arith) (omega (arith, longer, one))))
        ]

-- the hexadecimal digits at the front
hex_front : List ℕ → List ℕ
hex_front [] = []
hex_front (b ∷ bytes) = if is_ascii_hexdigit b then b ∷ hex_front bytes else []

ows_is_no_digit : (b : ℕ) → is_ows b ≡ true → is_ascii_hexdigit b ≡ false
ows_is_no_digit b ows = grind (arith, nat_tests)

hex_stops : (l : ChunkLine) (rest : List ℕ) → IsChunkLine l → hex_front (l.pad ++ (print_extension l.extension ++ 13 ∷ 10 ∷ rest)) ≡ []
unfolding hex_front
hex_stops l rest valid = go l.pad l.extension valid.pad
  where
    go : (pad : List ℕ) (extension : Option (List ℕ)) → AllPass is_ows pad → hex_front (pad ++ (print_extension extension ++ 13 ∷ 10 ∷ rest)) ≡ []
    go [] None pass = refl
    go [] (Some text) pass = refl
    go (p ∷ pad) extension pass = ap (λ (t : Bool). if t then p ∷ hex_front (pad ++ (print_extension extension ++ 13 ∷ 10 ∷ rest)) else []) (ows_is_no_digit p (All-head (λ b. IsTrue (is_ows b)) p pad pass))

hex_run : (digits rest : List ℕ) → AllPass is_ascii_hexdigit digits → hex_front rest ≡ [] → hex_front (digits ++ rest) ≡ digits
unfolding hex_front
hex_run [] rest pass stops = stops
hex_run (d ∷ digits) rest pass stops =
    ap (λ (t : Bool). if t then d ∷ hex_front (digits ++ rest) else []) (All-head (λ b. IsTrue (is_ascii_hexdigit b)) d digits pass)
    ∙ ap (λ (t : List ℕ). d ∷ t) (hex_run digits rest (All-tail (λ b. IsTrue (is_ascii_hexdigit b)) d digits pass) stops)

-- the digits of a line are those at the front of the bytes
digits_are : (bytes rest : List ℕ) (l : ChunkLine) → ReadsChunkLine bytes l rest → l.digits ≡ hex_front bytes
digits_are bytes rest l reads =
    sym (hex_run l.digits _ reads.0.digits.2 (hex_stops l rest reads.0)) ∙ ap hex_front (sym (print_parts l rest) ∙ sym reads.1)

-- more bytes leave the digits, or add some
hex_more : (line end more : List ℕ) → hex_front end ≡ [] → hex_front (line ++ end) ≡ take (length (hex_front (line ++ end))) (hex_front (line ++ more))
unfolding hex_front
hex_more [] end more none = none ∙ ap (λ (t : List ℕ). take (length t) (hex_front more)) (sym none)
hex_more (b ∷ line) end more none = go (is_ascii_hexdigit b) (hex_more line end more none)
  where
    go : (hex : Bool) → hex_front (line ++ end) ≡ take (length (hex_front (line ++ end))) (hex_front (line ++ more)) → (if hex then b ∷ hex_front (line ++ end) else []) ≡ take (length (if hex then b ∷ hex_front (line ++ end) else [])) (if hex then b ∷ hex_front (line ++ more) else [])
    go true rest = ap (λ (t : List ℕ). b ∷ t) rest
    go false rest = refl

end_stops : (cr : Bool) → hex_front (if cr then 10 ∷ [] else 13 ∷ 10 ∷ []) ≡ []
unfolding hex_front
end_stops true = refl
end_stops false = refl

-- the line that is ended where no byte came
zero_size : (behind : List ℕ) (least : ChunkLine) → ReadsChunkLine (48 ∷ 13 ∷ 10 ∷ []) least behind → chunk_size least ≡ 0
unfolding hex_front
zero_size behind least reads = ap (digits_value 16) (digits_are (48 ∷ 13 ∷ 10 ∷ []) behind least reads)

-- no line says less than with the shortest end
pub least_size : (line more rest behind : List ℕ) (l least : ChunkLine) → ReadsChunkLine (line ++ shortest_end line) least behind → ReadsChunkLine (line ++ more) l rest → chunk_size least ≤ chunk_size l
least_size [] more rest behind l least ended reads = omega (arith, zero_size behind least ended)
least_size (b ∷ bytes) more rest behind l least ended reads =
    let end = shortest_end (b ∷ bytes) in
    let digits : least.digits ≡ take (length least.digits) l.digits =
    digits_are (b ∷ bytes ++ end) behind least ended
    ∙ hex_more (b ∷ bytes) end more (end_stops (get_or (b ∷ bytes) (length bytes) 0 == 13))
    ∙ ap (λ (t : List ℕ). take (length t) (hex_front (b ∷ bytes ++ more))) (sym (digits_are (b ∷ bytes ++ end) behind least ended))
    ∙ ap (λ (t : List ℕ). take (length least.digits) t) (sym (digits_are (b ∷ bytes ++ more) rest l reads)) in
    omega (arith, ap (digits_value 16) digits, digits_value-take-le 16 l.digits (length least.digits) (omega arith))

-- more bytes than a line has, and no line yet
pub line_passes_yet : (held : List ℕ) → HasNoChunkLine held → MayBecomeChunkLine held → MAX_CHUNK_LINE < length held → GoesOver ReadsChunkLine IsLongLine held
line_passes_yet held none may long =
    begun_over ReadsChunkLine IsLongLine held may (λ more l rest reads. omega (arith, line_goes_on held more rest l none reads, long))

-- where the line with its shortest end is too long, so is each that begins so
ended_longer : (line ended end : List ℕ) (len size : ℕ) → HasNoChunkLine line → ended ≡ line ++ end → end ≡ shortest_end line → (l : ChunkLine) × IsChunkLineAt ended len size l → MAX_CHUNK_LINE < len → (more : List ℕ) (l : ChunkLine) (rest : List ℕ) → ReadsChunkLine (line ++ more) l rest → IsLongLine l
ended_longer line ended end len size none is shortest_is at long more l rest reads =
    let count : length ended ≡ length line + length (shortest_end line) = ap length is ∙ length-append line end ∙ ap (λ (e : List ℕ). length line + length e) shortest_is in
    let least = shortest line more rest l none reads in
    let within : len ≤ length ended = omega (arith, at.1.len_is, ap length at.1.reads.1, length-append (print_chunk_line at.0) (drop len ended)) in
    omega (arith, count, least, within, long)

pub ended_long : (line ended end : List ℕ) (len size passed : ℕ) → HasNoChunkLine line → ended ≡ line ++ end → end ≡ shortest_end line → (l : ChunkLine) × IsChunkLineAt ended len size l → MAX_CHUNK_LINE < len → (more : List ℕ) → HasNoLine passed the_limits (line ++ more)
ended_long line ended end len size passed none is shortest_is at long more rest other begins =
    omega (arith, ended_longer line ended end len size none is shortest_is at long more begins.line rest begins.reads, begins.short)

pub ended_passes : (line ended end : List ℕ) (len size : ℕ) → HasNoChunkLine line → MayBecomeChunkLine line → ended ≡ line ++ end → end ≡ shortest_end line → (l : ChunkLine) × IsChunkLineAt ended len size l → MAX_CHUNK_LINE < len → GoesOver ReadsChunkLine IsLongLine line
ended_passes line ended end len size none may is shortest_is at long =
    begun_over ReadsChunkLine IsLongLine line may (ended_longer line ended end len size none is shortest_is at long)

-- where it says more than there is room for, so does each that begins so
ended_larger : (line ended end : List ℕ) (len size passed : ℕ) → ended ≡ line ++ end → end ≡ shortest_end line → (l : ChunkLine) × IsChunkLineAt ended len size l → MAX_BODY < passed + size → (more : List ℕ) (l : ChunkLine) (rest : List ℕ) → ReadsChunkLine (line ++ more) l rest → IsLargeChunk passed l
ended_larger line ended end len size passed is shortest_is at over more l rest reads =
    let same : ended ≡ line ++ shortest_end line = is ∙ ap (λ (e : List ℕ). line ++ e) shortest_is in
    let least = least_size line more rest (drop len ended) l at.0 (subst (λ (b : List ℕ). ReadsChunkLine b at.0 (drop len ended)) same at.1.reads) reads in
    omega (arith, least, at.1.size_is, over)

pub ended_over : (line ended end : List ℕ) (len size passed : ℕ) → ended ≡ line ++ end → end ≡ shortest_end line → (l : ChunkLine) × IsChunkLineAt ended len size l → MAX_BODY < passed + size → (more : List ℕ) → HasNoLine passed the_limits (line ++ more)
ended_over line ended end len size passed is shortest_is at over more rest other begins =
    omega (arith, ended_larger line ended end len size passed is shortest_is at over more begins.line rest begins.reads, begins.says)

pub ended_passes_body : (line ended end : List ℕ) (len size passed : ℕ) → MayBecomeChunkLine line → ended ≡ line ++ end → end ≡ shortest_end line → (l : ChunkLine) × IsChunkLineAt ended len size l → MAX_BODY < passed + size → GoesOver ReadsChunkLine (IsLargeChunk passed) line
ended_passes_body line ended end len size passed may is shortest_is at over =
    begun_over ReadsChunkLine (IsLargeChunk passed) line may (ended_larger line ended end len size passed is shortest_is at over)

-- bytes without a line
pub line_none : (line : List ℕ) (passed : ℕ) → HasNoChunkLine line → HasNoLine passed the_limits line
line_none line passed none rest size begins = absurd (none begins.line rest begins.reads)
