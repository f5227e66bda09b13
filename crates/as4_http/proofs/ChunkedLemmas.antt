-- Lemmas on a body in chunks, of which some have passed.
use Rattle.std.proofs.Common.{◌≡◌, ℕ, zero, suc, ◌+◌, ◌-◌, ◌<◌, ◌≤◌, replicate, get_or, List, [], ◌∷◌, ◌++◌, length, take, Option, ◌⊎◌, inl, inr, refl, sym, ◌∙◌, ap, subst, arith, append_assoc, append-nil, length-append}
use Rattle.std.specs.Prelude.{All}
use Rattle.std.specs.List.{flat_map}
use Rattle.std.proofs.lemmas.List.{append_cancel_left, flat_map_more, take_at, length-replicate}
use Rattle.std.proofs.lemmas.List.Concat.{flat_map-append}
use Rattle.std.proofs.lemmas.List.Elements.{All-nil, All-push, All-head, All-tail}
use Rattle.as4_flow.specs.Flow.{before}
use Rattle.as4_flow.proofs.FlowLemmas.{before_append}
use Rattle.httparse.specs.Grammar.{LineEnd, lf, Field, IsField, print_section, ChunkLine, IsChunkLine, print_chunk_line, chunk_size}
use Rattle.httparse.proofs.ChunkLemmas.{chunk_line_unique}
use Rattle.httparse.proofs.GrammarLemmas.{section_unique}
use Rattle.as4_http.specs.Asked.{AsksOnlyAsNeeded}
use Rattle.as4_http.specs.Came.{IsShorter}
use Rattle.as4_http.specs.ChunkLines.{IsShortLine, HasNoLine, IsWholeLine, IsCrlf, TakesLine, HasNoCrlf}
use Rattle.as4_http.proofs.AskedLemmas.{asks_after}
use Rattle.as4_http.proofs.LineEndLemmas.{zero_line, zero_valid}
use Rattle.as4_http.proofs.PassedLemmas.{shows_behind}
use Rattle.as4_http.proofs.RefusedLemmas.{refuses_behind, may_behind}
use Rattle.as4_http.specs.Limits.{Limits, the_limits}
use Rattle.as4_http.specs.Passed.{Shows, GoesOver, ReadsTrailers, IsLongTrailers, PassesNext, long_trailers, PassesChunked}
use Rattle.as4_http.specs.Refused.{MayBecome, Refuses}
use Rattle.as4_http.specs.declared.refusal.HttpRefusal.{HttpRefusal}
use Rattle.as4_http.specs.Chunks.{Chunk, print_chunk, IsChunk, IsShortChunk, ChunkedBody, print_end_of_chunks, print_chunked, joined, IsChunked, IsSmallChunked, HasNoChunk, HasNoChunked, IsWholeChunk, IsWholeChunked, TakesChunked}
use Rattle.as4_http.specs.Trailers.{HasNoTrailers, AreTrailers, TakesTrailers}
use Rattle.as4_http.specs.declared.limits.TheConstants.{MAX_TRAILERS, MAX_BODY}

-- prefixes of one length are one
pub same_front : (a b x y : List ℕ) → length a ≡ length b → a ++ x ≡ b ++ y → (a ≡ b) × (x ≡ y)
same_front a b x y count same =
    let front : a ≡ b = sym (take_at a x (length a) refl) ∙ ap (λ (l : List ℕ). take (length a) l) same ∙ take_at b y (length a) (sym count) in
    (front, append_cancel_left a x y (same ∙ ap (λ (l : List ℕ). l ++ y) (sym front)))

-- what is left of a body, and then the rest: it begins with the line of the next chunk, or the one after the last
abbrev left_text : List Chunk → ChunkedBody → List ℕ → List ℕ
left_text chunks body rest = flat_map print_chunk chunks ++ print_end_of_chunks body ++ rest

line_first : (c : Chunk) (more : List ℕ) → print_chunk c ++ more ≡ print_chunk_line c.line ++ (c.bytes ++ 13 ∷ 10 ∷ more)
line_first c more = append_assoc (print_chunk_line c.line) (c.bytes ++ 13 ∷ 10 ∷ []) more ∙ ap (λ (l : List ℕ). print_chunk_line c.line ++ l) (append_assoc c.bytes (13 ∷ 10 ∷ []) more)

next_chunk : (d : Chunk) (ds : List Chunk) (body : ChunkedBody) (rest : List ℕ) → left_text (d ∷ ds) body rest ≡ print_chunk_line d.line ++ (d.bytes ++ 13 ∷ 10 ∷ left_text ds body rest)
next_chunk d ds body rest =
    ap (λ (l : List ℕ). l ++ rest) (append_assoc (print_chunk d) (flat_map print_chunk ds) (print_end_of_chunks body))
    ∙ append_assoc (print_chunk d) (flat_map print_chunk ds ++ print_end_of_chunks body) rest
    ∙ line_first d (left_text ds body rest)

no_chunk : (body : ChunkedBody) (rest : List ℕ) → left_text [] body rest ≡ print_chunk_line body.last ++ (print_section body.trailers body.end ++ rest)
no_chunk body rest = append_assoc (print_chunk_line body.last) (print_section body.trailers body.end) rest

same_text : (a b : ChunkLine) (x y : List ℕ) → IsChunkLine a → IsChunkLine b → print_chunk_line a ++ x ≡ print_chunk_line b ++ y → (a ≡ b) × (x ≡ y)
same_text a b x y valid_a valid_b same = chunk_line_unique (print_chunk_line a ++ x) a b x y (valid_a, refl) (valid_b, same)

-- chunks that have passed are the first ones of a body
chunks_skip : (cs ds : List Chunk) (body : ChunkedBody) (now rest : List ℕ) → All IsChunk cs → All IsChunk ds → IsChunkLine body.last → chunk_size body.last ≡ 0 → flat_map print_chunk cs ++ now ≡ left_text ds body rest → (es : List Chunk) × (ds ≡ cs ++ es) × (now ≡ left_text es body rest)
chunks_skip [] ds body now rest valid others last none same = (ds, refl, same)
chunks_skip (c ∷ cs) [] body now rest valid others last none same =
    let first = All-head IsChunk c cs valid in
    let lines = same_text c.line body.last _ _ first.line last (sym (append_assoc (print_chunk c) (flat_map print_chunk cs) now ∙ line_first c (flat_map print_chunk cs ++ now)) ∙ same ∙ no_chunk body rest) in
    absurd (omega (arith, first.some, first.size, ap chunk_size lines.0, none))
chunks_skip (c ∷ cs) (d ∷ ds) body now rest valid others last none same =
    let first = All-head IsChunk c cs valid in
    let other = All-head IsChunk d ds others in
    let lines = same_text c.line d.line _ _ first.line other.line (sym (append_assoc (print_chunk c) (flat_map print_chunk cs) now ∙ line_first c (flat_map print_chunk cs ++ now)) ∙ same ∙ next_chunk d ds body rest) in
    let bytes = same_front c.bytes d.bytes _ _ (omega (arith, first.size, other.size, ap chunk_size lines.0)) lines.1 in
    let is : c ≡ d = λ i. record { line = lines.0 i; bytes = bytes.0 i } in
    let behind : flat_map print_chunk cs ++ now ≡ left_text ds body rest = cc (bytes.1) in
    let tail = chunks_skip cs ds body now rest (All-tail IsChunk c cs valid) (All-tail IsChunk d ds others) last none behind in
    (tail.0, cc (is, tail.1), tail.2)

-- a body of which some chunks have passed, and what is left of it
pub record Goes (limits : Limits) (chunks : List Chunk) (now : List ℕ) : Type 0 where
  pub body : ChunkedBody
  pub rest : List ℕ
  pub ahead : List Chunk
  pub valid : IsChunked body
  pub small : IsSmallChunked limits body
  pub parts : body.chunks ≡ chunks ++ ahead
  pub left : now ≡ left_text ahead body rest

-- where nothing can be left of a body, there is none
pub none_goes : (limits : Limits) (chunks : List Chunk) (now : List ℕ) → All IsChunk chunks → ¬ (Goes limits chunks now) → HasNoChunked limits (flat_map print_chunk chunks ++ now)
unfolding print_chunked
none_goes limits chunks now passed none body rest valid small same =
    let skipped = chunks_skip chunks body.chunks body now rest passed valid.chunks valid.last valid.none same in
    none (record { body = body; rest = rest; ahead = skipped.0; valid = valid; small = small; parts = skipped.1; left = skipped.2 })

all_behind : {X : Type 0} (P : X → Type 0) (xs ys : List X) → All P (xs ++ ys) → All P ys
all_behind P [] ys all = all
all_behind P (x ∷ xs) ys all = all_behind P xs ys (All-tail P x (xs ++ ys) all)

chunks_ahead : (limits : Limits) (chunks : List Chunk) (now : List ℕ) (goes : Goes limits chunks now) → All IsChunk goes.ahead
chunks_ahead limits chunks now goes = all_behind IsChunk chunks goes.ahead (subst (All IsChunk) goes.parts goes.valid.chunks)

short_ahead : (limits : Limits) (chunks : List Chunk) (now : List ℕ) (goes : Goes limits chunks now) → All (IsShortChunk limits) goes.ahead
short_ahead limits chunks now goes = all_behind (IsShortChunk limits) chunks goes.ahead (subst (All (IsShortChunk limits)) goes.parts goes.small.lines)

joined_count : (chunks : List Chunk) (d : Chunk) (ds : List Chunk) → length (joined (chunks ++ d ∷ ds)) ≡ length (joined chunks) + (length d.bytes + length (joined ds))
joined_count chunks d ds =
    ap length (flat_map-append (λ (c : Chunk). c.bytes) chunks (d ∷ ds)) ∙ length-append (joined chunks) (joined (d ∷ ds)) ∙ ap (λ (n : ℕ). length (joined chunks) + n) (length-append d.bytes (joined ds))

-- what is left begins with a line, whose chunk leaves the body within the limit
pub goes_on : (limits : Limits) (chunks : List Chunk) (now : List ℕ) → HasNoLine (length (joined chunks)) limits now → ¬ (Goes limits chunks now)
goes_on limits chunks now none goes = go goes.ahead goes.parts (chunks_ahead limits chunks now goes) (short_ahead limits chunks now goes) goes.left
  where
    go : (ahead : List Chunk) → goes.body.chunks ≡ chunks ++ ahead → All IsChunk ahead → All (IsShortChunk limits) ahead → now ≡ left_text ahead goes.body goes.rest → ⊥
    go [] parts valid short left =
        let over = none _ _ (record { line = goes.body.last; reads = (goes.valid.last, left ∙ no_chunk goes.body goes.rest); short = goes.small.last; says = refl }) in
        omega (arith, over, goes.valid.none, ap (λ (l : List Chunk). length (joined l)) (parts ∙ append-nil chunks), goes.small.bytes)
    go (d ∷ ds) parts valid short left =
        let first = All-head IsChunk d ds valid in
        let over = none _ _ (record { line = d.line; reads = (first.line, left ∙ next_chunk d ds goes.body goes.rest); short = All-head (IsShortChunk limits) d ds short; says = refl }) in
        omega (arith, over, first.size, ap (λ (l : List Chunk). length (joined l)) parts ∙ joined_count chunks d ds, goes.small.bytes)

-- it is the line after the last chunk, or that of the next
abbrev Ends : (limits : Limits) (chunks : List Chunk) (now : List ℕ) → Goes limits chunks now → ChunkLine → List ℕ → Type 0
Ends limits chunks now goes line behind = (line ≡ goes.body.last) × (behind ≡ print_section goes.body.trailers goes.body.end ++ goes.rest)

abbrev Continues : (limits : Limits) (chunks : List Chunk) (now : List ℕ) → Goes limits chunks now → ChunkLine → List ℕ → Type 0
Continues limits chunks now goes line behind =
    (d : Chunk) × (ds : List Chunk) × (goes.ahead ≡ d ∷ ds) × (line ≡ d.line) × IsChunk d × (behind ≡ d.bytes ++ 13 ∷ 10 ∷ left_text ds goes.body goes.rest)

line_is : (limits : Limits) (chunks : List Chunk) (line : ChunkLine) (behind : List ℕ) → IsChunkLine line → (goes : Goes limits chunks (print_chunk_line line ++ behind)) → Ends limits chunks (print_chunk_line line ++ behind) goes line behind ⊎ Continues limits chunks (print_chunk_line line ++ behind) goes line behind
line_is limits chunks line behind valid goes = go goes.ahead refl (chunks_ahead limits chunks (print_chunk_line line ++ behind) goes) goes.left
  where
    go : (ahead : List Chunk) → goes.ahead ≡ ahead → All IsChunk ahead → print_chunk_line line ++ behind ≡ left_text ahead goes.body goes.rest → Ends limits chunks (print_chunk_line line ++ behind) goes line behind ⊎ Continues limits chunks (print_chunk_line line ++ behind) goes line behind
    go [] is others left = inl (same_text line goes.body.last behind _ valid goes.valid.last (left ∙ no_chunk goes.body goes.rest))
    go (d ∷ ds) is others left =
        let first = All-head IsChunk d ds others in
        let same = same_text line d.line behind _ valid first.line (left ∙ next_chunk d ds goes.body goes.rest) in
        inr (d, ds, is, same.0, first, same.1)

-- a line that says 0 is followed by trailers
pub goes_to_trailers : (limits : Limits) (chunks : List Chunk) (line : ChunkLine) (behind : List ℕ) → IsChunkLine line → chunk_size line ≡ 0 → HasNoTrailers 0 limits behind → ¬ (Goes limits chunks (print_chunk_line line ++ behind))
goes_to_trailers limits chunks line behind valid empty none goes =
    elim (line_is limits chunks line behind valid goes) [
      | inl ends ↦ omega (arith, none goes.body.trailers goes.body.end goes.rest (goes.valid.trailers, ends.1), goes.small.trailers)
      | inr on ↦ omega (arith, empty, ap chunk_size on.3, on.4.size, on.4.some)
    ]

-- a line that says a number of bytes is followed by that number, and CRLF
pub goes_to_chunk : (limits : Limits) (chunks : List Chunk) (line : ChunkLine) (behind : List ℕ) → IsChunkLine line → 0 < chunk_size line → HasNoChunk (chunk_size line) behind → ¬ (Goes limits chunks (print_chunk_line line ++ behind))
goes_to_chunk limits chunks line behind valid some none goes =
    elim (line_is limits chunks line behind valid goes) [
      | inl ends ↦ omega (arith, some, ap chunk_size ends.0, goes.valid.none)
      | inr on ↦ none on.0.bytes (left_text on.1 goes.body goes.rest) (sym on.4.size ∙ ap chunk_size (sym on.3)) on.5
    ]

pub chunk_none : (size : ℕ) (piece rest : List ℕ) → length piece ≡ size → HasNoCrlf rest → HasNoChunk size (piece ++ rest)
chunk_none size piece rest count none other behind counts same =
    none behind (same_front piece other rest (13 ∷ 10 ∷ behind) (count ∙ sym counts) same).1

-- ---- what more bytes make of it

-- a chunk whose bytes have passed
pub crlf_may : (size : ℕ) (piece : List ℕ) → length piece ≡ size → (rest : List ℕ) → MayBecome IsCrlf rest → MayBecome (IsWholeChunk size) (piece ++ rest)
crlf_may size piece count = may_behind IsCrlf (IsWholeChunk size) piece (λ rest is. ([], (piece, count, append-nil (piece ++ rest) ∙ ap (λ (l : List ℕ). piece ++ l) is)))

-- fewer bytes than the chunk has
pub chunk_shorter : (size : ℕ) (stream : List ℕ) → IsShorter size stream → HasNoChunk size stream × MayBecome (IsWholeChunk size) stream
chunk_shorter size stream short =
    let zeros : List ℕ = replicate (size - length stream) 48 in
    let count : length zeros ≡ size - length stream = length-replicate (size - length stream) 48 in (
      λ piece rest counts same. omega (arith, short, ap length same, length-append piece (13 ∷ 10 ∷ rest), counts),
      (zeros ++ 13 ∷ 10 ∷ [], (stream ++ zeros, omega (arith, length-append stream zeros, count, short), sym (append_assoc stream zeros (13 ∷ 10 ∷ [])))),
    )

abbrev pub made : (line : ChunkLine) (bytes : List ℕ) → Chunk
made line bytes = record { line = line; bytes = bytes }

-- chunks within the limits
pub record Passed (chunks : List Chunk) : Type 0 where
  pub valid : All IsChunk chunks
  pub short : All (IsShortChunk the_limits) chunks
  pub within : length (joined chunks) ≤ MAX_BODY

-- what a loop knows of the chunks that have passed
pub passed_of : (chunks : List Chunk) (bytes : List ℕ) → All IsChunk chunks → All (IsShortChunk the_limits) chunks → bytes ≡ joined chunks → length bytes ≤ MAX_BODY → Passed chunks
passed_of chunks bytes valid short joins within = record { valid = valid; short = short; within = omega (arith, within, ap length joins) }

-- a limit is passed after chunks that have passed
pub chunks_show : (chunks : List Chunk) (n : ℕ) (told now left : Option (List ℕ)) → Passed chunks → n ≡ length (joined chunks) → told ≡ before (flat_map print_chunk chunks) now → Shows (PassesNext n) now left → Shows PassesChunked told left
chunks_show chunks n told now left passed count is =
    shows_behind (PassesNext n) PassesChunked told now left (flat_map print_chunk chunks) is (λ rest passes. record {
      chunks = chunks;
      valid = passed.valid;
      short = passed.short;
      within = passed.within;
      behind = rest;
      parts = refl;
      passes = subst (λ (k : ℕ). PassesNext k rest) count passes;
    })

-- the same in the trailers, after the line that says 0
pub last_shows : (chunks : List Chunk) (last : ChunkLine) (told now mid left : Option (List ℕ)) → Passed chunks → IsChunkLine last → chunk_size last ≡ 0 → told ≡ before (flat_map print_chunk chunks) now → now ≡ before (print_chunk_line last) mid → Shows (GoesOver ReadsTrailers (IsLongTrailers 0)) mid left → Shows PassesChunked told left
last_shows chunks last told now mid left passed valid empty is taken shows =
    chunks_show chunks (length (joined chunks)) told now left passed refl is
    (shows_behind (GoesOver ReadsTrailers (IsLongTrailers 0)) (PassesNext (length (joined chunks))) now mid left (print_chunk_line last) taken (λ rest over. long_trailers last rest (valid, refl) empty over) shows)

-- bytes that may be the CR
pub crlf_begun : (held : List ℕ) → length held < 2 → (length held ≡ 1 → get_or held 0 0 ≡ 13) → HasNoCrlf held × MayBecome IsCrlf held
crlf_begun [] few cr = (λ rest is. cc, (13 ∷ 10 ∷ [], refl))
crlf_begun (b ∷ []) few cr = (λ rest is. let short : ◌≡◌ {A = List ℕ} [] (10 ∷ rest) = cc in cc, (10 ∷ [], ap (λ (c : ℕ). c ∷ 10 ∷ []) (cr (omega arith))))
crlf_begun (b ∷ c ∷ held) few cr = absurd (omega (arith, few))

-- chunks, the line after the last and trailers are a body
whole_of : (chunks : List Chunk) (last : ChunkLine) (fields : List Field) (end : LineEnd) (stream : List ℕ) → Passed chunks → IsChunkLine last → IsShortLine the_limits last → chunk_size last ≡ 0 → All IsField fields → length (print_section fields end) ≤ MAX_TRAILERS → stream ≡ flat_map print_chunk chunks ++ (print_chunk_line last ++ print_section fields end) → IsWholeChunked stream
unfolding print_chunked
whole_of chunks last fields end stream passed valid short empty fields_valid small is = record {
  body = record { chunks = chunks; last = last; trailers = fields; end = end };
  valid = record { chunks = passed.valid; last = valid; none = empty; trailers = fields_valid };
  small = record { lines = passed.short; last = short; trailers = small; bytes = passed.within };
  is = is;
}

-- the line that says 0, where no chunk follows
zero_text : print_chunk_line zero_line ≡ 48 ∷ 13 ∷ 10 ∷ []
unfolding print_chunk_line
zero_text = refl

-- one more chunk
one_more : (chunks : List Chunk) (line : ChunkLine) (piece : List ℕ) → Passed chunks → IsChunkLine line → IsShortLine the_limits line → 0 < chunk_size line → length piece ≡ chunk_size line → length (joined chunks) + chunk_size line ≤ MAX_BODY → Passed (chunks ++ made line piece ∷ [])
one_more chunks line piece passed valid short some count room = record {
  valid = All-push IsChunk chunks (made line piece) passed.valid (record { line = valid; some = omega (arith, some, count); size = sym count });
  short = All-push (IsShortChunk the_limits) chunks (made line piece) passed.short short;
  within = omega (arith, joined_count chunks (made line piece) [], count, room);
}

-- a chunk that more bytes end, and then the last line and no trailers
pub chunk_may : (chunks : List Chunk) (line : ChunkLine) → Passed chunks → IsChunkLine line → IsShortLine the_limits line → 0 < chunk_size line → length (joined chunks) + chunk_size line ≤ MAX_BODY → (behind : List ℕ) → IsWholeChunk (chunk_size line) behind → MayBecome IsWholeChunked (flat_map print_chunk chunks ++ (print_chunk_line line ++ behind))
chunk_may chunks line passed valid short some room behind whole =
    let piece = whole.0 in
    let now = flat_map print_chunk chunks ++ (print_chunk_line line ++ behind) in
    let parts : now ≡ flat_map print_chunk (chunks ++ made line piece ∷ []) = ap (λ (l : List ℕ). flat_map print_chunk chunks ++ (print_chunk_line line ++ l)) whole.2 ∙ flat_map_more print_chunk [] chunks (made line piece) in (
      48 ∷ 13 ∷ 10 ∷ 10 ∷ [],
      whole_of (chunks ++ made line piece ∷ []) zero_line [] lf (now ++ 48 ∷ 13 ∷ 10 ∷ 10 ∷ []) (one_more chunks line piece passed valid short some whole.1 room) zero_valid (omega (arith, ap length zero_text)) refl (All-nil IsField) (omega arith)
          (ap (λ (l : List ℕ). l ++ 48 ∷ 13 ∷ 10 ∷ 10 ∷ []) parts ∙ ap (λ (l : List ℕ). flat_map print_chunk (chunks ++ made line piece ∷ []) ++ (l ++ 10 ∷ [])) (sym zero_text)),
    )

-- the line after the last chunk, and trailers that more bytes end
pub trailers_may : (chunks : List Chunk) (line : ChunkLine) → Passed chunks → IsChunkLine line → IsShortLine the_limits line → chunk_size line ≡ 0 → (behind : List ℕ) → AreTrailers 0 behind → MayBecome IsWholeChunked (flat_map print_chunk chunks ++ (print_chunk_line line ++ behind))
trailers_may chunks line passed valid short empty behind whole =
    let now = flat_map print_chunk chunks ++ (print_chunk_line line ++ behind) in
    let section : behind ≡ print_section whole.fields whole.last = whole.reads.1 ∙ append-nil (print_section whole.fields whole.last) in
    ([], whole_of chunks line whole.fields whole.last (now ++ []) passed valid short empty whole.reads.0 (omega (arith, whole.small, ap length section)) (append-nil now ∙ ap (λ (l : List ℕ). flat_map print_chunk chunks ++ (print_chunk_line line ++ l)) section))

-- a line that more bytes end, and what it asks for
line_whole : (chunks : List Chunk) → Passed chunks → (rest : List ℕ) → IsWholeLine (length (joined chunks)) rest → MayBecome IsWholeChunked (flat_map print_chunk chunks ++ rest)
line_whole chunks passed rest whole = go (chunk_size whole.line) refl
  where
    behind_line : (behind : List ℕ) → MayBecome IsWholeChunked (flat_map print_chunk chunks ++ (print_chunk_line whole.line ++ behind)) → MayBecome IsWholeChunked (flat_map print_chunk chunks ++ rest)
    behind_line behind may = (behind ++ may.0, subst IsWholeChunked (ap (λ (l : List ℕ). (flat_map print_chunk chunks ++ (l ++ behind)) ++ may.0) (sym whole.is) ∙ ap (λ (l : List ℕ). l ++ may.0) (sym (append_assoc (flat_map print_chunk chunks) rest behind)) ∙ append_assoc (flat_map print_chunk chunks ++ rest) behind may.0) may.1)

    go : (size : ℕ) → chunk_size whole.line ≡ size → MayBecome IsWholeChunked (flat_map print_chunk chunks ++ rest)
    go zero is = behind_line (10 ∷ []) (trailers_may chunks whole.line passed whole.valid whole.short is (10 ∷ []) (record { fields = []; last = lf; reads = (All-nil IsField, refl); small = omega arith }))
    go (suc n) is =
        let zeros : List ℕ = replicate (chunk_size whole.line) 48 in
        behind_line (zeros ++ 13 ∷ 10 ∷ []) (chunk_may chunks whole.line passed whole.valid whole.short (omega (arith, is)) whole.room (zeros ++ 13 ∷ 10 ∷ []) (zeros, length-replicate (chunk_size whole.line) 48, refl))

-- the same where more bytes end the line
pub line_may : (chunks : List Chunk) (passed : ℕ) → passed ≡ length (joined chunks) → Passed chunks → (rest : List ℕ) → MayBecome (IsWholeLine passed) rest → MayBecome IsWholeChunked (flat_map print_chunk chunks ++ rest)
line_may chunks passed count all = may_behind (IsWholeLine passed) IsWholeChunked (flat_map print_chunk chunks) (λ rest whole. line_whole chunks all rest (subst (λ (n : ℕ). IsWholeLine n rest) count whole))

-- ---- the same of a stream

pub refuses_line : (chunks : List Chunk) (passed : ℕ) (told now left : Option (List ℕ)) → passed ≡ length (joined chunks) → Passed chunks → told ≡ before (flat_map print_chunk chunks) now → (refusal : HttpRefusal) → Refuses (HasNoLine passed) (MayBecome (IsWholeLine passed)) now left refusal → Refuses HasNoChunked (MayBecome IsWholeChunked) told left refusal
refuses_line chunks passed told now left count all taken =
    refuses_behind (HasNoLine passed) HasNoChunked (MayBecome (IsWholeLine passed)) (MayBecome IsWholeChunked) told now left (flat_map print_chunk chunks) taken
    (λ limits rest none. none_goes limits chunks rest all.valid (goes_on limits chunks rest (subst (λ (n : ℕ). HasNoLine n limits rest) count none)))
    (line_may chunks passed count all)

pub refuses_next : (P : Limits → List ℕ → Type 0) (B : List ℕ → Type 0) (chunks : List Chunk) (line : ChunkLine) (told now mid left : Option (List ℕ)) → All IsChunk chunks → told ≡ before (flat_map print_chunk chunks) now → now ≡ before (print_chunk_line line) mid → ((limits : Limits) (behind : List ℕ) → P limits behind → ¬ (Goes limits chunks (print_chunk_line line ++ behind))) → ((behind : List ℕ) → B behind → MayBecome IsWholeChunked (flat_map print_chunk chunks ++ (print_chunk_line line ++ behind))) → (refusal : HttpRefusal) → Refuses P B mid left refusal → Refuses HasNoChunked (MayBecome IsWholeChunked) told left refusal
refuses_next P B chunks line told now mid left valid taken line_taken none cut refusal fact =
    refuses_behind (λ limits rest. ¬ (Goes limits chunks rest)) HasNoChunked (λ rest. MayBecome IsWholeChunked (flat_map print_chunk chunks ++ rest)) (MayBecome IsWholeChunked) told now left (flat_map print_chunk chunks) taken (λ limits rest not. none_goes limits chunks rest valid not) (λ rest may. may) refusal
    (refuses_behind P (λ limits rest. ¬ (Goes limits chunks rest)) B (λ rest. MayBecome IsWholeChunked (flat_map print_chunk chunks ++ rest)) now mid left (print_chunk_line line) line_taken none cut refusal fact)

-- ---- how far the source is read

-- a chunk whose bytes have passed
pub asks_crlf : (size : ℕ) (piece held now : List ℕ) (old mid new : Option (List ℕ)) → length piece ≡ size → before held old ≡ before piece (before now mid) → AsksOnlyAsNeeded (IsShorter size) held old mid → AsksOnlyAsNeeded HasNoCrlf now mid new → AsksOnlyAsNeeded (HasNoChunk size) held old new
asks_crlf size piece held now old mid new count taken =
    asks_after (IsShorter size) HasNoCrlf (HasNoChunk size) piece held now old mid new taken (λ bytes short. (chunk_shorter size bytes short).0) (λ rest none. chunk_none size piece rest count none)

-- the line of the next chunk
pub asks_line : (chunks : List Chunk) (passed : ℕ) (held now : List ℕ) (old mid new : Option (List ℕ)) → passed ≡ length (joined chunks) → All IsChunk chunks → before held old ≡ before (flat_map print_chunk chunks) (before now mid) → AsksOnlyAsNeeded (HasNoChunked the_limits) held old mid → AsksOnlyAsNeeded (HasNoLine passed the_limits) now mid new → AsksOnlyAsNeeded (HasNoChunked the_limits) held old new
asks_line chunks passed held now old mid new count valid taken =
    asks_after (HasNoChunked the_limits) (HasNoLine passed the_limits) (HasNoChunked the_limits) (flat_map print_chunk chunks) held now old mid new taken (λ bytes none. none)
    (λ rest none. none_goes the_limits chunks rest valid (goes_on the_limits chunks rest (subst (λ (n : ℕ). HasNoLine n the_limits rest) count none)))

-- what follows a line
pub asks_next : (P : List ℕ → Type 0) (chunks : List Chunk) (line : ChunkLine) (held now next : List ℕ) (old mid left new : Option (List ℕ)) → All IsChunk chunks → before held old ≡ before (flat_map print_chunk chunks) (before now mid) → before now mid ≡ before (print_chunk_line line) (before next left) → ((rest : List ℕ) → P rest → ¬ (Goes the_limits chunks (print_chunk_line line ++ rest))) → AsksOnlyAsNeeded (HasNoChunked the_limits) held old left → AsksOnlyAsNeeded P next left new → AsksOnlyAsNeeded (HasNoChunked the_limits) held old new
asks_next P chunks line held now next old mid left new valid taken line_taken none =
    asks_after (HasNoChunked the_limits) P (HasNoChunked the_limits) (flat_map print_chunk chunks ++ print_chunk_line line) held next old left new
    (taken ∙ ap (λ (t : Option (List ℕ)). before (flat_map print_chunk chunks) t) line_taken ∙ before_append (flat_map print_chunk chunks) (print_chunk_line line) (before next left))
    (λ bytes not. not)
    (λ rest not. subst (HasNoChunked the_limits) (sym (append_assoc (flat_map print_chunk chunks) (print_chunk_line line) rest)) (none_goes the_limits chunks (print_chunk_line line ++ rest) valid (none rest not)))

-- ---- what has been taken

pub chunked : (chunks : List Chunk) (bytes : List ℕ) (start now mid end : Option (List ℕ)) (line : TakesLine now mid 0) (trailers : TakesTrailers mid end) → All IsChunk chunks → All (IsShortChunk the_limits) chunks → bytes ≡ joined chunks → length bytes ≤ MAX_BODY → start ≡ before (flat_map print_chunk chunks) now → TakesChunked bytes start end
unfolding print_chunked
chunked chunks bytes start now mid end line trailers valid short joins within taken =
    let body : ChunkedBody = record { chunks = chunks; last = line.line; trailers = trailers.fields; end = trailers.last } in record {
      body = body;
      valid = record { chunks = valid; last = line.valid; none = sym line.says; trailers = trailers.valid };
      small = record { lines = short; last = line.short; trailers = trailers.small; bytes = omega (arith, ap length joins) };
      joins = joins;
      taken =
          taken
          ∙ ap (λ (t : Option (List ℕ)). before (flat_map print_chunk chunks) t) (line.taken ∙ ap (λ (t : Option (List ℕ)). before (print_chunk_line line.line) t) trailers.taken ∙ before_append (print_chunk_line line.line) (print_section trailers.fields trailers.last) end)
          ∙ before_append (flat_map print_chunk chunks) (print_end_of_chunks body) end;
    }

pub chunk_taken : (chunks : List Chunk) (line : ChunkLine) (piece : List ℕ) (start now mid end : Option (List ℕ)) → start ≡ before (flat_map print_chunk chunks) now → now ≡ before (print_chunk_line line) mid → mid ≡ before (piece ++ 13 ∷ 10 ∷ []) end → start ≡ before (flat_map print_chunk (chunks ++ made line piece ∷ [])) end
chunk_taken chunks line piece start now mid end taken line_taken piece_taken =
    taken
    ∙ ap (λ (t : Option (List ℕ)). before (flat_map print_chunk chunks) t) (line_taken ∙ ap (λ (t : Option (List ℕ)). before (print_chunk_line line) t) piece_taken ∙ before_append (print_chunk_line line) (piece ++ 13 ∷ 10 ∷ []) end)
    ∙ before_append (flat_map print_chunk chunks) (print_chunk (made line piece)) end
    ∙ ap (λ (l : List ℕ). before l end) (flat_map_more print_chunk [] chunks (made line piece))

pub chunk_joined : (chunks : List Chunk) (line : ChunkLine) (bytes more piece : List ℕ) → bytes ≡ joined chunks → more ≡ bytes ++ piece → more ≡ joined (chunks ++ made line piece ∷ [])
chunk_joined chunks line bytes more piece joins held = held ∙ ap (λ (l : List ℕ). l ++ piece) joins ∙ flat_map_more (λ (c : Chunk). c.bytes) [] chunks (made line piece)

-- a stream begins with one body in chunks at most
pub chunked_text_unique : (a b : ChunkedBody) (r q : List ℕ) → IsChunked a → IsChunked b → print_chunked a ++ r ≡ print_chunked b ++ q → (joined a.chunks ≡ joined b.chunks) × (r ≡ q)
unfolding print_chunked
chunked_text_unique a b r q valid_a valid_b same = go skipped.0 skipped.1 skipped.2
  where
    skipped : (es : List Chunk) × (b.chunks ≡ a.chunks ++ es) × (print_end_of_chunks a ++ r ≡ left_text es b q)
    skipped = chunks_skip a.chunks b.chunks b (print_end_of_chunks a ++ r) q valid_a.chunks valid_b.chunks valid_b.last valid_b.none (sym (append_assoc (flat_map print_chunk a.chunks) (print_end_of_chunks a) r) ∙ same)

    go : (es : List Chunk) → b.chunks ≡ a.chunks ++ es → print_end_of_chunks a ++ r ≡ left_text es b q → (joined a.chunks ≡ joined b.chunks) × (r ≡ q)
    go [] parts left =
        let lines = same_text a.last b.last _ _ valid_a.last valid_b.last (sym (no_chunk a r) ∙ left ∙ no_chunk b q) in
        let sections = section_unique (print_section a.trailers a.end ++ r) a.trailers b.trailers a.end b.end r q (valid_a.trailers, refl) (valid_b.trailers, lines.1) in
        (ap joined (sym (append-nil a.chunks) ∙ sym parts), sections.2)
    go (d ∷ ds) parts left =
        let first : IsChunk d = All-head IsChunk d ds (all_behind IsChunk a.chunks (d ∷ ds) (subst (All IsChunk) parts valid_b.chunks)) in
        let lines = same_text a.last d.line _ _ valid_a.last first.line (sym (no_chunk a r) ∙ left ∙ next_chunk d ds b q) in
        absurd (omega (arith, ap chunk_size lines.0, valid_a.none, first.size, first.some))
