-- Lemmas on trailers, whose lines come one by one.
use Rattle.std.proofs.Common.{◌≡◌, ◌≢◌, ℕ, ◌+◌, ◌<◌, ◌≤◌, true, false, Result, Ok, Err, List, [], ◌∷◌, ◌++◌, length, take, drop, Option, ◌⊎◌, inl, inr, refl, sym, ◌∙◌, ap, subst, arith, append_assoc, append-nil, length-append}
use Rattle.std.specs.Prelude.{All, IsTrue, is_ok}
use Rattle.std.specs.List.{flat_map}
use Rattle.std.proofs.lemmas.Bool.{false≢true, or_parts, eqb-false}
use Rattle.std.proofs.lemmas.List.{append_cancel_right, take-append-drop, flat_map_more, length-take-le}
use Rattle.std.proofs.lemmas.List.Concat.{flat_map-append}
use Rattle.std.proofs.lemmas.List.Elements.{All-nil, All-cons, All-append, All-head, All-tail, All-weaker}
use Rattle.as4_flow.specs.Flow.{before}
use Rattle.as4_flow.proofs.FlowLemmas.{before_append}
use Rattle.httparse.specs.declared.Error.{Error}
use Rattle.httparse.specs.declared.Error.TheVariants.{HeaderName, HeaderValue, NewLine, Status, Token, TooManyHeaders, Version}
use Rattle.httparse.specs.declared.Status.{Status as Parsed}
use Rattle.httparse.specs.Grammar.{LineEnd, crlf, lf, print_end, Field, print_field, IsField, print_section, ReadsSection, HasNoSection, NeverHasSection, MayBecomeSection, AllPass, IsToken, is_token_byte, is_value_byte}
use Rattle.httparse.specs.Outcome.{IfComplete, OnPartial, OnInvalid, OnTooManyHeaders}
use Rattle.httparse.specs.Spans.{SectionExceeds, IsSectionOf}
use Rattle.httparse.specs.declared.spans.HeaderSpan.{HeaderSpan}
use Rattle.httparse.specs.declared.Status.TheVariants.{Complete, Partial}
use Rattle.httparse.proofs.PieceLemmas.{token_is_no_newline, colon_ends_token, Section_skip}
use Rattle.as4_http.specs.declared.limits.TheConstants.{MAX_TRAILERS}
use Rattle.as4_http.proofs.AskedLemmas.{asks_after}
use Rattle.as4_http.proofs.SplitLemmas.{split, all_front}
use Rattle.as4_http.specs.Asked.{AsksOnlyAsNeeded}
use Rattle.as4_http.specs.Limits.{Limits, the_limits}
use Rattle.as4_http.specs.Passed.{Shows, GoesOver, ReadsTrailers, IsLongTrailers}
use Rattle.as4_http.specs.Refused.{MayBecome, Refuses}
use Rattle.as4_http.specs.declared.refusal.HttpRefusal.{HttpRefusal}
use Rattle.as4_http.specs.declared.refusal.HttpRefusal.TheVariants.{Bad, TooLong}
use Rattle.as4_http.specs.Trailers.{HasNoLf, BeginsWithLine, IsLine, AreTrailers, BeginsNoLine, TakesTrailers, HasNoTrailers, LeavesMissing, MissesOnly}
use Rattle.as4_http.proofs.LineLemmas.{no_lf_none, no_lf_more, no_lf_append, no_lf_front, first_line, no_line, line_longer, line_from, longer_than}

-- ---- a field line and the empty line, up to their LF

abbrev cr_of : LineEnd → List ℕ
cr_of crlf = 13 ∷ []
cr_of lf = []

abbrev field_text : Field → List ℕ
field_text f = f.name ++ 58 ∷ (f.raw ++ cr_of f.end)

no_lf_cr : (end : LineEnd) → HasNoLf (cr_of end)
no_lf_cr crlf = no_lf_more 13 [] (λ (is : 13 ≡ 10). omega arith) no_lf_none
no_lf_cr lf = no_lf_none

end_is : (end : LineEnd) → print_end end ≡ cr_of end ++ 10 ∷ []
end_is crlf = refl
end_is lf = refl

field_is : (f : Field) → print_field f ≡ field_text f ++ 10 ∷ []
field_is f = ap (λ (l : List ℕ). f.name ++ 58 ∷ f.raw ++ l) (end_is f.end) ∙ simp append_assoc

not_lf_token : (b : ℕ) → is_token_byte b ≡ true → b ≢ 10
not_lf_token b token = eqb-false b 10 (or_parts _ _ (token_is_no_newline b token)).1

not_lf_value : (b : ℕ) → is_value_byte b ≡ true → b ≢ 10
not_lf_value b value is = false≢true (subst (λ (v : ℕ). is_value_byte v ≡ true) is value)

no_lf_field : (f : Field) → IsField f → HasNoLf (field_text f)
unfolding HasNoLf
no_lf_field f valid =
    let name : HasNoLf f.name = All-weaker (λ b. is_token_byte b ≡ true) (λ b. b ≢ 10) not_lf_token f.name valid.name.1 in
    let raw : HasNoLf f.raw = All-weaker (λ b. is_value_byte b ≡ true) (λ b. b ≢ 10) not_lf_value f.raw valid.raw in
    no_lf_append f.name (58 ∷ (f.raw ++ cr_of f.end)) name (no_lf_more 58 (f.raw ++ cr_of f.end) (λ (is : 58 ≡ 10). omega arith) (no_lf_append f.raw (cr_of f.end) raw (no_lf_cr f.end)))

-- ---- trailers by their first line

section_first : (g : Field) (hs : List Field) (last : LineEnd) (rest : List ℕ) → print_section (g ∷ hs) last ++ rest ≡ field_text g ++ 10 ∷ (print_section hs last ++ rest)
section_first g hs last rest =
    let grouped : print_section (g ∷ hs) last ++ rest ≡ print_field g ++ (print_section hs last ++ rest) = ap (λ (l : List ℕ). l ++ rest) (append_assoc (print_field g) (flat_map print_field hs) (print_end last)) ∙ append_assoc (print_field g) (print_section hs last) rest in
    grouped ∙ ap (λ (l : List ℕ). l ++ (print_section hs last ++ rest)) (field_is g) ∙ append_assoc (field_text g) (10 ∷ []) (print_section hs last ++ rest)

section_only : (last : LineEnd) (rest : List ℕ) → print_section [] last ++ rest ≡ cr_of last ++ 10 ∷ rest
section_only last rest = ap (λ (l : List ℕ). l ++ rest) (end_is last) ∙ append_assoc (cr_of last) (10 ∷ []) rest

-- the line that trailers begin with is the empty line, which ends them, or their first field line
pub line_of : (text more rest : List ℕ) (gs : List Field) (last : LineEnd) → HasNoLf text → ReadsSection (text ++ 10 ∷ more) gs last rest → ((text ++ 10 ∷ [] ≡ print_end last) × (gs ≡ []) × (more ≡ rest)) ⊎ ((g : Field) × (hs : List Field) × IsField g × (gs ≡ g ∷ hs) × (text ++ 10 ∷ [] ≡ print_field g) × ReadsSection more hs last rest)
line_of text more rest [] last one reads =
    let same = first_line text (cr_of last) more rest one (no_lf_cr last) (reads.1 ∙ section_only last rest) in
    inl (ap (λ (l : List ℕ). l ++ 10 ∷ []) same.0 ∙ sym (end_is last), refl, same.1)
line_of text more rest (g ∷ hs) last one reads =
    let valid : IsField g = All-head IsField g hs reads.0 in
    let same = first_line text (field_text g) more (print_section hs last ++ rest) one (no_lf_field g valid) (reads.1 ∙ section_first g hs last rest) in
    inr (g, hs, valid, refl, ap (λ (l : List ℕ). l ++ 10 ∷ []) same.0 ∙ sym (field_is g), (All-tail IsField g hs reads.0, same.1))

no_section_nil : (hs : List Field) (last : LineEnd) (rest : List ℕ) → ReadsSection [] hs last rest → ⊥
no_section_nil [] last rest reads = no_line [] (cr_of last) rest no_lf_none (reads.1 ∙ section_only last rest)
no_section_nil (g ∷ hs) last rest reads = no_line [] (field_text g) (print_section hs last ++ rest) no_lf_none (reads.1 ∙ section_first g hs last rest)

-- ---- what the parser says of one line

pub line_complete : (line : List ℕ) (fields : List Field) (last : LineEnd) (rest : List ℕ) → IsLine line → ReadsSection line fields last rest → (end : LineEnd) × (line ≡ print_end end)
line_complete line fields last rest one reads =
    elim (line_of one.text [] rest fields last one.one (reads.0, sym one.whole ∙ reads.1)) [
      | inl empty ↦ (last, one.whole ∙ empty.0)
      | inr more ↦ absurd (no_section_nil more.1 last rest more.5)
    ]

pub line_partial : (line : List ℕ) → IsLine line → HasNoSection line → MayBecomeSection line → (field : Field) × IsField field × (line ≡ print_field field)
line_partial line one none may =
    let reads : ReadsSection (one.text ++ 10 ∷ may.0) may.1 may.2 [] = (may.3.0, sym (append_assoc one.text (10 ∷ []) may.0) ∙ ap (λ (l : List ℕ). l ++ may.0) (sym one.whole) ∙ may.3.1) in
    elim (line_of one.text may.0 [] may.1 may.2 one.one reads) [
      | inl empty ↦ absurd (none [] may.2 [] (All-nil IsField, one.whole ∙ empty.0 ∙ sym (append-nil (print_end may.2))))
      | inr more ↦ (more.0, more.2, one.whole ∙ more.4)
    ]

-- one line has no two field lines
line_exceeds : (line : List ℕ) → IsLine line → SectionExceeds 1 line → ⊥
line_exceeds line one over = go over.3 over.4 over.5
  where
    go : (fields : List Field) → ReadsSection (over.0 ++ print_end lf) fields lf [] → 1 < length fields → ⊥
    go [] reads many = omega arith
    go (f ∷ []) reads many = omega arith
    go (f ∷ g ∷ fs) reads many =
        let valid : IsField f = All-head IsField f (g ∷ fs) reads.0 in
        let whole : over.0 ++ 10 ∷ [] ≡ (field_text f ++ 10 ∷ flat_map print_field (g ∷ fs)) ++ 10 ∷ [] = reads.1 ∙ append-nil (print_section (f ∷ g ∷ fs) lf) ∙ ap (λ (l : List ℕ). (l ++ flat_map print_field (g ∷ fs)) ++ 10 ∷ []) (field_is f) ∙ ap (λ (l : List ℕ). l ++ 10 ∷ []) (append_assoc (field_text f) (10 ∷ []) (flat_map print_field (g ∷ fs))) in
        let front : over.0 ≡ field_text f ++ 10 ∷ flat_map print_field (g ∷ fs) = append_cancel_right over.0 _ (10 ∷ []) whole in
        let line_is : one.text ++ 10 ∷ [] ≡ field_text f ++ 10 ∷ (flat_map print_field (g ∷ fs) ++ over.1) = sym one.whole ∙ over.2 ∙ ap (λ (l : List ℕ). l ++ over.1) front ∙ append_assoc (field_text f) (10 ∷ flat_map print_field (g ∷ fs)) over.1 in
        let nothing : [] ≡ flat_map print_field (g ∷ fs) ++ over.1 = (first_line one.text (field_text f) [] _ one.one (no_lf_field f valid) line_is).1 in
        no_line [] (field_text g) (flat_map print_field fs ++ over.1) no_lf_none (nothing ∙ ap (λ (l : List ℕ). (l ++ flat_map print_field fs) ++ over.1) (field_is g) ∙ ap (λ (l : List ℕ). l ++ over.1) (append_assoc (field_text g) (10 ∷ []) (flat_map print_field fs)) ∙ append_assoc (field_text g) (10 ∷ flat_map print_field fs) over.1)

pub line_err : (line : List ℕ) (error : Error) → IsLine line → (error ≢ TooManyHeaders → NeverHasSection line) → (◌≡◌ {A = Result (Parsed (ℕ × ℕ)) Error} (Err error) (Err TooManyHeaders) → SectionExceeds 1 line) → BeginsNoLine line
line_err line TooManyHeaders one never over = absurd (line_exceeds line one (over refl))
line_err line HeaderName one never over = never (λ is. cc)
line_err line HeaderValue one never over = never (λ is. cc)
line_err line NewLine one never over = never (λ is. cc)
line_err line Status one never over = never (λ is. cc)
line_err line Token one never over = never (λ is. cc)
line_err line Version one never over = never (λ is. cc)

-- ---- trailers of which some lines have passed

section_starts : (bytes rest : List ℕ) (hs : List Field) (last : LineEnd) → ReadsSection bytes hs last rest → (n : ℕ) × BeginsWithLine bytes n × (n ≤ length (print_section hs last))
section_starts bytes rest [] last reads = (
  length (cr_of last) + 1,
  line_from bytes (cr_of last) rest (no_lf_cr last) (reads.1 ∙ section_only last rest),
  omega (arith, ap length (end_is last), length-append (cr_of last) (10 ∷ [])),
)
section_starts bytes rest (g ∷ hs) last reads = (
  length (field_text g) + 1,
  line_from bytes (field_text g) (print_section hs last ++ rest) (no_lf_field g (All-head IsField g hs reads.0)) (reads.1 ∙ section_first g hs last rest),
  omega (arith, ap length (field_is g), length-append (field_text g) (10 ∷ []), length-append (print_field g) (flat_map print_field hs), length-append (print_field g ++ flat_map print_field hs) (print_end last)),
)

pub section_more : (fs hs : List Field) (last : LineEnd) → print_section (fs ++ hs) last ≡ flat_map print_field fs ++ print_section hs last
section_more fs hs last = ap (λ (l : List ℕ). l ++ print_end last) (flat_map-append print_field fs hs) ∙ append_assoc (flat_map print_field fs) (flat_map print_field hs) (print_end last)

-- no trailers within what the limit leaves, hence none with those that have passed
pub none_behind : (passed : List Field) (limits : Limits) (now : List ℕ) → All IsField passed → HasNoTrailers (length (flat_map print_field passed)) limits now → HasNoTrailers 0 limits (flat_map print_field passed ++ now)
none_behind passed limits now valid none gs last rest reads =
    let skipped = Section_skip passed gs last (flat_map print_field passed ++ now) now rest (valid, refl) reads in
    let long : length (print_section gs last) ≡ length (flat_map print_field passed) + length (print_section skipped.0 last) =
    ap length (ap (λ (l : List Field). print_section l last) skipped.1 ∙ section_more passed skipped.0 last) ∙ length-append (flat_map print_field passed) (print_section skipped.0 last) in
    omega (arith, none skipped.0 last rest skipped.2, long)

-- a line that begins no trailers
pub none_with : (limits : Limits) (held : List ℕ) (n passed : ℕ) → BeginsNoLine (take n held) → (more : List ℕ) → HasNoTrailers passed limits (held ++ more)
none_with limits held n passed none more gs last rest reads =
    let parts : held ++ more ≡ take n held ++ (drop n held ++ more) = ap (λ (l : List ℕ). l ++ more) (sym (take-append-drop n held)) ∙ append_assoc (take n held) (drop n held) more in
    absurd (none (drop n held ++ more) gs last rest (reads.0, sym parts ∙ reads.1))

-- the empty line after the lines that have passed
pub takes_all : (passed : List Field) (end : LineEnd) (line held : List ℕ) (start left : Option (List ℕ)) (n : ℕ) → All IsField passed → start ≡ before (flat_map print_field passed) (before held left) → line ≡ take n held → line ≡ print_end end → length (flat_map print_field passed) + n ≤ MAX_TRAILERS → n ≤ length held → TakesTrailers start (before (drop n held) left)
takes_all passed end line held start left n valid so_far line_is empty few within =
    let whole : held ≡ print_end end ++ drop n held = sym (take-append-drop n held) ∙ ap (λ (l : List ℕ). l ++ drop n held) (sym line_is ∙ empty) in
    let count : length (print_end end) ≡ n = ap length (sym empty ∙ line_is) ∙ length-take-le n held within in record {
      fields = passed;
      last = end;
      valid = valid;
      small = omega (arith, length-append (flat_map print_field passed) (print_end end));
      taken =
          so_far
          ∙ ap (λ (l : List ℕ). before (flat_map print_field passed) (before l left)) whole
          ∙ ap (λ (t : Option (List ℕ)). before (flat_map print_field passed) t) (sym (before_append (print_end end) (drop n held) left))
          ∙ before_append (flat_map print_field passed) (print_end end) (before (drop n held) left);
    }

fields_more : (passed : List Field) (f : Field) → flat_map print_field (passed ++ f ∷ []) ≡ flat_map print_field passed ++ print_field f
fields_more passed f = sym (flat_map_more print_field [] passed f)

-- one more field line has passed
pub passes_on : (passed : List Field) (f : Field) (line held : List ℕ) (start left : Option (List ℕ)) (n : ℕ) → start ≡ before (flat_map print_field passed) (before held left) → line ≡ take n held → line ≡ print_field f → start ≡ before (flat_map print_field (passed ++ f ∷ [])) (before (drop n held) left)
passes_on passed f line held start left n so_far line_is field =
    let whole : held ≡ print_field f ++ drop n held = sym (take-append-drop n held) ∙ ap (λ (l : List ℕ). l ++ drop n held) (sym line_is ∙ field) in
    so_far
    ∙ ap (λ (l : List ℕ). before (flat_map print_field passed) (before l left)) whole
    ∙ ap (λ (t : Option (List ℕ)). before (flat_map print_field passed) t) (sym (before_append (print_field f) (drop n held) left))
    ∙ before_append (flat_map print_field passed) (print_field f) (before (drop n held) left)
    ∙ ap (λ (l : List ℕ). before l (before (drop n held) left)) (sym (fields_more passed f))

pub passes_count : (passed : List Field) (f : Field) (line held : List ℕ) (n : ℕ) → line ≡ take n held → line ≡ print_field f → n ≤ length held → length (flat_map print_field (passed ++ f ∷ [])) ≡ length (flat_map print_field passed) + n
passes_count passed f line held n line_is field within =
    let count : length (print_field f) ≡ n = ap length (sym field ∙ line_is) ∙ length-take-le n held within in
    omega (arith, ap length (fields_more passed f), length-append (flat_map print_field passed) (print_field f))

-- ---- an unended line

-- bytes without an LF begin no section
unended : (line rest : List ℕ) (gs : List Field) (last : LineEnd) → HasNoLf line → ReadsSection line gs last rest → ⊥
unended line rest gs last none reads =
    let first = section_starts line rest gs last reads in
    no_line line first.1.text (drop first.0 line) none first.1.parts

-- bytes without an LF are no trailers
pub none_ended : (limits : Limits) (line : List ℕ) (passed : ℕ) → HasNoLf line → HasNoTrailers passed limits line
none_ended limits line passed none gs last rest reads = absurd (unended line rest gs last none reads)

-- where the parser takes them, they may become trailers
pub unended_may : (line : List ℕ) (headers : List HeaderSpan) (r : Result (Parsed (ℕ × ℕ)) Error) → is_ok r ≡ true → HasNoLf line → IfComplete r (IsSectionOf line 0 headers) → OnPartial r (MayBecomeSection line) → MayBecomeSection line
unended_may line headers (Ok (Complete x)) taken none complete may = absurd (unended line _ complete.0 complete.1 none complete.2.reads)
unended_may line headers (Ok Partial) taken none complete may = may
unended_may line headers (Err e) taken none complete may = absurd (false≢true taken)

-- the parser finds no second field line in it
unended_exceeds : (line : List ℕ) → HasNoLf line → SectionExceeds 1 line → ⊥
unended_exceeds line none over = go over.3 over.4 over.5
  where
    go : (fields : List Field) → ReadsSection (over.0 ++ print_end lf) fields lf [] → 1 < length fields → ⊥
    go [] reads many = omega arith
    go (f ∷ []) reads many = omega arith
    go (f ∷ g ∷ fs) reads many =
        let valid : IsField f = All-head IsField f (g ∷ fs) reads.0 in
        let front : HasNoLf over.0 = no_lf_front over.0 over.1 (subst HasNoLf over.2 none) in
        let nothing : [] ≡ print_section (g ∷ fs) lf ++ [] = (first_line over.0 (field_text f) [] (print_section (g ∷ fs) lf ++ []) front (no_lf_field f valid) (reads.1 ∙ section_first f (g ∷ fs) lf [])).1 in
        no_section_nil (g ∷ fs) lf [] (All-tail IsField f (g ∷ fs) reads.0, nothing)

-- an error of the parser is about its bytes
pub unended_err : (line : List ℕ) (error : Error) → HasNoLf line → (error ≢ TooManyHeaders → NeverHasSection line) → (◌≡◌ {A = Result (Parsed (ℕ × ℕ)) Error} (Err error) (Err TooManyHeaders) → SectionExceeds 1 line) → NeverHasSection line
unended_err line TooManyHeaders none never over = absurd (unended_exceeds line none (over refl))
unended_err line HeaderName none never over = never (λ is. cc)
unended_err line HeaderValue none never over = never (λ is. cc)
unended_err line NewLine none never over = never (λ is. cc)
unended_err line Status none never over = never (λ is. cc)
unended_err line Token none never over = never (λ is. cc)
unended_err line Version none never over = never (λ is. cc)

-- where the parser refuses it, it begins no trailers
pub unended_never : (line : List ℕ) (r : Result (Parsed (ℕ × ℕ)) Error) → is_ok r ≡ false → HasNoLf line → OnInvalid r (NeverHasSection line) → OnTooManyHeaders r (SectionExceeds 1 line) → NeverHasSection line
unended_never line (Ok found) refused none never over = absurd (false≢true (sym refused))
unended_never line (Err error) refused none never over = unended_err line error none never over

-- at least an LF is missing
pub missing_one : (line : List ℕ) → HasNoLf line → LeavesMissing line 1
missing_one line none more gs last rest reads =
    let first = section_starts (line ++ more) rest gs last reads in
    omega (arith, line_longer line more first.0 none first.1, first.2)

-- it is no prefix of the empty line
not_empty : (line more rest : List ℕ) (last : LineEnd) → HasNoLf line → line ≢ [] → line ≢ 13 ∷ [] → line ++ more ≡ cr_of last ++ 10 ∷ rest → ⊥
not_empty [] more rest last none some other is = some refl
not_empty (b ∷ line) more rest lf none some other is = let same : b ≡ 10 = cc in no_line (b ∷ line) [] line none (cc same)
not_empty (b ∷ []) more rest crlf none some other is = let same : b ≡ 13 = cc in other (cc same)
not_empty (b ∷ c ∷ line) more rest crlf none some other is = let same : c ≡ 10 = cc in no_line (b ∷ c ∷ line) (b ∷ []) line none (cc same)

-- a field line and the empty line after it
field_long : (g : Field) (hs : List Field) (last : LineEnd) → length (field_text g) + 1 + length (print_end last) ≤ length (print_section (g ∷ hs) last)
field_long g hs last = omega (arith, ap length (field_is g), length-append (field_text g) (10 ∷ []), length-append (print_field g) (flat_map print_field hs), length-append (print_field g ++ flat_map print_field hs) (print_end last))

end_long : (last : LineEnd) → 1 ≤ length (print_end last)
end_long crlf = omega arith
end_long lf = omega arith

-- where it isn't the empty line, that too
pub missing_two : (line : List ℕ) → HasNoLf line → line ≢ [] → line ≢ 13 ∷ [] → LeavesMissing line 2
missing_two line none some other more [] last rest reads = absurd (not_empty line more rest last none some other (reads.1 ∙ section_only last rest))
missing_two line none some other more (g ∷ hs) last rest reads =
    let longer = line_longer line more (length (field_text g) + 1) none (line_from (line ++ more) (field_text g) (print_section hs last ++ rest) (no_lf_field g (All-head IsField g hs reads.0)) (reads.1 ∙ section_first g hs last rest)) in
    omega (arith, longer, field_long g hs last, end_long last)

-- and where it has no colon, that too
pub missing_three : (line : List ℕ) → HasNoLf line → line ≢ [] → line ≢ 13 ∷ [] → All (λ b. b ≢ 58) line → LeavesMissing line 3
missing_three line none some other colon more [] last rest reads = absurd (not_empty line more rest last none some other (reads.1 ∙ section_only last rest))
missing_three line none some other colon more (g ∷ hs) last rest reads =
    let parts : line ++ more ≡ g.name ++ 58 ∷ ((g.raw ++ cr_of g.end) ++ 10 ∷ (print_section hs last ++ rest)) = reads.1 ∙ section_first g hs last rest ∙ append_assoc g.name (58 ∷ (g.raw ++ cr_of g.end)) (10 ∷ (print_section hs last ++ rest)) in
    omega (arith, longer_than 58 line g.name more _ colon parts, length-append g.name (58 ∷ (g.raw ++ cr_of g.end)), field_long g hs last, end_long last)

-- ---- trailers that are over their limit

-- a right beginning, where each that begins so is over
pub trailers_over : (held line rest : List ℕ) (passed : ℕ) → held ≡ line ++ rest → MayBecomeSection line → ((more : List ℕ) (fields : List Field) (last : LineEnd) (behind : List ℕ) → ReadsSection (line ++ more) fields last behind → MAX_TRAILERS < passed + length (print_section fields last)) → GoesOver ReadsTrailers (IsLongTrailers passed) held
trailers_over held line rest passed parts may over = record {
  front = line;
  rest = rest;
  parts = parts;
  right = (may.0, (may.1, may.2), may.3);
  over = λ more trailers behind reads. over more trailers.0 trailers.1 behind reads;
}

-- bytes without an LF, as many as the limit leaves
pub endless_over : (line : List ℕ) (passed : ℕ) → HasNoLf line → MAX_TRAILERS ≤ passed + length line → (more : List ℕ) (fields : List Field) (last : LineEnd) (behind : List ℕ) → ReadsSection (line ++ more) fields last behind → MAX_TRAILERS < passed + length (print_section fields last)
endless_over line passed none full more fields last behind reads =
    let first = section_starts (line ++ more) behind fields last reads in
    omega (arith, line_longer line more first.0 none first.1, first.2, full)

-- what is refused where the first bytes have none, as many as the limit leaves
pub endless_refuses : (refusal : HttpRefusal) (told left : Option (List ℕ)) (bytes held : List ℕ) (n passed : ℕ) → (refusal ≡ Bad) ⊎ (refusal ≡ TooLong) → (refusal ≡ Bad → NeverHasSection (take n bytes)) → bytes ≡ held → told ≡ before held left → HasNoLf (take n held) → MAX_TRAILERS ≤ passed + length (take n held) → Refuses (HasNoTrailers passed) (MayBecome (AreTrailers passed)) told left refusal
endless_refuses refusal told left bytes held n passed either never same is none full =
    elim either [
      | inl bad ↦ subst (Refuses (HasNoTrailers passed) (MayBecome (AreTrailers passed)) told left) (sym bad) (record {
        read = held;
        taken = is;
        doomed = λ more limits fields last behind reads. absurd (subst (λ (b : List ℕ). NeverHasSection (take n b)) same (never bad) (drop n held ++ more) fields last behind (on more fields last behind reads));
      })
      | inr long ↦ subst (Refuses (HasNoTrailers passed) (MayBecome (AreTrailers passed)) told left) (sym long) (record {
        read = held;
        taken = is;
        doomed = λ more fields last behind reads. endless_over (take n held) passed none full (drop n held ++ more) fields last behind (on more fields last behind reads);
      })
    ]
  where
    on : (more : List ℕ) (fields : List Field) (last : LineEnd) (behind : List ℕ) → ReadsSection (held ++ more) fields last behind → ReadsSection (take n held ++ (drop n held ++ more)) fields last behind
    on more fields last behind reads = (reads.0, sym (append_assoc (take n held) (drop n held) more) ∙ ap (λ (l : List ℕ). l ++ more) (take-append-drop n held) ∙ reads.1)

-- where they are a right beginning, the limit is passed
pub endless_shows : (told left : Option (List ℕ)) (bytes held : List ℕ) (n passed : ℕ) → MayBecomeSection (take n bytes) → bytes ≡ held → told ≡ before held left → HasNoLf (take n held) → MAX_TRAILERS ≤ passed + length (take n held) → Shows (GoesOver ReadsTrailers (IsLongTrailers passed)) told left
endless_shows told left bytes held n passed may same is none full = record {
  read = held;
  taken = is;
  holds = trailers_over held (take n held) (drop n held) passed (sym (take-append-drop n held)) (subst (λ (b : List ℕ). MayBecomeSection (take n b)) same may) (endless_over (take n held) passed none full);
}

-- after field lines that have passed
pub over_behind : (passed : List Field) (n : ℕ) → All IsField passed → length (flat_map print_field passed) ≡ n → (rest : List ℕ) → GoesOver ReadsTrailers (IsLongTrailers n) rest → GoesOver ReadsTrailers (IsLongTrailers 0) (flat_map print_field passed ++ rest)
over_behind passed n valid count rest over = record {
  front = lines ++ over.front;
  rest = over.rest;
  parts = ap (λ (l : List ℕ). lines ++ l) over.parts ∙ sym (append_assoc lines over.front over.rest);
  right = (
    over.right.0,
    (passed ++ over.right.1.0, over.right.1.1),
    (
      All-append IsField passed over.right.1.0 valid over.right.2.0,
      append_assoc lines over.front over.right.0 ∙ ap (λ (l : List ℕ). lines ++ l) over.right.2.1 ∙ sym (append_assoc lines (print_section over.right.1.0 over.right.1.1) []) ∙ ap (λ (l : List ℕ). l ++ []) (sym (section_more passed over.right.1.0 over.right.1.1)),
    ),
  );
  over = λ more trailers behind reads. longer more trailers.0 trailers.1 behind reads;
}
  where
    lines : List ℕ
    lines = flat_map print_field passed

    longer : (more : List ℕ) (fields : List Field) (last : LineEnd) (behind : List ℕ) → ReadsSection ((lines ++ over.front) ++ more) fields last behind → MAX_TRAILERS < 0 + length (print_section fields last)
    longer more fields last behind reads =
        let skipped = Section_skip passed fields last ((lines ++ over.front) ++ more) (over.front ++ more) behind (valid, append_assoc lines over.front more) reads in
        let long : length (print_section fields last) ≡ length lines + length (print_section skipped.0 last) =
        ap length (ap (λ (l : List Field). print_section l last) skipped.1 ∙ section_more passed skipped.0 last) ∙ length-append lines (print_section skipped.0 last) in
        omega (arith, over.over more (skipped.0, last) behind skipped.2, long, count)

-- trailers after field lines that have passed
pub whole_behind : (passed : List Field) (n : ℕ) → All IsField passed → length (flat_map print_field passed) ≡ n → (rest : List ℕ) → AreTrailers n rest → MayBecome (AreTrailers 0) (flat_map print_field passed ++ rest)
whole_behind passed n valid count rest whole = (
  [],
  record {
    fields = passed ++ whole.fields;
    last = whole.last;
    reads = (
      All-append IsField passed whole.fields valid whole.reads.0,
      append-nil (flat_map print_field passed ++ rest) ∙ ap (λ (l : List ℕ). flat_map print_field passed ++ l) (whole.reads.1 ∙ append-nil (print_section whole.fields whole.last)) ∙ sym (section_more passed whole.fields whole.last) ∙ sym (append-nil (print_section (passed ++ whole.fields) whole.last)),
    );
    small = omega (arith, whole.small, count, ap length (append-nil (flat_map print_field passed ++ rest)), length-append (flat_map print_field passed) rest);
  },
)

-- the line that follows field lines that have passed
pub asks_line : (passed : List Field) (n : ℕ) (held now : List ℕ) (old mid new : Option (List ℕ)) → All IsField passed → length (flat_map print_field passed) ≡ n → before held old ≡ before (flat_map print_field passed) (before now mid) → AsksOnlyAsNeeded (HasNoTrailers 0 the_limits) held old mid → AsksOnlyAsNeeded (HasNoTrailers n the_limits) now mid new → AsksOnlyAsNeeded (HasNoTrailers 0 the_limits) held old new
asks_line passed n held now old mid new valid count taken =
    asks_after (HasNoTrailers 0 the_limits) (HasNoTrailers n the_limits) (HasNoTrailers 0 the_limits) (flat_map print_field passed) held now old mid new taken (λ bytes none. none)
    (λ rest none. none_behind passed the_limits rest valid (subst (λ (k : ℕ). HasNoTrailers k the_limits rest) (sym count) none))

-- ---- what is missing of an unended line

abbrev made : List ℕ → List ℕ → LineEnd → Field
made name raw end = record { name = name; raw = raw; end = end }

-- a field line that is ended, and the empty line
one_field : (line more : List ℕ) (f : Field) → IsField f → line ++ more ≡ print_field f ++ print_end lf → MissesOnly line (length more)
one_field line more f valid is = (more, f ∷ [], lf, refl, (All-cons IsField f [] valid (All-nil IsField), is ∙ ap (λ (l : List ℕ). l ++ print_end lf) (sym (append-nil (print_field f))) ∙ sym (append-nil (print_section (f ∷ []) lf))))

-- a prefix of a name, a name and a prefix of a value, and a value with its CR
name_misses : (line : List ℕ) → IsToken line → MissesOnly line 3
name_misses line token = one_field line (58 ∷ 10 ∷ 10 ∷ []) (made line [] lf) (record { name = token; raw = All-nil (λ b. IsTrue (is_value_byte b)) })
    (sym (append_assoc (line ++ 58 ∷ []) (10 ∷ []) (10 ∷ []) ∙ append_assoc line (58 ∷ []) (10 ∷ 10 ∷ [])))

value_misses : (line name raw : List ℕ) → IsToken name → AllPass is_value_byte raw → line ≡ name ++ 58 ∷ raw → MissesOnly line 2
value_misses line name raw token value is = one_field line (10 ∷ 10 ∷ []) (made name raw lf) (record { name = token; raw = value })
    (ap (λ (l : List ℕ). l ++ 10 ∷ 10 ∷ []) is ∙ sym (append_assoc (name ++ 58 ∷ raw) (10 ∷ []) (10 ∷ [])))

cr_misses : (line name raw : List ℕ) → IsToken name → AllPass is_value_byte raw → line ≡ name ++ 58 ∷ (raw ++ 13 ∷ []) → MissesOnly line 2
cr_misses line name raw token value is = one_field line (10 ∷ 10 ∷ []) (made name raw crlf) (record { name = token; raw = value })
    (ap (λ (l : List ℕ). l ++ 10 ∷ 10 ∷ []) (is ∙ sym (append_assoc name (58 ∷ raw) (13 ∷ []))) ∙ append_assoc (name ++ 58 ∷ raw) (13 ∷ []) (10 ∷ 10 ∷ []) ∙ sym (append_assoc (name ++ 58 ∷ raw) (13 ∷ 10 ∷ []) (10 ∷ [])))

-- what is missing of a line: a colon and two line ends, or two line ends after a colon
abbrev Misses : List ℕ → Type 0
Misses line = (All (λ b. b ≢ 58) line × MissesOnly line 3) ⊎ ((name : List ℕ) × (raw : List ℕ) × (line ≡ name ++ 58 ∷ raw) × MissesOnly line 2)

not_colon : (b : ℕ) → is_token_byte b ≡ true → b ≢ 58
not_colon b token is = false≢true (sym colon_ends_token ∙ subst (λ (c : ℕ). is_token_byte c ≡ true) is token)

-- a prefix of a name, of a value, and of a field line
token_front : (name line rest : List ℕ) → IsToken name → line ≢ [] → name ≡ line ++ rest → Misses line
token_front name [] rest token some is = absurd (some refl)
token_front name (b ∷ line) rest token some is =
    let bytes : AllPass is_token_byte (b ∷ line) = all_front (λ c. IsTrue (is_token_byte c)) (b ∷ line) rest (subst (λ (l : List ℕ). AllPass is_token_byte l) is token.1) in
    inl (All-weaker (λ c. is_token_byte c ≡ true) (λ c. c ≢ 58) not_colon (b ∷ line) bytes, name_misses (b ∷ line) (omega arith, bytes))

value_front : (g : Field) (line value e : List ℕ) → IsField g → line ≡ g.name ++ 58 ∷ value → g.raw ++ cr_of g.end ≡ value ++ e → MissesOnly line 2
value_front g line value e valid is parts =
    elim (split g.raw (cr_of g.end) value e parts) [
      | inl within ↦ value_misses line g.name value valid.name (all_front (λ c. IsTrue (is_value_byte c)) value within.0 (subst (λ (l : List ℕ). AllPass is_value_byte l) within.1 valid.raw)) is
      | inr on ↦ go g.end on.0 on.1 on.2
    ]
  where
    go : (end : LineEnd) (h : List ℕ) → value ≡ g.raw ++ h → cr_of end ≡ h ++ e → MissesOnly line 2
    go end [] whole cr = value_misses line g.name g.raw valid.name valid.raw (is ∙ ap (λ (l : List ℕ). g.name ++ 58 ∷ l) (whole ∙ append-nil g.raw))
    go lf (c ∷ h) whole cr = let clash : ◌≡◌ {A = List ℕ} [] (c ∷ (h ++ e)) = cr in absurd (cc)
    go crlf (c ∷ []) whole cr =
        let first : c ≡ 13 = cc in
        cr_misses line g.name g.raw valid.name valid.raw (is ∙ ap (λ (l : List ℕ). g.name ++ 58 ∷ l) whole ∙ ap (λ (b : ℕ). g.name ++ 58 ∷ (g.raw ++ b ∷ [])) first)
    go crlf (c ∷ d ∷ h) whole cr = let clash : ◌≡◌ {A = List ℕ} [] (d ∷ (h ++ e)) = cc in absurd (cc)

field_front : (g : Field) (line e : List ℕ) → IsField g → line ≢ [] → field_text g ≡ line ++ e → Misses line
field_front g line e valid some is =
    elim (split g.name (58 ∷ (g.raw ++ cr_of g.end)) line e is) [
      | inl within ↦ token_front g.name line within.0 valid.name some within.1
      | inr on ↦ go on.0 on.1 on.2
    ]
  where
    go : (f : List ℕ) → line ≡ g.name ++ f → 58 ∷ (g.raw ++ cr_of g.end) ≡ f ++ e → Misses line
    go [] whole parts = token_front g.name line [] valid.name some (sym (append-nil line ∙ whole ∙ append-nil g.name))
    go (c ∷ value) whole parts =
        let colon : c ≡ 58 = cc in
        let rest : g.raw ++ cr_of g.end ≡ value ++ e = cc in
        let line_is : line ≡ g.name ++ 58 ∷ value = whole ∙ ap (λ (b : ℕ). g.name ++ b ∷ value) colon in
        inr (g.name, value, line_is, value_front g line value e valid line_is rest)

-- a line that may become trailers misses one or the other
pub misses : (line : List ℕ) → HasNoLf line → line ≢ [] → line ≢ 13 ∷ [] → MayBecomeSection line → Misses line
misses line none some other may = go may.1 may.3
  where
    ended : (g : Field) → IsField g → (e : List ℕ) → line ≡ field_text g ++ e → (rest : List ℕ) → 10 ∷ rest ≡ e ++ may.0 → Misses line
    ended g valid [] whole rest parts = field_front g line [] valid some (sym (append-nil line ∙ whole ∙ append-nil (field_text g)))
    ended g valid (c ∷ e) whole rest parts = let lf_is : c ≡ 10 = cc in absurd (no_line line (field_text g) e none (whole ∙ ap (λ (b : ℕ). field_text g ++ b ∷ e) lf_is))

    go : (fields : List Field) → ReadsSection (line ++ may.0) fields may.2 [] → Misses line
    go [] reads = absurd (not_empty line may.0 [] may.2 none some other (reads.1 ∙ section_only may.2 []))
    go (g ∷ hs) reads =
        let valid : IsField g = All-head IsField g hs reads.0 in
        elim (split line may.0 (field_text g) (10 ∷ (print_section hs may.2 ++ [])) (reads.1 ∙ section_first g hs may.2 [])) [
          | inr within ↦ field_front g line within.0 valid some within.1
          | inl behind ↦ ended g valid behind.0 behind.1 (print_section hs may.2 ++ []) behind.2
        ]

-- as many bytes as are missing make it trailers
pub enough_one : (line : List ℕ) (end : LineEnd) → line ≡ cr_of end → MissesOnly line 1
enough_one line end is = (10 ∷ [], [], end, refl, (All-nil IsField, ap (λ (l : List ℕ). l ++ 10 ∷ []) is ∙ sym (end_is end) ∙ sym (append-nil (print_end end))))

pub enough_two : (line : List ℕ) → HasNoLf line → line ≢ [] → line ≢ 13 ∷ [] → ¬ (All (λ b. b ≢ 58) line) → MayBecomeSection line → MissesOnly line 2
enough_two line none some other colon may =
    elim (misses line none some other may) [
      | inl name ↦ absurd (colon name.0)
      | inr value ↦ value.3
    ]

pub enough_three : (line : List ℕ) → HasNoLf line → line ≢ [] → line ≢ 13 ∷ [] → All (λ b. b ≢ 58) line → MayBecomeSection line → MissesOnly line 3
enough_three line none some other colon may =
    elim (misses line none some other may) [
      | inl name ↦ name.1
      | inr value ↦ absurd (omega (arith, longer_than 58 line value.0 [] value.1 colon (append-nil line ∙ value.2), ap length value.2, length-append value.0 (58 ∷ value.1)))
    ]

-- the fewest bytes that are missing leave the trailers within the limit
pub may_trailers : (line : List ℕ) (n passed : ℕ) → MissesOnly line n → passed + (length line + n) ≤ MAX_TRAILERS → MayBecome (AreTrailers passed) line
may_trailers line n passed only within = (only.0, record { fields = only.1; last = only.2; reads = only.4; small = omega (arith, length-append line only.0, only.3, within) })
