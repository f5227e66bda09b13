-- Whether a stream that begins with no request is cut.
use Rattle.std.proofs.Common.{◌≡◌, ℕ, ◌+◌, ◌<◌, ◌≤◌, Bool, true, false, if◌then◌else◌, IsTrue, List, [], ◌∷◌, ◌++◌, length, Option, None, Some, Result, Ok, Err, IfOk, codes, inl, inr, refl, sym, ap, ◌∙◌, subst, arith, append_assoc, length-append}
use Rattle.std.specs.Prelude.{IfSome, IsNone, option_map}
use Rattle.std.specs.List.{list_all}
use Rattle.std.proofs.lemmas.List.{append-nil, append_cancel_left}
use Rattle.std.proofs.lemmas.List.Concat.{flat_map-append, flat_map-cons}
use Rattle.std.proofs.lemmas.List.Elements.{All-head, All-tail}
use Rattle.std.proofs.lemmas.List.Sums.{AllPass-from_list_all, list_all-from_AllPass}
use Rattle.as4_flow.specs.Flow.{before}
use Rattle.byte_forms.specs.Cuts.{strip_prefix}
use Rattle.byte_forms.specs.Parted.{Lacks, parted}
use Rattle.byte_forms.proofs.CutLemmas.{strip_prefix_again, strip_prefix_takes}
use Rattle.byte_forms.proofs.PartedLemmas.{Lacks_more, Lacks_none, Lacks_unparted, one_cut}
use Rattle.byte_forms.proofs.OnceLemmas.{first_byte}
use Rattle.httparse.specs.Grammar.{AllPass, EndsInTarget, HasNoRequest, IsToken, LineEnd, ReadsRequest, crlf, lf, is_token_byte, is_uri_byte, print_blank, print_end}
use Rattle.httparse.proofs.GrammarLemmas.{ReadsRequest-append}
use Rattle.as4_http.specs.Limits.{the_limits}
use Rattle.as4_http.specs.Passed.{Shows, PassesRequest, long_head, many_fields, long_body}
use Rattle.as4_http.specs.Refused.{Dooms}
use Rattle.as4_http.specs.RequestStarts.{DecidesRequestHead}
use Rattle.as4_http.specs.Requests.{HasNoRequest as BeginsNone, IsCutRequest, IsNoRequest}
use Rattle.conformance.specs.Exchanges.{EndsInHead, IsCut, IsStreamLine, ended_lines}
use Rattle.conformance.specs.Heads.{EndsFewLines, HasHead, HasNoEnd, IsTargetLine}
use Rattle.conformance.proofs.HeadLemmas.{ended_more, exceeds_ended, target_ended, whole_ended}

-- where the reader found the stream cut

pub cut_by_lines : (stream : List ℕ) → IsCutRequest stream → ended_lines stream ≤ the_limits.fields + 1 → IsCut stream
cut_by_lines stream (inl head) few = inl (record { head = head; fields = few })
cut_by_lines stream (inr body) few = inr body

pub cut_by_head : (stream : List ℕ) → IsCutRequest stream → HasHead stream → IsCut stream
cut_by_head stream (inl head) whole = absurd (head.none whole.0 whole.1 whole.2)
cut_by_head stream (inr body) whole = inr body

pub uncut_by_lines : (stream : List ℕ) → the_limits.fields + 1 < ended_lines stream → EndsFewLines stream → ¬ IsCut stream
uncut_by_lines stream many few (inl head) = omega (arith, many, head.fields)
uncut_by_lines stream many few (inr body) =
    let begins = body.1.1.1 in
    let ended = few body.0 begins.head begins.behind begins.reads begins.small.fields in
    omega (arith, many, ended, begins.small.fields)

-- where the reader refused it

read_on : (told left : Option (List ℕ)) (stream read : List ℕ) → told ≡ Some stream → told ≡ before read left → (rest : List ℕ) × (stream ≡ read ++ rest)
read_on told None stream read is taken = let e : Some stream ≡ None = sym is ∙ taken in absurd cc
read_on told (Some rest) stream read is taken =
    let e : Some stream ≡ Some (read ++ rest) = sym is ∙ taken in (rest, cc)

whole_on : (stream read rest : List ℕ) → stream ≡ read ++ rest → HasHead read → HasHead stream
whole_on stream read rest parts whole =
    (whole.0, whole.1 ++ rest, subst (λ (l : List ℕ). ReadsRequest l whole.0 (whole.1 ++ rest)) (sym parts) (ReadsRequest-append read whole.0 whole.1 rest whole.2))

-- what holds of all bytes that go on from those that were read
goes_on : (P : List ℕ → Type 0) (stream read rest more : List ℕ) → stream ≡ read ++ rest → ((more : List ℕ) → P (read ++ more)) → P (stream ++ more)
goes_on P stream read rest more parts all =
    let same : stream ++ more ≡ read ++ (rest ++ more) = ap (λ (l : List ℕ). l ++ more) parts ∙ append_assoc read rest more in
    subst P (sym same) (all (rest ++ more))

pub bad_target : (told left : Option (List ℕ)) (stream : List ℕ) → told ≡ Some stream → Dooms IsNoRequest told left → Shows DecidesRequestHead told left
    → IsCut stream → EndsInTarget stream × (length stream ≤ the_limits.head)
bad_target told left stream is dooms decides (inr body) =
    let on = read_on told left stream dooms.read is dooms.taken in
    absurd (goes_on IsNoRequest stream dooms.read on.0 body.0 on.1 dooms.doomed the_limits body.1.0 [] body.1.1)
bad_target told left stream is dooms decides (inl head) =
    let on = read_on told left stream decides.read is decides.taken in
    elim decides.holds [
      | inl whole ↦ let w = whole_on stream decides.read on.0 on.1 whole in absurd (head.head.none w.0 w.1 w.2)
      | inr never ↦ elim head.head.may [
        | inl ends ↦ absurd (goes_on HasNoRequest stream decides.read on.0 ends.0 on.1 never ends.1 [] ends.2)
        | inr target ↦ (target, head.head.few)
      ]
    ]

none_in_target : (stream : List ℕ) → EndsInTarget stream → HasNoRequest stream
none_in_target stream target head rest reads = omega (arith, target_ended stream target, whole_ended stream head rest reads)

pub target_cut : (stream : List ℕ) → EndsInTarget stream → length stream ≤ the_limits.head → IsCut stream
target_cut stream target few =
    inl (record {
      head = record { none = none_in_target stream target; may = inr target; few = few };
      fields = omega (arith, target_ended stream target);
    })

pub too_long_uncut : (told left : Option (List ℕ)) (stream : List ℕ) → told ≡ Some stream → Dooms BeginsNone told left → Shows PassesRequest told left → ¬ IsCut stream
too_long_uncut told left stream is dooms shows (inr body) =
    let on = read_on told left stream dooms.read is dooms.taken in
    goes_on BeginsNone stream dooms.read on.0 body.0 on.1 dooms.doomed body.1.0 [] body.1.1
too_long_uncut told left stream is dooms shows (inl head) =
    let on = read_on told left stream shows.read is shows.taken in
    passed stream shows.read on.0 on.1 head shows.holds
  where
    longer : (front rest behind whole all limit : ℕ) → all ≡ front + rest → whole ≡ all + behind → limit < front → whole ≤ limit → ⊥
    longer front rest behind whole all limit a b c d = omega arith

    passed : (stream read rest : List ℕ) → stream ≡ read ++ rest → EndsInHead stream → PassesRequest read → ⊥
    passed stream read rest parts head (long_head long) =
        longer (length long.front) (length long.rest) (length rest) (length stream) (length read) the_limits.head
        (ap length long.parts ∙ length-append long.front long.rest) (ap length parts ∙ length-append read rest) long.long head.head.few
    passed stream read rest parts head (many_fields many) =
        let more : ended_lines read ≤ ended_lines stream = subst (λ (l : List ℕ). ended_lines read ≤ ended_lines l) (sym parts) (ended_more read rest) in
        omega (arith, exceeds_ended the_limits.fields read many, more, head.fields)
    passed stream read rest parts head (long_body framing behind frames passes) =
        let w = whole_on stream read rest parts (frames.1.head, behind, frames.1.reads) in
        head.head.none w.0 w.1 w.2

-- the line of a stream that begins with no request

pub no_request : (stream line : List ℕ) (is_cut : Bool) → BeginsNone stream → (IsTrue is_cut → IsCut stream) × (IsCut stream → IsTrue is_cut)
    → line ≡ (if is_cut then codes "cut\n" else codes "refused\n") → IsStreamLine stream line
no_request stream line true none is text = inr (inl (none, is.0 refl, text))
no_request stream line false none is text = inr (inr (none, (λ cut. let e : false ≡ true = is.1 cut in absurd cc), text))

-- bytes of a class

pub all_pass_is : (test : ℕ → Bool) (bytes : List ℕ) (all : Bool) → all ≡ list_all test bytes → (IsTrue all → AllPass test bytes) × (AllPass test bytes → IsTrue all)
all_pass_is test bytes all is = (λ yes. AllPass-from_list_all test bytes (sym is ∙ yes), λ pass. is ∙ list_all-from_AllPass test bytes pass)

token_unspaced : (method : List ℕ) → IsToken method → Lacks 32 method
unfolding is_token_byte
token_unspaced method is = class_lacks 32 is_token_byte method refl is.1
  where
    class_lacks : (byte : ℕ) (test : ℕ → Bool) (bytes : List ℕ) → test byte ≡ false → AllPass test bytes → Lacks byte bytes
    class_lacks byte test [] without all = Lacks_none byte
    class_lacks byte test (b ∷ bytes) without all =
        let first : test b ≡ true = All-head (λ v. test v ≡ true) b bytes all in
        Lacks_more byte b bytes (λ is. let e : true ≡ false = sym first ∙ ap test is ∙ without in absurd cc)
        (class_lacks byte test bytes without (All-tail (λ v. test v ≡ true) b bytes all))

-- a line that was cut at its first space
pub cut_line : (line method target : List ℕ) → line ≡ parted 32 method target → Lacks 32 method → IsTargetLine line → IsToken method × AllPass is_uri_byte target
cut_line line method target parts lacks is =
    let same = one_cut 32 method target is.0 is.1 (sym parts ∙ is.4) lacks (token_unspaced is.0 is.2) in
    (subst IsToken (sym same.0) is.2, subst (AllPass is_uri_byte) (sym same.1) is.3)

pub uncut_line : (line : List ℕ) → Lacks 32 line → ¬ IsTargetLine line
uncut_line line lacks is = Lacks_unparted 32 line is.0 is.1 lacks is.4

-- empty lines

same_rest : (a b : List LineEnd) (r q : List ℕ) → print_blank a ++ r ≡ print_blank b ++ q → HasNoEnd r → HasNoEnd q → r ≡ q
same_rest [] [] r q same here there = same
same_rest [] (e ∷ b) r q same here there =
    absurd (here e (print_blank b ++ q) (same ∙ ap (λ (l : List ℕ). l ++ q) (flat_map-cons print_end e b) ∙ append_assoc (print_end e) (print_blank b) q))
same_rest (e ∷ a) [] r q same here there =
    absurd (there e (print_blank a ++ r) (sym same ∙ ap (λ (l : List ℕ). l ++ r) (flat_map-cons print_end e a) ∙ append_assoc (print_end e) (print_blank a) r))
same_rest (e ∷ a) (f ∷ b) r q same here there =
    ends_same e f a b r q
    (sym (ap (λ (l : List ℕ). l ++ r) (flat_map-cons print_end e a) ∙ append_assoc (print_end e) (print_blank a) r)
    ∙ same ∙ ap (λ (l : List ℕ). l ++ q) (flat_map-cons print_end f b) ∙ append_assoc (print_end f) (print_blank b) q)
    (λ others. same_rest a b r q others here there)
  where
    ends_same : (e f : LineEnd) (a b : List LineEnd) (r q : List ℕ) → print_end e ++ (print_blank a ++ r) ≡ print_end f ++ (print_blank b ++ q)
        → (print_blank a ++ r ≡ print_blank b ++ q → r ≡ q) → r ≡ q
    ends_same crlf crlf a b r q same next = next (append_cancel_left (print_end crlf) (print_blank a ++ r) (print_blank b ++ q) same)
    ends_same lf lf a b r q same next = next (append_cancel_left (print_end lf) (print_blank a ++ r) (print_blank b ++ q) same)
    ends_same crlf lf a b r q same next = let e : 13 ≡ 10 = first_byte same in absurd (omega (arith, e))
    ends_same lf crlf a b r q same next = let e : 10 ≡ 13 = first_byte same in absurd (omega (arith, e))

token_no_end : (method rest : List ℕ) → IsToken method → HasNoEnd (method ++ rest)
unfolding is_token_byte
token_no_end [] rest is end more same = omega (arith, is.0)
token_no_end (b ∷ method) rest is end more same = first_no_end b (method ++ rest) (All-head (λ v. is_token_byte v ≡ true) b method is.1) end more same
  where
    first_no_end : (b : ℕ) (rest : List ℕ) → is_token_byte b ≡ true → HasNoEnd (b ∷ rest)
    first_no_end b rest is crlf more same =
        let e : true ≡ false = sym is ∙ ap is_token_byte (first_byte same) in absurd cc
    first_no_end b rest is lf more same =
        let e : true ≡ false = sym is ∙ ap is_token_byte (first_byte same) in absurd cc

pub target_from : (bytes rest : List ℕ) → (blank : List LineEnd) × (bytes ≡ print_blank blank ++ rest) → IsTargetLine rest → EndsInTarget bytes
target_from bytes rest parts line = (
  parts.0,
  line.0,
  line.1,
  line.2,
  line.3,
  parts.1 ∙ ap (λ (l : List ℕ). print_blank parts.0 ++ l) line.4 ∙ sym (append_assoc (print_blank parts.0) line.0 (32 ∷ line.1)),
)

pub target_line : (bytes rest : List ℕ) → (blank : List LineEnd) × (bytes ≡ print_blank blank ++ rest) → HasNoEnd rest → EndsInTarget bytes → IsTargetLine rest
target_line bytes rest parts here ends =
    let same : print_blank parts.0 ++ rest ≡ print_blank ends.0 ++ (ends.1 ++ 32 ∷ ends.2) =
    sym parts.1 ∙ ends.5 ∙ append_assoc (print_blank ends.0) ends.1 (32 ∷ ends.2) in
    (ends.1, ends.2, ends.3, ends.4, same_rest parts.0 ends.0 rest (ends.1 ++ 32 ∷ ends.2) same here (token_no_end ends.1 (32 ∷ ends.2) ends.3))

-- one more empty line
pub blank_more : (whole rest next : List ℕ) → (blank : List LineEnd) × (whole ≡ print_blank blank ++ rest) → (end : LineEnd) × (rest ≡ print_end end ++ next)
    → (blank : List LineEnd) × (whole ≡ print_blank blank ++ next)
blank_more whole rest next so_far end = (
  so_far.0 ++ end.0 ∷ [],
  so_far.1 ∙ ap (λ (l : List ℕ). print_blank so_far.0 ++ l) end.1 ∙ sym (append_assoc (print_blank so_far.0) (print_end end.0) next)
      ∙ ap (λ (l : List ℕ). l ++ next) (sym (flat_map-append print_end so_far.0 (end.0 ∷ []) ∙ ap (λ (l : List ℕ). print_blank so_far.0 ++ l) (flat_map-cons print_end end.0 [] ∙ append-nil (print_end end.0)))),
)

pub end_shortens : (rest next : List ℕ) → (end : LineEnd) × (rest ≡ print_end end ++ next) → length next < length rest
end_shortens rest next (crlf, parts) = omega (arith, ap length parts)
end_shortens rest next (lf, parts) = omega (arith, ap length parts)

-- an end that was stripped off

pub end_stripped : {R : Type 0} (now : R → List ℕ) (answer : Option R) (end : LineEnd) (bytes : List ℕ) → option_map now answer ≡ strip_prefix (print_end end) bytes
    → IfSome answer (λ rest. (e : LineEnd) × (bytes ≡ print_end e ++ now rest))
end_stripped now None end bytes is = tt
end_stripped now (Some rest) end bytes is = (end, strip_prefix_takes (print_end end) bytes (now rest) (sym is))

no_end : {R : Type 0} (now : R → List ℕ) (answer : Option R) (end : LineEnd) (bytes rest : List ℕ) → option_map now answer ≡ strip_prefix (print_end end) bytes
    → IsNone answer → bytes ≡ print_end end ++ rest → ⊥
no_end now None end bytes rest is none parts =
    let e : None ≡ Some rest = is ∙ ap (strip_prefix (print_end end)) parts ∙ strip_prefix_again (print_end end) rest in absurd cc
no_end now (Some x) end bytes rest is none parts = let e : true ≡ false = none in absurd cc

pub neither_end : {R : Type 0} (now : R → List ℕ) (first second : Option R) (bytes : List ℕ) → option_map now first ≡ strip_prefix (print_end lf) bytes
    → option_map now second ≡ strip_prefix (print_end crlf) bytes → IsNone first → IsNone second → HasNoEnd bytes
neither_end now first second bytes one two none nor lf rest parts = no_end now first lf bytes rest one none parts
neither_end now first second bytes one two none nor crlf rest parts = no_end now second crlf bytes rest two nor parts

-- what was answered, told otherwise
pub if_also : {X E : Type 0} (P Q : X → Type 0) (answer : Result X E) → IfOk answer P → ((x : X) → P x → Q x) → IfOk answer Q
if_also P Q (Ok x) p q = q x p
if_also P Q (Err e) p q = tt

-- a stream of which more lines have ended than a head has
pub decides : (stream : List ℕ) (has_head : Bool) → IsCutRequest stream → the_limits.fields + 1 < ended_lines stream → (IsTrue has_head → HasHead stream)
    → (has_head ≡ false → EndsFewLines stream) → (IsTrue has_head → IsCut stream) × (IsCut stream → IsTrue has_head)
decides stream true cut many whole few = (λ t. cut_by_head stream cut (whole t), λ is. refl)
decides stream false cut many whole few = (λ t. cut_by_head stream cut (whole t), λ is. absurd (uncut_by_lines stream many (few refl) is))
