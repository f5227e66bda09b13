-- The lines of a request's head that have ended.
use Rattle.std.proofs.Common.{◌≡◌, ◌⊎◌, ℕ, suc, ◌+◌, ◌<◌, ◌≤◌, ◌==◌, Bool, true, false, cond, List, [], ◌∷◌, ◌++◌, length, inl, inr, refl, sym, ap, ◌∙◌, subst, arith, append_assoc, codes, IsTrue}
use Rattle.std.specs.List.{count_by, flat_map, list_all, take_while}
use Rattle.std.specs.Prelude.{All}
use Rattle.std.proofs.lemmas.Bool.{ne_eqb}
use Rattle.std.proofs.lemmas.List.{append-nil, append_cancel_right}
use Rattle.std.proofs.lemmas.List.Concat.{flat_map-cons}
use Rattle.std.proofs.lemmas.List.Elements.{All-head, All-tail}
use Rattle.std.proofs.lemmas.List.Folds.{list_all-append}
use Rattle.std.proofs.lemmas.List.Sums.{sum_by-append, sum_by-cons}
use Rattle.byte_forms.specs.Cuts.{skip}
use Rattle.byte_forms.specs.Parted.{Lacks}
use Rattle.byte_forms.proofs.CutLemmas.{Stops, run_whole, run_passes, run_stops, skip_again}
use Rattle.byte_forms.proofs.PartedLemmas.{Lacks_append, Lacks_none, Lacks_more, Lacks_head, Lacks_tail, Lacks_tested}
use Rattle.httparse.specs.Grammar.{AllPass, EndsInTarget, Field, HasNoRequest, IsField, IsRequestHead, IsToken, LineEnd, ReadsRequest, RequestHead, crlf, lf, is_token_byte, is_uri_byte, is_value_byte, print_blank, print_end, print_field, print_request, print_version}
use Rattle.httparse.specs.Spans.{RequestExceeds}
use Rattle.httparse.proofs.GrammarLemmas.{cons-append}
use Rattle.httparse.proofs.PieceLemmas.{Stops_token}
use Rattle.as4_http.proofs.SplitLemmas.{split}
use Rattle.conformance.specs.Exchanges.{ended_lines, is_line_end}

abbrev is_lf : ℕ → Bool
is_lf b = b == 10

-- how many LFs there are
lfs : List ℕ → ℕ
lfs bytes = count_by is_lf bytes

lfs-is : (bytes : List ℕ) → lfs bytes ≡ count_by is_lf bytes
unfolding lfs
lfs-is bytes = refl

lfs-nil : lfs [] ≡ 0
unfolding lfs
lfs-nil = refl

lfs-append : (a b : List ℕ) → lfs (a ++ b) ≡ lfs a + lfs b
unfolding lfs
lfs-append a b = sum_by-append (λ x. cond (is_lf x) 1 0) a b

lfs-lf : (bytes : List ℕ) → lfs (10 ∷ bytes) ≡ 1 + lfs bytes
unfolding lfs
lfs-lf bytes = sum_by-cons (λ x. cond (is_lf x) 1 0) 10 bytes

no_more : (n m : ℕ) → n ≡ 0 + m → n ≡ m
no_more n m is = omega arith

lfs-other : (b : ℕ) (bytes : List ℕ) → (b ≡ 10 → ⊥) → lfs (b ∷ bytes) ≡ lfs bytes
unfolding lfs
lfs-other b bytes other =
    no_more (count_by is_lf (b ∷ bytes)) (count_by is_lf bytes)
    (sum_by-cons (λ x. cond (is_lf x) 1 0) b bytes ∙ ap (λ t. cond t 1 0 + count_by is_lf bytes) (ne_eqb b 10 other))

lfs-lacks : (bytes : List ℕ) → Lacks 10 bytes → lfs bytes ≡ 0
lfs-lacks [] lacks = lfs-nil
lfs-lacks (b ∷ bytes) lacks = lfs-other b bytes (Lacks_head 10 b bytes lacks) ∙ lfs-lacks bytes (Lacks_tail 10 b bytes lacks)

-- a class without LF has none
class_lacks : (test : ℕ → Bool) (bytes : List ℕ) → test 10 ≡ false → AllPass test bytes → Lacks 10 bytes
class_lacks test [] without all = Lacks_none 10
class_lacks test (b ∷ bytes) without all =
    let first : test b ≡ true = All-head (λ v. test v ≡ true) b bytes all in
    Lacks_more 10 b bytes (λ is. let e : true ≡ false = sym first ∙ ap test is ∙ without in absurd cc)
    (class_lacks test bytes without (All-tail (λ v. test v ≡ true) b bytes all))

token_lacks : (bytes : List ℕ) → AllPass is_token_byte bytes → Lacks 10 bytes
unfolding is_token_byte
token_lacks bytes all = class_lacks is_token_byte bytes refl all

lfs-end : (end : LineEnd) → lfs (print_end end) ≡ 1
lfs-end crlf = lfs-other 13 (10 ∷ []) (λ e. omega (arith, e)) ∙ lfs-lf [] ∙ ap (λ n. 1 + n) lfs-nil
lfs-end lf = lfs-lf [] ∙ ap (λ n. 1 + n) lfs-nil

lfs-version : (minor : ℕ) → minor ≤ 1 → lfs (print_version minor) ≡ 0
lfs-version minor small =
    lfs-append (codes "HTTP/1.") ((48 + minor) ∷ [])
    ∙ ap (λ n. n + lfs ((48 + minor) ∷ [])) (lfs-lacks (codes "HTTP/1.") (Lacks_tested 10 (codes "HTTP/1.") refl))
    ∙ no_sum (lfs ((48 + minor) ∷ [])) (lfs-other (48 + minor) [] (λ is. omega (arith, is)) ∙ lfs-nil)
  where
    no_sum : (n : ℕ) → n ≡ 0 → 0 + n ≡ 0
    no_sum n is = omega arith

one_line : (whole name more raw rest end : ℕ) → whole ≡ name + more → name ≡ 0 → more ≡ rest → rest ≡ raw + end → raw ≡ 0 → end ≡ 1 → whole ≡ 1
one_line whole name more raw rest end a b c d e f = omega arith

lfs-field : (f : Field) → IsField f → lfs (print_field f) ≡ 1
lfs-field f is =
    let same : print_field f ≡ f.name ++ 58 ∷ (f.raw ++ print_end f.end) = append_assoc f.name (58 ∷ f.raw) (print_end f.end) in
    one_line (lfs (print_field f)) (lfs f.name) (lfs (58 ∷ (f.raw ++ print_end f.end))) (lfs f.raw) (lfs (f.raw ++ print_end f.end)) (lfs (print_end f.end))
    (ap lfs same ∙ lfs-append f.name (58 ∷ (f.raw ++ print_end f.end)))
    (lfs-lacks f.name (token_lacks f.name is.name.1))
    (lfs-other 58 (f.raw ++ print_end f.end) (λ e. omega (arith, e)))
    (lfs-append f.raw (print_end f.end))
    (lfs-lacks f.raw (class_lacks is_value_byte f.raw refl is.raw))
    (lfs-end f.end)

one_more_line : (whole first others count : ℕ) → whole ≡ first + others → first ≡ 1 → others ≡ count → whole ≡ suc count
one_more_line whole first others count a b c = omega arith

lfs-fields : (fields : List Field) → All IsField fields → lfs (flat_map print_field fields) ≡ length fields
lfs-fields [] all = lfs-nil
lfs-fields (f ∷ fields) all =
    one_more_line (lfs (flat_map print_field (f ∷ fields))) (lfs (print_field f)) (lfs (flat_map print_field fields)) (length fields)
    (ap lfs (flat_map-cons print_field f fields) ∙ lfs-append (print_field f) (flat_map print_field fields))
    (lfs-field f (All-head IsField f fields all))
    (lfs-fields fields (All-tail IsField f fields all))

-- a head without its last LF

abbrev cr_of : LineEnd → List ℕ
cr_of crlf = 13 ∷ []
cr_of lf = []

print_end-last : (end : LineEnd) → print_end end ≡ cr_of end ++ 10 ∷ []
print_end-last crlf = refl
print_end-last lf = refl

lfs-cr : (end : LineEnd) → lfs (cr_of end) ≡ 0
lfs-cr crlf = lfs-other 13 [] (λ e. omega (arith, e)) ∙ lfs-nil
lfs-cr lf = lfs-nil

abbrev line_of : RequestHead → List ℕ
line_of h = h.method ++ 32 ∷ (h.target ++ 32 ∷ (print_version h.minor ++ (print_end h.line_end ++ (flat_map print_field h.fields ++ cr_of h.last))))

abbrev front_of : RequestHead → List ℕ
front_of h = print_blank h.blank ++ line_of h

regroup : (a b c d e f g : List ℕ)
    → a ++ b ++ 32 ∷ c ++ 32 ∷ d ++ e ++ (f ++ (g ++ 10 ∷ [])) ≡ (a ++ (b ++ 32 ∷ (c ++ 32 ∷ (d ++ (e ++ (f ++ g)))))) ++ 10 ∷ []
regroup a b c d e f g = simp (append_assoc, cons-append)

head_front : (h : RequestHead) → print_request h ≡ front_of h ++ 10 ∷ []
unfolding print_request
head_front h =
    ap (λ (end : List ℕ). print_blank h.blank ++ h.method ++ 32 ∷ h.target ++ 32 ∷ print_version h.minor ++ print_end h.line_end ++ (flat_map print_field h.fields ++ end))
    (print_end-last h.last)
    ∙ regroup (print_blank h.blank) h.method h.target (print_version h.minor) (print_end h.line_end) (flat_map print_field h.fields) (cr_of h.last)

all_lines : (whole method past_method target past_target version past_version end past_end fields cr n : ℕ)
    → whole ≡ method + past_method → method ≡ 0 → past_method ≡ target + past_target → target ≡ 0 → past_target ≡ version + past_version → version ≡ 0
    → past_version ≡ end + past_end → end ≡ 1 → past_end ≡ fields + cr → fields ≡ n → cr ≡ 0 → whole ≡ n + 1
all_lines whole method past_method target past_target version past_version end past_end fields cr n a b c d e f g h i j k = omega arith

lfs-line : (h : RequestHead) → IsRequestHead h → lfs (line_of h) ≡ length h.fields + 1
lfs-line h is =
    let fields : List ℕ = flat_map print_field h.fields ++ cr_of h.last in
    let lines : List ℕ = print_end h.line_end ++ fields in
    let version : List ℕ = print_version h.minor ++ lines in
    let target : List ℕ = h.target ++ 32 ∷ version in
    all_lines (lfs (line_of h)) (lfs h.method) (lfs (32 ∷ target)) (lfs h.target) (lfs (32 ∷ version)) (lfs (print_version h.minor)) (lfs lines)
    (lfs (print_end h.line_end)) (lfs fields) (lfs (flat_map print_field h.fields)) (lfs (cr_of h.last)) (length h.fields)
    (lfs-append h.method (32 ∷ target))
    (lfs-lacks h.method (token_lacks h.method is.method.1))
    (lfs-other 32 target (λ e. omega (arith, e)) ∙ lfs-append h.target (32 ∷ version))
    (lfs-lacks h.target (class_lacks is_uri_byte h.target refl is.target.1))
    (lfs-other 32 version (λ e. omega (arith, e)) ∙ lfs-append (print_version h.minor) lines)
    (lfs-version h.minor is.minor)
    (lfs-append (print_end h.line_end) fields)
    (lfs-end h.line_end)
    (lfs-append (flat_map print_field h.fields) (cr_of h.last))
    (lfs-fields h.fields is.fields)
    (lfs-cr h.last)

-- where a head stands, its lines have ended

ends_all : (blank : List LineEnd) → IsTrue (list_all is_line_end (print_blank blank))
ends_all [] = refl
ends_all (crlf ∷ blank) =
    ap (λ (l : List ℕ). list_all is_line_end l) (flat_map-cons print_end crlf blank)
    ∙ list_all-append is_line_end (print_end crlf) (print_blank blank) ∙ ends_all blank
ends_all (lf ∷ blank) =
    ap (λ (l : List ℕ). list_all is_line_end l) (flat_map-cons print_end lf blank)
    ∙ list_all-append is_line_end (print_end lf) (print_blank blank) ∙ ends_all blank

token_stops : (word rest : List ℕ) → IsToken word → Stops is_line_end (word ++ rest)
token_stops [] rest is = absurd (omega (arith, is.0))
token_stops (b ∷ word) rest is = Stops_token (b ∷ word) rest is.0 is.1

-- the empty lines before a token are left aside
skip_blank : (blank : List LineEnd) (word rest : List ℕ) → IsToken word
    → skip is_line_end (print_blank blank ++ (word ++ rest)) ≡ word ++ rest
skip_blank blank word rest is = skip_again is_line_end (print_blank blank) (word ++ rest) (ends_all blank) (token_stops word rest is)

ended-is : (bytes : List ℕ) → ended_lines bytes ≡ lfs (skip is_line_end bytes)
ended-is bytes = sym (lfs-is (skip is_line_end bytes))

ended_front : (h : RequestHead) → IsRequestHead h → ended_lines (front_of h) ≡ length h.fields + 1
ended_front h is =
    ended-is (front_of h)
    ∙ ap lfs (skip_blank h.blank h.method _ is.method)
    ∙ lfs-line h is

at_most_sum : (n a b : ℕ) → n ≡ a + b → a ≤ n
at_most_sum n a b is = omega arith

-- more bytes end no fewer lines
more_from : (front rest more : List ℕ) → IsTrue (list_all is_line_end front) → Stops is_line_end rest
    → lfs (skip is_line_end (front ++ rest)) ≤ lfs (skip is_line_end ((front ++ rest) ++ more))
more_from front [] more all stops =
    let none : lfs (skip is_line_end (front ++ [])) ≡ 0 = ap lfs (skip_again is_line_end front [] all tt) ∙ lfs-nil in
    omega (arith, none)
more_from front (b ∷ rest) more all stops =
    let here : skip is_line_end (front ++ b ∷ rest) ≡ b ∷ rest = skip_again is_line_end front (b ∷ rest) all stops in
    let there : skip is_line_end ((front ++ b ∷ rest) ++ more) ≡ (b ∷ rest) ++ more =
    ap (skip is_line_end) (append_assoc front (b ∷ rest) more) ∙ skip_again is_line_end front ((b ∷ rest) ++ more) all stops in
    at_most_sum (lfs (skip is_line_end ((front ++ b ∷ rest) ++ more))) (lfs (skip is_line_end (front ++ b ∷ rest))) (lfs more)
    (ap lfs there ∙ lfs-append (b ∷ rest) more ∙ ap (λ n. n + lfs more) (ap lfs (sym here)))

pub ended_more : (bytes more : List ℕ) → ended_lines bytes ≤ ended_lines (bytes ++ more)
ended_more bytes more =
    let whole = run_whole is_line_end bytes in
    let from = more_from (take_while is_line_end bytes) (skip is_line_end bytes) more (run_passes is_line_end bytes) (run_stops is_line_end bytes) in
    let at : lfs (skip is_line_end bytes) ≤ lfs (skip is_line_end (bytes ++ more)) =
    subst (λ (l : List ℕ). lfs (skip is_line_end l) ≤ lfs (skip is_line_end (l ++ more))) (sym whole) from in
    subst (λ n. n ≤ ended_lines (bytes ++ more)) (sym (ended-is bytes)) (subst (λ n. lfs (skip is_line_end bytes) ≤ n) (sym (ended-is (bytes ++ more))) at)

le_chain : (n fields ended later : ℕ) → n < fields → ended ≡ fields + 1 → ended ≤ later → n + 1 < later
le_chain n fields ended later a b c = omega arith

-- a head that has more fields than there is room for
pub exceeds_ended : (room : ℕ) (bytes : List ℕ) → RequestExceeds room bytes → room + 1 < ended_lines bytes
exceeds_ended room bytes over =
    let front : List ℕ = over.0 in
    let h : RequestHead = over.3 in
    let same : front ++ 10 ∷ [] ≡ front_of h ++ 10 ∷ [] = over.4.1 ∙ append-nil (print_request h) ∙ head_front h in
    let is : front ≡ front_of h = append_cancel_right front (front_of h) (10 ∷ []) same in
    le_chain room (length h.fields) (ended_lines front) (ended_lines bytes) over.5 (ap ended_lines is ∙ ended_front h over.4.0)
    (subst (λ (l : List ℕ). ended_lines front ≤ ended_lines l) (sym over.2) (ended_more front over.1))

one_at_least : (n ended later : ℕ) → ended ≡ n + 1 → ended ≤ later → 1 ≤ later
one_at_least n ended later a b = omega arith

-- a whole head has ended a line at least
pub whole_ended : (bytes : List ℕ) (h : RequestHead) (rest : List ℕ) → ReadsRequest bytes h rest → 1 ≤ ended_lines bytes
whole_ended bytes h rest reads =
    let parts : bytes ≡ front_of h ++ (10 ∷ rest) = reads.1 ∙ ap (λ (l : List ℕ). l ++ rest) (head_front h) ∙ append_assoc (front_of h) (10 ∷ []) rest in
    one_at_least (length h.fields) (ended_lines (front_of h)) (ended_lines bytes) (ended_front h reads.0)
    (subst (λ (l : List ℕ). ended_lines (front_of h) ≤ ended_lines l) (sym parts) (ended_more (front_of h) (10 ∷ rest)))

-- a target that hasn't ended has ended none
pub target_ended : (bytes : List ℕ) → EndsInTarget bytes → ended_lines bytes ≡ 0
target_ended bytes ends =
    let method : List ℕ = ends.1 in
    let target : List ℕ = ends.2 in
    let parts : bytes ≡ print_blank ends.0 ++ (method ++ 32 ∷ target) = ends.5 ∙ append_assoc (print_blank ends.0) method (32 ∷ target) in
    ended-is bytes
    ∙ ap (λ (l : List ℕ). lfs (skip is_line_end l)) parts
    ∙ ap lfs (skip_blank ends.0 method (32 ∷ target) ends.3)
    ∙ lfs-lacks (method ++ 32 ∷ target)
    (Lacks_append 10 method (32 ∷ target) (token_lacks method ends.3.1) (Lacks_more 10 32 target (λ e. omega (arith, e)) (class_lacks is_uri_byte target refl ends.4)))

-- bytes without a head that more bytes make begin with one
pub unended_ended : (bytes more : List ℕ) (h : RequestHead) (behind : List ℕ) → HasNoRequest bytes → ReadsRequest (bytes ++ more) h behind
    → ended_lines bytes ≤ length h.fields + 1
unended_ended bytes more h behind none reads =
    elim (split bytes more (print_request h) behind reads.1) [
      | inl longer ↦ absurd (none h longer.0 (reads.0, longer.1))
      | inr shorter ↦ within_front bytes shorter.0 h reads.0 none shorter.1
    ]
  where
    no_longer : (n m k : ℕ) → n ≤ m → m ≡ k → n ≤ k
    no_longer n m k a b = omega arith

    nothing : (e rest : List ℕ) → 10 ∷ [] ≡ e ++ rest → (e ≡ []) ⊎ (e ≡ 10 ∷ [])
    nothing [] rest same = inl refl
    nothing (x ∷ e) rest same =
        let first : 10 ≡ x = cc in
        let others : [] ≡ e ++ rest = cc in
        inr (nil_front x e rest first others)
      where
        nil_front : (x : ℕ) (e rest : List ℕ) → 10 ≡ x → [] ≡ e ++ rest → x ∷ e ≡ 10 ∷ []
        nil_front x [] rest first others = ap (λ n. n ∷ []) (sym first)
        nil_front x (y ∷ e) rest first others = absurd cc

    within_front : (bytes e : List ℕ) (h : RequestHead) → IsRequestHead h → HasNoRequest bytes → print_request h ≡ bytes ++ e → ended_lines bytes ≤ length h.fields + 1
    within_front bytes e h is none same =
        elim (split (front_of h) (10 ∷ []) bytes e (sym (head_front h) ∙ same)) [
          | inl longer ↦
              no_longer (ended_lines bytes) (ended_lines (front_of h)) (length h.fields + 1)
              (subst (λ (l : List ℕ). ended_lines bytes ≤ ended_lines l) (sym longer.1) (ended_more bytes longer.0)) (ended_front h is)
          | inr shorter ↦ elim (nothing shorter.0 e shorter.2) [
            | inl empty ↦
                let front : bytes ≡ front_of h = shorter.1 ∙ ap (λ (l : List ℕ). front_of h ++ l) empty ∙ append-nil (front_of h) in
                no_longer (ended_lines bytes) (ended_lines bytes) (length h.fields + 1) (omega arith) (ap ended_lines front ∙ ended_front h is)
            | inr all ↦
                let whole : bytes ≡ print_request h ++ [] = shorter.1 ∙ ap (λ (l : List ℕ). front_of h ++ l) all ∙ sym (head_front h) ∙ sym (append-nil (print_request h)) in
                absurd (none h [] (is, whole))
          ]
        ]
