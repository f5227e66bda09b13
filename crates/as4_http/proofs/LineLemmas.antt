-- Lemmas on lines: bytes without an LF, and an LF behind them.
use Rattle.std.proofs.Common.{◌≡◌, ◌≢◌, ℕ, suc, ◌+◌, ◌<◌, ◌≤◌, None, Some, List, [], ◌∷◌, ◌++◌, length, take, drop, get_or, refl, sym, ◌∙◌, ap, subst, arith, append_assoc, length-append, eq-eqb}
use Rattle.std.proofs.lemmas.Bool.{eqb-true, false≢true}
use Rattle.std.proofs.lemmas.List.{get_or-take, get_or_default, length-take, length-take-le, take-append-drop, take-append-le, take_at, drop_at, drop-drop}
use Rattle.std.proofs.Math.Seq.{drop-cons}
use Rattle.std.proofs.lemmas.List.Elements.{All-nil, All-cons, All-head, All-tail, All-append}
use Rattle.std.specs.Prelude.{All, Option, is_some, true, false}
use Rattle.memchr.specs.Find.{IsFirstByte, is_byte}
use Rattle.as4_http.specs.Trailers.{HasNoLf, BeginsWithLine, IsLine}

pub no_lf_none : HasNoLf []
unfolding HasNoLf
no_lf_none = All-nil (λ b. b ≢ 10)

pub no_lf_more : (b : ℕ) (bytes : List ℕ) → b ≢ 10 → HasNoLf bytes → HasNoLf (b ∷ bytes)
unfolding HasNoLf
no_lf_more b bytes other rest = All-cons (λ b. b ≢ 10) b bytes other rest

no_lf_head : (b : ℕ) (bytes : List ℕ) → HasNoLf (b ∷ bytes) → b ≢ 10
unfolding HasNoLf
no_lf_head b bytes none = All-head (λ b. b ≢ 10) b bytes none

no_lf_tail : (b : ℕ) (bytes : List ℕ) → HasNoLf (b ∷ bytes) → HasNoLf bytes
unfolding HasNoLf
no_lf_tail b bytes none = All-tail (λ b. b ≢ 10) b bytes none

pub no_lf_append : (front rest : List ℕ) → HasNoLf front → HasNoLf rest → HasNoLf (front ++ rest)
unfolding HasNoLf
no_lf_append front rest first second = All-append (λ b. b ≢ 10) front rest first second

nowhere : (byte : ℕ) (bytes : List ℕ) → IsFirstByte (is_byte byte) bytes None → All (λ b. b ≢ byte) bytes
nowhere byte bytes none k d short is = none k (omega arith) short (eq-eqb (get_or bytes k 0) byte (get_or_default bytes k 0 d short ∙ is))

pub not_found : (byte : ℕ) (bytes : List ℕ) (found : Option ℕ) → is_some found ≡ false → IsFirstByte (is_byte byte) bytes found → All (λ b. b ≢ byte) bytes
not_found byte bytes None none first = nowhere byte bytes first
not_found byte bytes (Some at) none first = absurd (false≢true (sym none))

pub found_one : (byte : ℕ) (bytes : List ℕ) (found : Option ℕ) → is_some found ≡ true → IsFirstByte (is_byte byte) bytes found → ¬ (All (λ b. b ≢ byte) bytes)
found_one byte bytes None some first none = false≢true some
found_one byte bytes (Some at) some first none = none at 0 first.0.high (eqb-true (get_or bytes at 0) byte first.1)

no_lf_nowhere : (bytes : List ℕ) → IsFirstByte (is_byte 10) bytes None → HasNoLf bytes
unfolding HasNoLf
no_lf_nowhere bytes none = nowhere 10 bytes none

no_lf_before : (bytes : List ℕ) (at : ℕ) → IsFirstByte (is_byte 10) bytes (Some at) → HasNoLf (take at bytes)
unfolding HasNoLf
no_lf_before bytes at found k d short is =
    let early : k < at = omega (arith, length-take at bytes) in
    let within : k < length bytes = omega (arith, length-take at bytes) in
    found.0.before k (omega arith) early (eq-eqb (get_or bytes k 0) 10 (get_or_default bytes k 0 d within ∙ sym (get_or-take at bytes k d early) ∙ is))

-- the first line is known by its LF
pub first_line : (a b x y : List ℕ) → HasNoLf a → HasNoLf b → a ++ 10 ∷ x ≡ b ++ 10 ∷ y → (a ≡ b) × (x ≡ y)
first_line [] [] x y none_a none_b same = (refl, cc)
first_line [] (b ∷ bs) x y none_a none_b same = let lf : b ≡ 10 = cc in absurd (no_lf_head b bs none_b lf)
first_line (a ∷ xs) [] x y none_a none_b same = let lf : a ≡ 10 = cc in absurd (no_lf_head a xs none_a lf)
first_line (a ∷ xs) (b ∷ bs) x y none_a none_b same =
    let first : a ≡ b = cc in
    let others : xs ++ 10 ∷ x ≡ bs ++ 10 ∷ y = cc in
    let rest = first_line xs bs x y (no_lf_tail a xs none_a) (no_lf_tail b bs none_b) others in
    (cc (first, rest.0), rest.1)

-- bytes without an LF have no line
pub no_line : (bytes text rest : List ℕ) → HasNoLf bytes → bytes ≡ text ++ 10 ∷ rest → ⊥
no_line [] [] rest none is = let clash : ◌≡◌ {A = List ℕ} [] (10 ∷ rest) = is in cc
no_line [] (t ∷ text) rest none is = let clash : ◌≡◌ {A = List ℕ} [] (t ∷ (text ++ 10 ∷ rest)) = is in cc
no_line (b ∷ bytes) [] rest none is = let lf : b ≡ 10 = cc in no_lf_head b bytes none lf
no_line (b ∷ bytes) (t ∷ text) rest none is = let others : bytes ≡ text ++ 10 ∷ rest = cc in no_line bytes text rest (no_lf_tail b bytes none) others

-- what ends in a byte isn't shorter than bytes that don't have it
pub longer_than : (byte : ℕ) (bytes text more rest : List ℕ) → All (λ b. b ≢ byte) bytes → bytes ++ more ≡ text ++ byte ∷ rest → length bytes < length text + 1
longer_than byte [] text more rest none is = omega arith
longer_than byte (b ∷ bytes) [] more rest none is = let same : b ≡ byte = cc in absurd (All-head (λ c. c ≢ byte) b bytes none same)
longer_than byte (b ∷ bytes) (t ∷ text) more rest none is = let others : bytes ++ more ≡ text ++ byte ∷ rest = cc in omega (arith, longer_than byte bytes text more rest (All-tail (λ c. c ≢ byte) b bytes none) others)

longer_by : (bytes text more rest : List ℕ) → HasNoLf bytes → bytes ++ more ≡ text ++ 10 ∷ rest → length bytes < length text + 1
unfolding HasNoLf
longer_by bytes text more rest none is = longer_than 10 bytes text more rest none is

pub no_lf_front : (front rest : List ℕ) → HasNoLf (front ++ rest) → HasNoLf front
no_lf_front [] rest none = no_lf_none
no_lf_front (b ∷ front) rest none = no_lf_more b front (no_lf_head b (front ++ rest) none) (no_lf_front front rest (no_lf_tail b (front ++ rest) none))

-- no line is shorter than bytes without an LF
pub line_longer : (bytes more : List ℕ) (n : ℕ) → HasNoLf bytes → BeginsWithLine (bytes ++ more) n → length bytes < n
line_longer bytes more n none line = omega (arith, longer_by bytes line.text more (drop n (bytes ++ more)) none line.parts, line.count)

-- what was searched before, and what is searched now
whole_is : (bytes rest : List ℕ) (scanned : ℕ) → rest ≡ drop scanned bytes → bytes ≡ take scanned bytes ++ rest
whole_is bytes rest scanned is = sym (take-append-drop scanned bytes) ∙ ap (λ (l : List ℕ). take scanned bytes ++ l) (sym is)

parted_at : (bytes : List ℕ) (at : ℕ) → IsFirstByte (is_byte 10) bytes (Some at) → bytes ≡ take at bytes ++ 10 ∷ drop (at + 1) bytes
parted_at bytes at found =
    let within : at < length bytes = found.0.high in
    let here : get_or bytes at 0 ≡ 10 = eqb-true (get_or bytes at 0) 10 found.1 in
    let behind : drop at bytes ≡ get_or bytes at 0 ∷ drop (suc at) bytes = drop-cons bytes at 0 within in
    let next : suc at ≡ at + 1 = omega arith in
    let rest : drop at bytes ≡ 10 ∷ drop (at + 1) bytes = behind ∙ ap (λ (b : ℕ). b ∷ drop (suc at) bytes) here ∙ ap (λ (n : ℕ). 10 ∷ drop n bytes) next in
    sym (take-append-drop at bytes) ∙ ap (λ (l : List ℕ). take at bytes ++ l) rest

pub line_found : (bytes rest : List ℕ) (scanned at : ℕ) → rest ≡ drop scanned bytes → scanned ≤ length bytes → HasNoLf (take scanned bytes) → IsFirstByte (is_byte 10) rest (Some at) → BeginsWithLine bytes (scanned + at + 1)
line_found bytes rest scanned at is within none found =
    let text = take scanned bytes ++ take at rest in
    let high : at < length rest = found.0.high in
    let count : length text ≡ scanned + at = omega (arith, length-append (take scanned bytes) (take at rest), length-take-le scanned bytes within, length-take-le at rest (omega arith)) in
    let parts : bytes ≡ text ++ 10 ∷ drop (at + 1) rest = whole_is bytes rest scanned is ∙ ap (λ (l : List ℕ). take scanned bytes ++ l) (parted_at rest at found) ∙ sym (append_assoc (take scanned bytes) (take at rest) (10 ∷ drop (at + 1) rest)) in
    let behind : drop (at + 1) rest ≡ drop (scanned + at + 1) bytes = ap (λ (l : List ℕ). drop (at + 1) l) is ∙ drop-drop (at + 1) scanned bytes ∙ ap (λ (k : ℕ). drop k bytes) (omega arith) in record {
      text = text;
      one = no_lf_append (take scanned bytes) (take at rest) none (no_lf_before rest at found);
      count = omega arith;
      parts = parts ∙ ap (λ (l : List ℕ). text ++ 10 ∷ l) behind;
    }

pub line_missing : (bytes rest : List ℕ) (scanned : ℕ) → rest ≡ drop scanned bytes → HasNoLf (take scanned bytes) → IsFirstByte (is_byte 10) rest None → HasNoLf bytes
line_missing bytes rest scanned is none found = subst HasNoLf (sym (whole_is bytes rest scanned is)) (no_lf_append (take scanned bytes) rest none (no_lf_nowhere rest found))

-- no LF stands before the end of the first line
pub no_lf_within : (bytes : List ℕ) (n most : ℕ) → BeginsWithLine bytes n → most < n → HasNoLf (take most bytes)
no_lf_within bytes n most line short =
    let front : take most bytes ≡ take most line.text = ap (λ (l : List ℕ). take most l) line.parts ∙ take-append-le most line.text (10 ∷ drop n bytes) (omega (arith, line.count)) in
    subst HasNoLf (sym front) (no_lf_front (take most line.text) (drop most line.text) (subst HasNoLf (sym (take-append-drop most line.text)) line.one))

pub no_lf_take : (bytes : List ℕ) (most : ℕ) → HasNoLf bytes → HasNoLf (take most bytes)
no_lf_take bytes most none = no_lf_front (take most bytes) (drop most bytes) (subst HasNoLf (sym (take-append-drop most bytes)) none)

-- the line at the front, cut off
pub line_cut : (bytes : List ℕ) (n : ℕ) → BeginsWithLine bytes n → IsLine (take n bytes)
line_cut bytes n line =
    let grouped : bytes ≡ (line.text ++ 10 ∷ []) ++ drop n bytes = line.parts ∙ sym (append_assoc line.text (10 ∷ []) (drop n bytes)) in
    let count : length (line.text ++ 10 ∷ []) ≡ n = length-append line.text (10 ∷ []) ∙ line.count in record {
      text = line.text;
      one = line.one;
      whole = ap (λ (l : List ℕ). take n l) grouped ∙ take_at (line.text ++ 10 ∷ []) (drop n bytes) n count;
    }

pub line_from : (bytes text rest : List ℕ) → HasNoLf text → bytes ≡ text ++ 10 ∷ rest → BeginsWithLine bytes (length text + 1)
line_from bytes text rest one is =
    let grouped : bytes ≡ (text ++ 10 ∷ []) ++ rest = is ∙ sym (append_assoc text (10 ∷ []) rest) in
    let behind : drop (length text + 1) bytes ≡ rest = ap (λ (l : List ℕ). drop (length text + 1) l) grouped ∙ drop_at (text ++ 10 ∷ []) rest (length text + 1) (length-append text (10 ∷ [])) in record {
      text = text;
      one = one;
      count = refl;
      parts = is ∙ ap (λ (l : List ℕ). text ++ 10 ∷ l) (sym behind);
    }

pub line_within : (bytes : List ℕ) (n : ℕ) → BeginsWithLine bytes n → n ≤ length bytes
line_within bytes n line = omega (arith, ap length line.parts, length-append line.text (10 ∷ drop n bytes), line.count)
