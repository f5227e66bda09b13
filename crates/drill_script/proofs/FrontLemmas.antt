-- Lemmas on the prefix of the bytes that a reader holds.
use Rattle.std.proofs.Common.{◌≡◌, ℕ, zero, suc, ◌⊎◌, inl, inr, refl, ◌+◌, ◌<◌, ◌≤◌, Bool, true, false, cond, Option, None, Some, List, [], ◌∷◌, ◌++◌, length, take, drop, sym, ◌∙◌, ap, subst, arith, append_assoc, length-append}
use Rattle.std.proofs.lemmas.List.{take-append-drop, take_at, drop_at, length-take-le, take-append-le, take-take, take_all, append-nil}
use Rattle.std.proofs.Math.Seq.{take-append-add}
use Rattle.as4_flow.specs.Flow.{Told, before}
use Rattle.memchr.specs.Find.{IsFirstByte, is_byte}
use Rattle.drill_script.specs.Fronts.{BeginsLine}
use Rattle.byte_forms.specs.Parted.{Lacks, parted}
use Rattle.drill_script.specs.LineText.{line_limit}
use Rattle.drill_script.specs.Lines.{BeginsLong}
use Rattle.byte_forms.proofs.PartedLemmas.{Lacks_append, Lacks_head, Lacks_tail, Lacks_take, Lacks_nowhere, Lacks_before, parted_at}

-- the prefix and the rest of parted bytes, by position
begins_line : (bytes front rest : List ℕ) (at : ℕ) → bytes ≡ parted 10 front rest → length front ≡ at → Lacks 10 front → at ≤ line_limit → BeginsLine bytes at
begins_line bytes front rest at parts count lacks short =
    let front_is : take at bytes ≡ front = ap (λ (l : List ℕ). take at l) parts ∙ take_at front (10 ∷ rest) at count in
    let longer : length (front ++ 10 ∷ []) ≡ at + 1 = length-append front (10 ∷ []) ∙ ap (λ (n : ℕ). n + 1) count in
    let rest_is : drop (at + 1) bytes ≡ rest = ap (λ (l : List ℕ). drop (at + 1) l) (parts ∙ sym (append_assoc front (10 ∷ []) rest)) ∙ drop_at (front ++ 10 ∷ []) rest (at + 1) longer in
    let whole : bytes ≡ parted 10 (take at bytes) (drop (at + 1) bytes) = cc (parts, front_is, rest_is) in record {
      parts = whole;
      lacks = subst (λ (l : List ℕ). Lacks 10 l) (sym front_is) lacks;
      room = omega (arith, ap length parts, length-append front (10 ∷ rest), count);
      short = short;
    }

-- the bytes searched before, followed by those searched now
whole_is : (bytes rest : List ℕ) (scanned : ℕ) → rest ≡ drop scanned bytes → bytes ≡ take scanned bytes ++ rest
whole_is bytes rest scanned is = sym (take-append-drop scanned bytes) ∙ ap (λ (l : List ℕ). take scanned bytes ++ l) (sym is)

lacks_searched : (bytes rest : List ℕ) (scanned at : ℕ) → Lacks 10 (take scanned bytes) → IsFirstByte (is_byte 10) rest (Some at) → Lacks 10 (take scanned bytes ++ take at rest)
lacks_searched bytes rest scanned at lacks found = Lacks_append 10 (take scanned bytes) (take at rest) lacks (Lacks_before 10 rest at found)

searched_parts : (bytes rest : List ℕ) (scanned at : ℕ) → rest ≡ drop scanned bytes → IsFirstByte (is_byte 10) rest (Some at) → bytes ≡ parted 10 (take scanned bytes ++ take at rest) (drop (at + 1) rest)
searched_parts bytes rest scanned at is found =
    whole_is bytes rest scanned is
    ∙ ap (λ (l : List ℕ). take scanned bytes ++ l) (parted_at 10 rest at found)
    ∙ sym (append_assoc (take scanned bytes) (take at rest) (10 ∷ drop (at + 1) rest))

searched_length : (bytes rest : List ℕ) (scanned at : ℕ) → scanned ≤ length bytes → IsFirstByte (is_byte 10) rest (Some at) → length (take scanned bytes ++ take at rest) ≡ scanned + at
searched_length bytes rest scanned at within found =
    let high : at < length rest = found.0.high in
    omega (arith, length-append (take scanned bytes) (take at rest), length-take-le scanned bytes within, length-take-le at rest (omega arith))

pub front_line : (bytes rest : List ℕ) (scanned at : ℕ) → rest ≡ drop scanned bytes → scanned ≤ length bytes → Lacks 10 (take scanned bytes) → IsFirstByte (is_byte 10) rest (Some at) → scanned + at ≤ line_limit → BeginsLine bytes (scanned + at)
front_line bytes rest scanned at is within lacks found short =
    begins_line bytes (take scanned bytes ++ take at rest) (drop (at + 1) rest) (scanned + at) (searched_parts bytes rest scanned at is found) (searched_length bytes rest scanned at within found) (lacks_searched bytes rest scanned at lacks found) short

pub front_none : (bytes rest : List ℕ) (scanned : ℕ) → rest ≡ drop scanned bytes → Lacks 10 (take scanned bytes) → IsFirstByte (is_byte 10) rest None → Lacks 10 bytes
front_none bytes rest scanned is lacks none =
    subst (λ (l : List ℕ). Lacks 10 l) (sym (whole_is bytes rest scanned is)) (Lacks_append 10 (take scanned bytes) rest lacks (Lacks_nowhere 10 rest none))

-- bytes with a prefix longer than the limit and without an LF
long_front : (bytes front rest : List ℕ) → bytes ≡ front ++ rest → Lacks 10 front → line_limit < length front → BeginsLong bytes
unfolding BeginsLong
long_front bytes front rest is lacks long =
    let same : take (line_limit + 1) bytes ≡ take (line_limit + 1) front = ap (λ (l : List ℕ). take (line_limit + 1) l) is ∙ take-append-le (line_limit + 1) front rest (omega arith) in (
      omega (arith, ap length is, length-append front rest),
      subst (λ (l : List ℕ). Lacks 10 l) (sym same) (Lacks_take 10 (line_limit + 1) front lacks),
    )

pub front_long : (bytes rest : List ℕ) (scanned at : ℕ) → rest ≡ drop scanned bytes → scanned ≤ length bytes → Lacks 10 (take scanned bytes) → IsFirstByte (is_byte 10) rest (Some at) → line_limit < scanned + at → BeginsLong bytes
front_long bytes rest scanned at is within lacks found long =
    long_front bytes (take scanned bytes ++ take at rest) (10 ∷ drop (at + 1) rest) (searched_parts bytes rest scanned at is found) (lacks_searched bytes rest scanned at lacks found) (omega (arith, searched_length bytes rest scanned at within found, long))

pub all_long : (bytes : List ℕ) → Lacks 10 bytes → line_limit < length bytes → BeginsLong bytes
all_long bytes lacks long = long_front bytes bytes [] (sym (append-nil bytes)) lacks long

-- a prefix without an LF ends before the first LF
pub lacking_front : (n : ℕ) (text more : List ℕ) → Lacks 10 (take n (text ++ 10 ∷ more)) → n ≤ length text
lacking_front zero text more lacks = omega arith
lacking_front (suc n) [] more lacks = absurd (Lacks_head 10 10 (take n more) lacks refl)
lacking_front (suc n) (t ∷ text) more lacks =
    let rest : n ≤ length text = lacking_front n text more (Lacks_tail 10 t (take n (text ++ 10 ∷ more)) lacks) in
    omega arith

-- bytes that begin too long begin with no line
long_no_line : (bytes : List ℕ) (at : ℕ) → BeginsLong bytes → BeginsLine bytes at → ⊥
unfolding BeginsLong
long_no_line bytes at long begins =
    let same = ap (λ (l : List ℕ). take (line_limit + 1) l) begins.parts in
    let lacks = subst (λ (l : List ℕ). Lacks 10 l) same long.1 in
    let far = lacking_front (line_limit + 1) (take at bytes) (drop (at + 1) bytes) lacks in
    omega (arith, far, begins.short, begins.room, length-take-le at bytes (omega arith))

-- the bytes held at first didn't begin too long: they are unchanged and begin with a line, or it is known
pub never_long_line : (old now : List ℕ) (at : ℕ) → (now ≡ old) ⊎ (BeginsLong old → ⊥) → BeginsLine now at → BeginsLong old → ⊥
never_long_line old now at (inl same) begins long = long_no_line now at (subst BeginsLong (sym same) long) begins
never_long_line old now at (inr short) begins long = short long

pub never_long_short : (old now : List ℕ) → (now ≡ old) ⊎ (BeginsLong old → ⊥) → Lacks 10 now × (length now ≤ line_limit) → BeginsLong old → ⊥
unfolding BeginsLong
never_long_short old now (inl same) short long = omega (arith, ap length same, short.1, long.0)
never_long_short old now (inr other) short long = other long

-- ---- the observable source after the bytes that a reader holds

pub BeginsLong_told : (held : List ℕ) (left : Option (List ℕ)) → BeginsLong held → Told (before held left) BeginsLong
unfolding BeginsLong
BeginsLong_told held None long bytes is = let clash : None ≡ Some bytes = is in cc
BeginsLong_told held (Some rest) long bytes is =
    let whole : bytes ≡ held ++ rest = cc in
    let same : take (line_limit + 1) bytes ≡ take (line_limit + 1) held = ap (λ (l : List ℕ). take (line_limit + 1) l) whole ∙ take-append-le (line_limit + 1) held rest (omega arith) in (
      omega (arith, ap length whole, length-append held rest, long.0),
      subst (λ (l : List ℕ). Lacks 10 l) (sym same) long.1,
    )

-- a buffer that was extended keeps its prefix
pub resized_front : (old resized zeros : List ℕ) (len most : ℕ) (ok : Bool) → len ≡ length old → len ≤ most → resized ≡ cond ok (take most old ++ zeros) old → take len resized ≡ old
resized_front old resized zeros len most true count room is =
    let all : take most old ≡ old = take_all most old (omega arith) in
    ap (λ (l : List ℕ). take len l) (is ∙ ap (λ (l : List ℕ). l ++ zeros) all) ∙ take_at old zeros len (sym count)
resized_front old resized zeros len most false count room is = ap (λ (l : List ℕ). take len l) is ∙ take_all len old (omega arith)

-- bytes that are read into its tail follow the prefix
pub read_behind : (front room post tail : List ℕ) (len n most : ℕ) → length front ≡ len → n ≤ length room → len + n ≤ most → take (len + n) (take most (front ++ (room ++ post) ++ tail)) ≡ front ++ take n room
read_behind front room post tail len n most count some within =
    let shorter : take (len + n) (take most (front ++ (room ++ post) ++ tail)) ≡ take (len + n) (front ++ (room ++ post) ++ tail) = take-take (len + n) most (front ++ (room ++ post) ++ tail) within in
    let grouped : front ++ (room ++ post) ++ tail ≡ front ++ (room ++ (post ++ tail)) = simp append_assoc in
    let places : len + n ≡ length front + n = omega arith in
    shorter
    ∙ ap (λ (l : List ℕ). take (len + n) l) grouped
    ∙ ap (λ (k : ℕ). take k (front ++ (room ++ (post ++ tail)))) places
    ∙ take-append-add front (room ++ (post ++ tail)) n
    ∙ ap (λ (l : List ℕ). front ++ l) (take-append-le n room (post ++ tail) some)
