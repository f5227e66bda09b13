-- Lemmas on bytes as hexadecimal digits.
use Rattle.std.proofs.Common.{◌≡◌, ℕ, ◌/◌, ◌%◌, ◌<◌, ◌≤◌, nat_lt, List, [], ◌∷◌, ◌++◌, length, drop, get_or, IsTrue, refl, sym, ◌∙◌, ap, arith, append_assoc}
use Rattle.std.specs.List.{list_all}
use Rattle.std.proofs.lemmas.Bool.{and_parts, ltb-true, lt-ltb}
use Rattle.std.proofs.lemmas.List.{append-nil}
use Rattle.std.proofs.lemmas.List.Concat.{flat_map-append}
use Rattle.std.proofs.lemmas.List.Folds.{list_all-append}
use Rattle.byte_forms.specs.Digits.{hex_digit}
use Rattle.byte_forms.proofs.DigitLemmas.{one_digit}
use Rattle.drill_script.specs.LineText.{are_bytes, hex_text}

-- a byte has one pair of digits
one_pair : (b d : ℕ) → b < 256 → d < 256 → hex_digit (b / 16) ≡ hex_digit (d / 16) → hex_digit (b % 16) ≡ hex_digit (d % 16) → b ≡ d
one_pair b d small_b small_d high low =
    let highs : b / 16 ≡ d / 16 = one_digit (b / 16) (d / 16) (omega arith) (omega arith) high in
    let lows : b % 16 ≡ d % 16 = one_digit (b % 16) (d % 16) (omega arith) (omega arith) low in
    omega arith

hex_text-nil : hex_text [] ≡ []
unfolding hex_text
hex_text-nil = refl

hex_text-cons : (b : ℕ) (bytes : List ℕ) → hex_text (b ∷ bytes) ≡ hex_digit (b / 16) ∷ hex_digit (b % 16) ∷ hex_text bytes
unfolding hex_text
hex_text-cons b bytes = refl

hex_text-append : (front rest : List ℕ) → hex_text (front ++ rest) ≡ hex_text front ++ hex_text rest
unfolding hex_text
hex_text-append front rest = flat_map-append (λ b. hex_digit (b / 16) ∷ hex_digit (b % 16) ∷ []) front rest

are_bytes-cons : (b : ℕ) (bytes : List ℕ) → IsTrue (are_bytes (b ∷ bytes)) → (b < 256) × IsTrue (are_bytes bytes)
are_bytes-cons b bytes each =
    let parts = and_parts (nat_lt b 256) (list_all (λ b. nat_lt b 256) bytes) each in
    (ltb-true b 256 parts.0, parts.1)

pub are_bytes_push : (bytes : List ℕ) (b : ℕ) → IsTrue (are_bytes bytes) → b < 256 → IsTrue (are_bytes (bytes ++ b ∷ []))
are_bytes_push bytes b each small = rw (list_all-append (λ b. nat_lt b 256) bytes (b ∷ []), each, lt-ltb b 256 small)

-- if the digits of bytes extend those of others, the bytes extend the others
hex_prefix : (done bytes rest : List ℕ) → hex_text bytes ≡ hex_text done ++ rest → IsTrue (are_bytes done) → IsTrue (are_bytes bytes) → (more : List ℕ) × (bytes ≡ done ++ more) × (rest ≡ hex_text more) × IsTrue (are_bytes more)
hex_prefix [] bytes rest same done_small small =
    (bytes, refl, sym (same ∙ ap (λ (l : List ℕ). l ++ rest) hex_text-nil), small)
hex_prefix (d ∷ done) [] rest same done_small small =
    let clash : [] ≡ hex_digit (d / 16) ∷ hex_digit (d % 16) ∷ (hex_text done ++ rest) = sym hex_text-nil ∙ same ∙ ap (λ (l : List ℕ). l ++ rest) (hex_text-cons d done) in
    cc
hex_prefix (d ∷ done) (b ∷ bytes) rest same done_small small =
    let shape : hex_digit (b / 16) ∷ hex_digit (b % 16) ∷ hex_text bytes ≡ hex_digit (d / 16) ∷ hex_digit (d % 16) ∷ (hex_text done ++ rest) = sym (hex_text-cons b bytes) ∙ same ∙ ap (λ (l : List ℕ). l ++ rest) (hex_text-cons d done) in
    let first = are_bytes-cons d done done_small in
    let second = are_bytes-cons b bytes small in
    let high : hex_digit (b / 16) ≡ hex_digit (d / 16) = cc in
    let low : hex_digit (b % 16) ≡ hex_digit (d % 16) = cc in
    let head : b ≡ d = one_pair b d second.0 first.0 high low in
    let tails : hex_text bytes ≡ hex_text done ++ rest = cc in
    let more = hex_prefix done bytes rest tails first.1 second.1 in
    let whole : bytes ≡ done ++ more.0 = more.1 in
    (more.0, cc, more.2, more.3)

-- if the digits of bytes extend those of others, the digits of the next byte come next
pub record Next (rest : List ℕ) (byte : ℕ) : Type 0 where
  pub two : 2 ≤ length rest
  pub small : byte < 256
  pub high : get_or rest 0 0 ≡ hex_digit (byte / 16)
  pub low : get_or rest 1 0 ≡ hex_digit (byte % 16)

next_of : (more rest : List ℕ) → rest ≡ hex_text more → IsTrue (are_bytes more) → 0 < length rest → (byte : ℕ) × Next rest byte
next_of [] rest is small some = let none : rest ≡ [] = is ∙ hex_text-nil in absurd (omega (arith, ap length none))
next_of (m ∷ more) rest is small some =
    let shape : rest ≡ hex_digit (m / 16) ∷ hex_digit (m % 16) ∷ hex_text more = is ∙ hex_text-cons m more in (
      m,
      record {
        two = omega (arith, ap length shape);
        small = (are_bytes-cons m more small).0;
        high = ap (λ (l : List ℕ). get_or l 0 0) shape;
        low = ap (λ (l : List ℕ). get_or l 1 0) shape;
      },
    )

pub hex_next : (digits done bytes rest : List ℕ) → digits ≡ hex_text done ++ rest → digits ≡ hex_text bytes → IsTrue (are_bytes done) → IsTrue (are_bytes bytes) → 0 < length rest → (byte : ℕ) × Next rest byte
hex_next digits done bytes rest so_far all done_small small some =
    let more = hex_prefix done bytes rest (sym all ∙ so_far) done_small small in
    next_of more.0 rest more.2 more.3 some

done_of : (more done bytes rest : List ℕ) → bytes ≡ done ++ more → rest ≡ hex_text more → length rest ≡ 0 → done ≡ bytes
done_of [] done bytes rest whole is none = sym (whole ∙ append-nil done)
done_of (m ∷ more) done bytes rest whole is none = absurd (omega (arith, ap length (is ∙ hex_text-cons m more)))

-- if no digits remain, the others are the bytes
pub hex_done : (digits done bytes rest : List ℕ) → digits ≡ hex_text done ++ rest → digits ≡ hex_text bytes → IsTrue (are_bytes done) → IsTrue (are_bytes bytes) → length rest ≡ 0 → done ≡ bytes
hex_done digits done bytes rest so_far all done_small small none =
    let more = hex_prefix done bytes rest (sym all ∙ so_far) done_small small in
    done_of more.0 done bytes rest more.1 more.2 none

rest_is : (rest : List ℕ) → 2 ≤ length rest → rest ≡ get_or rest 0 0 ∷ get_or rest 1 0 ∷ drop 2 rest
rest_is [] two = absurd (omega arith)
rest_is (a ∷ []) two = absurd (omega arith)
rest_is (a ∷ b ∷ rest) two = refl

pub hex_none : (digits done : List ℕ) → done ≡ [] → digits ≡ hex_text done ++ digits
hex_none digits done none = sym (ap (λ (l : List ℕ). l ++ digits) (ap hex_text none ∙ hex_text-nil))

-- one more byte is read
pub hex_more : (digits done rest now tail : List ℕ) (byte : ℕ) → digits ≡ hex_text done ++ rest → 2 ≤ length rest → get_or rest 0 0 ≡ hex_digit (byte / 16) → get_or rest 1 0 ≡ hex_digit (byte % 16) → now ≡ done ++ byte ∷ [] → tail ≡ drop 2 rest → digits ≡ hex_text now ++ tail
hex_more digits done rest now tail byte so_far two high low pushed dropped =
    let pair = hex_digit (byte / 16) ∷ hex_digit (byte % 16) ∷ [] in
    let one : hex_text (byte ∷ []) ≡ pair = hex_text-cons byte [] ∙ ap (λ (l : List ℕ). hex_digit (byte / 16) ∷ hex_digit (byte % 16) ∷ l) hex_text-nil in
    let text : hex_text now ≡ hex_text done ++ pair = ap hex_text pushed ∙ hex_text-append done (byte ∷ []) ∙ ap (λ (l : List ℕ). hex_text done ++ l) one in
    let left : rest ≡ pair ++ tail = cc (rest_is rest two, high, low, dropped) in
    so_far ∙ ap (λ (l : List ℕ). hex_text done ++ l) left ∙ sym (append_assoc (hex_text done) pair tail) ∙ ap (λ (l : List ℕ). l ++ tail) (sym text)
