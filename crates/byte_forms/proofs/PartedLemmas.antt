-- Lemmas on bytes without one byte.
use Rattle.std.proofs.Common.{◌≡◌, ◌≢◌, ℕ, suc, ◌+◌, ◌<◌, true, not, ◌==◌, None, Some, List, [], ◌∷◌, ◌++◌, length, take, drop, get_or, refl, sym, ◌∙◌, ap, arith, eq-eqb}
use Rattle.std.specs.List.{list_all}
use Rattle.std.proofs.lemmas.Bool.{and_parts, eqb-true}
use Rattle.std.proofs.lemmas.List.{get_or-take, get_or_default, length-take, take-append-drop}
use Rattle.std.proofs.Math.Seq.{drop-cons}
use Rattle.std.proofs.lemmas.List.Elements.{All-nil, All-cons, All-head, All-tail, All-append, All-take}
use Rattle.memchr.specs.Find.{IsFirstByte, is_byte}
use Rattle.byte_forms.specs.Parted.{Lacks, parted}

pub Lacks_none : (byte : ℕ) → Lacks byte []
unfolding Lacks
Lacks_none byte = All-nil (λ b. b ≢ byte)

pub Lacks_more : (byte b : ℕ) (bytes : List ℕ) → b ≢ byte → Lacks byte bytes → Lacks byte (b ∷ bytes)
unfolding Lacks
Lacks_more byte b bytes other rest = All-cons (λ b. b ≢ byte) b bytes other rest

pub Lacks_head : (byte b : ℕ) (bytes : List ℕ) → Lacks byte (b ∷ bytes) → b ≢ byte
unfolding Lacks
Lacks_head byte b bytes lacks = All-head (λ b. b ≢ byte) b bytes lacks

pub Lacks_tail : (byte b : ℕ) (bytes : List ℕ) → Lacks byte (b ∷ bytes) → Lacks byte bytes
unfolding Lacks
Lacks_tail byte b bytes lacks = All-tail (λ b. b ≢ byte) b bytes lacks

pub Lacks_append : (byte : ℕ) (front rest : List ℕ) → Lacks byte front → Lacks byte rest → Lacks byte (front ++ rest)
unfolding Lacks
Lacks_append byte front rest first second = All-append (λ b. b ≢ byte) front rest first second

pub Lacks_take : (byte n : ℕ) (bytes : List ℕ) → Lacks byte bytes → Lacks byte (take n bytes)
unfolding Lacks
Lacks_take byte n bytes lacks = All-take (λ b. b ≢ byte) n bytes lacks

-- bytes that were tested one by one lack it
pub Lacks_tested : (byte : ℕ) (bytes : List ℕ) → list_all (λ b. not (b == byte)) bytes ≡ true → Lacks byte bytes
Lacks_tested byte [] each = Lacks_none byte
Lacks_tested byte (b ∷ bytes) each =
    let parts = and_parts (not (b == byte)) (list_all (λ b. not (b == byte)) bytes) each in
    Lacks_more byte b bytes
    (λ (is : b ≡ byte). let tested : (b == byte) ≡ true = eq-eqb b byte is in let clash : not true ≡ true = ap not (sym tested) ∙ parts.0 in cc)
    (Lacks_tested byte bytes parts.1)

-- bytes in which a search found none lack it
pub Lacks_nowhere : (byte : ℕ) (bytes : List ℕ) → IsFirstByte (is_byte byte) bytes None → Lacks byte bytes
unfolding Lacks
Lacks_nowhere byte bytes none k d short is = none k (omega arith) short (eq-eqb (get_or bytes k 0) byte (get_or_default bytes k 0 d short ∙ is))

-- and so do those before the place that it found
pub Lacks_before : (byte : ℕ) (bytes : List ℕ) (at : ℕ) → IsFirstByte (is_byte byte) bytes (Some at) → Lacks byte (take at bytes)
unfolding Lacks
Lacks_before byte bytes at found k d short is =
    let early : k < at = omega (arith, length-take at bytes) in
    let within : k < length bytes = omega (arith, length-take at bytes) in
    found.0.before k (omega arith) early (eq-eqb (get_or bytes k 0) byte (get_or_default bytes k 0 d within ∙ sym (get_or-take at bytes k d early) ∙ is))

-- there the bytes are parted at it
pub parted_at : (byte : ℕ) (bytes : List ℕ) (at : ℕ) → IsFirstByte (is_byte byte) bytes (Some at) → bytes ≡ parted byte (take at bytes) (drop (at + 1) bytes)
parted_at byte bytes at found =
    let within : at < length bytes = found.0.high in
    let here : get_or bytes at 0 ≡ byte = eqb-true (get_or bytes at 0) byte found.1 in
    let behind : drop at bytes ≡ get_or bytes at 0 ∷ drop (suc at) bytes = drop-cons bytes at 0 within in
    let next : suc at ≡ at + 1 = omega arith in
    let rest : drop at bytes ≡ byte ∷ drop (at + 1) bytes = behind ∙ ap (λ (b : ℕ). b ∷ drop (suc at) bytes) here ∙ ap (λ (n : ℕ). byte ∷ drop n bytes) next in
    sym (take-append-drop at bytes) ∙ ap (λ (l : List ℕ). take at bytes ++ l) rest

-- bytes that lack it aren't parted at it
pub Lacks_unparted : (byte : ℕ) (bytes front rest : List ℕ) → Lacks byte bytes → bytes ≡ parted byte front rest → ⊥
Lacks_unparted byte [] [] rest lacks parts = cc
Lacks_unparted byte [] (f ∷ front) rest lacks parts = cc
Lacks_unparted byte (b ∷ bytes) [] rest lacks parts = Lacks_head byte b bytes lacks cc
Lacks_unparted byte (b ∷ bytes) (f ∷ front) rest lacks parts =
    let same : bytes ≡ front ++ byte ∷ rest = cc in
    Lacks_unparted byte bytes front rest (Lacks_tail byte b bytes lacks) same

-- bytes are parted at its first place in one way
pub one_cut : (byte : ℕ) (front rest other behind : List ℕ) → front ++ byte ∷ rest ≡ other ++ byte ∷ behind → Lacks byte front → Lacks byte other → (front ≡ other) × (rest ≡ behind)
one_cut byte [] rest [] behind same first second = (refl, cc)
one_cut byte [] rest (o ∷ other) behind same first second = absurd (Lacks_head byte o other second cc)
one_cut byte (f ∷ front) rest [] behind same first second = absurd (Lacks_head byte f front first cc)
one_cut byte (f ∷ front) rest (o ∷ other) behind same first second =
    let tails : front ++ byte ∷ rest ≡ other ++ byte ∷ behind = cc in
    let head : f ≡ o = cc in
    let more = one_cut byte front rest other behind tails (Lacks_tail byte f front first) (Lacks_tail byte o other second) in
    let fronts : front ≡ other = more.0 in
    (cc, more.1)
