-- The body of a package is cut into its written parts.
use Rattle.std.proofs.Common.{◌≡◌, ℕ, ◌≤◌, List, [], ◌∷◌, ◌++◌, length, map, drop, Some, refl, sym, ap, arith, inr, append_assoc, append-nil, length-append}
use Rattle.std.specs.Prelude.{codes}
use Rattle.std.specs.List.{flat_map, AllByRecursion}
use Rattle.std.proofs.lemmas.List.{length-map}
use Rattle.as4_values.specs.declared.payload.Payload.{Payload}
use Rattle.message_model.specs.Package.{dash_boundary, part_head, part_text, payload_text, Occurs}
use Rattle.mime_fields.specs.Fields.{crlf, part_of}
use Rattle.mime_package.specs.Pieces.{IsDelimiter, IsLastDelimiter, Holds, AreParts, IsCut, HasParts}
use Rattle.package_laws.proofs.PartLemmas.{part_is_read}
use Rattle.package_laws.proofs.PieceLemmas.{boundary, piece, dash_is, is_piece}
use Rattle.package_laws.specs.Written.{payload_part}

-- these payloads as parts, followed by the last delimiter
abbrev pub body : ℕ → List Payload → List ℕ
body n parts = flat_map (payload_text n) parts ++ (dash_boundary n ++ (codes "--" ++ crlf))

-- no part contains the boundary
abbrev pub AreFree : ℕ → List Payload → Type 0
AreFree n = AllByRecursion (λ p. Occurs (dash_boundary n) p.content → ⊥)

-- a delimiter after its CRLF
abbrev delimiter : ℕ → List ℕ
delimiter n = crlf ++ (codes "--" ++ boundary n)

is_delimiter : (n : ℕ) → IsDelimiter (boundary n) (delimiter n)
is_delimiter n = record { blanks = []; blank = refl; is = ap (λ (b : List ℕ). crlf ++ (codes "--" ++ b)) (sym (append-nil (boundary n))) }

is_last : (n : ℕ) → IsLastDelimiter (boundary n) (delimiter n ++ codes "--")
is_last n = record { blanks = []; blank = refl; is = regroup (boundary n) }
  where
    regroup : (b : List ℕ) → (crlf ++ (codes "--" ++ b)) ++ codes "--" ≡ crlf ++ (codes "--" ++ ((b ++ codes "--") ++ []))
    regroup b = simp (append_assoc, append-nil)

-- a part is followed by the delimiter of the next part, or by the last delimiter
next_is : (n : ℕ) (p : Payload) (parts : List Payload) → crlf ++ body n (p ∷ parts) ≡ delimiter n ++ (piece p ++ (crlf ++ body n parts))
unfolding payload_text part_text
next_is n p parts = rw (dash_is n) (regroup (codes "--" ++ boundary n) (part_head p.cid p.media) p.content (flat_map (payload_text n) parts) (codes "--" ++ crlf))
  where
    regroup : (d head content others end : List ℕ)
        → crlf ++ (((d ++ crlf ++ head ++ content ++ crlf) ++ others) ++ (d ++ end)) ≡ (crlf ++ d) ++ ((crlf ++ (head ++ content)) ++ (crlf ++ (others ++ (d ++ end))))
    regroup d head content others end = simp append_assoc

last_is : (n : ℕ) → crlf ++ body n [] ≡ (delimiter n ++ codes "--") ++ crlf
last_is n = rw (dash_is n) (regroup (codes "--" ++ boundary n) (codes "--"))
  where
    regroup : (d e : List ℕ) → crlf ++ (d ++ (e ++ crlf)) ≡ ((crlf ++ d) ++ e) ++ crlf
    regroup d e = simp append_assoc

are_parts : (n : ℕ) (p : Payload) (parts : List Payload) → AreFree n (p ∷ parts) → AreParts (boundary n) (map piece (p ∷ parts)) (piece p ++ (crlf ++ body n parts))
are_parts n p [] free = (
  is_piece n p free.0,
  (delimiter n ++ codes "--", crlf, is_last n, ap (λ (r : List ℕ). piece p ++ r) (last_is n), inr ([], refl)),
)
are_parts n p (q ∷ parts) free = (
  is_piece n p free.0,
  (
    delimiter n,
    piece q ++ (crlf ++ body n parts),
    is_delimiter n,
    (part_head q.cid q.media ++ q.content ++ (crlf ++ body n parts), refl),
    ap (λ (r : List ℕ). piece p ++ r) (next_is n q parts),
    are_parts n q parts free.1,
  ),
)

-- no bytes precede the first delimiter
none_before : (boundary : List ℕ) → Holds (IsDelimiter boundary) crlf → ⊥
none_before boundary holds =
    omega (arith, ap length holds.bytes_are, length-append holds.front (holds.line ++ (crlf ++ holds.back)), length-append holds.line (crlf ++ holds.back), ap length holds.is_line.is)

is_cut : (n : ℕ) (p : Payload) (parts : List Payload) → AreFree n (p ∷ parts) → IsCut (boundary n) (body n (p ∷ parts)) (map piece (p ∷ parts))
is_cut n p parts free = record {
  front = [];
  line = delimiter n;
  rest = piece p ++ (crlf ++ body n parts);
  is_line = is_delimiter n;
  goes_on = (part_head p.cid p.media ++ p.content ++ (crlf ++ body n parts), refl);
  body_is = next_is n p parts;
  none_before = none_before (boundary n);
  parts = are_parts n p parts free;
}

all_spelled : (parts : List Payload) → map (λ piece. part_of (drop 2 piece)) (map piece parts) ≡ map Some (map payload_part parts)
all_spelled [] = refl
all_spelled (p ∷ parts) = rw (part_is_read p, all_spelled parts) refl

-- a body has the parts that were written
pub has_parts : (n : ℕ) (p : Payload) (parts : List Payload) → AreFree n (p ∷ parts) → length parts ≤ 255 → HasParts (boundary n) (body n (p ∷ parts)) (map payload_part (p ∷ parts))
has_parts n p parts free few = record {
  pieces = map piece (p ∷ parts);
  cut = is_cut n p parts free;
  few = omega (arith, length-map (p ∷ parts) piece);
  spelled = all_spelled (p ∷ parts);
}
