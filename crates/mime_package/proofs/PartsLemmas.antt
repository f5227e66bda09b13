-- The equations for the parts, one per case.
use Rattle.std.proofs.Common.{◌≡◌, ℕ, suc, ◌+◌, List, [], ◌∷◌, ◌++◌, Some, None, drop, refl}
use Rattle.std.specs.Prelude.{Ok, Err}
use Rattle.mime_fields.specs.Fields.{PartValue, crlf, part_of}
use Rattle.mime_package.specs.declared.read.MimeRefusal.TheVariants.{NoBoundary, BadPart}
use Rattle.mime_package.specs.Reading.{Ending, last, next, delimiter_at, ending_at, up_to, max_parts, also, parts_within, parts_of}

-- nothing ends the part
pub no_ending : (n index : ℕ) (boundary bytes : List ℕ) → up_to (ending_at boundary) bytes ≡ None → parts_within (suc n) index boundary bytes ≡ Err (BadPart index)
unfolding parts_within
no_ending n index boundary bytes none = rw (none, parts_within) refl

-- the piece spells no part
pub no_part : (n index : ℕ) (boundary bytes : List ℕ) (cut : List ℕ × Ending) → up_to (ending_at boundary) bytes ≡ Some cut → part_of (drop 2 cut.0) ≡ None
    → parts_within (suc n) index boundary bytes ≡ Err (BadPart index)
unfolding parts_within
no_part n index boundary bytes cut is none = rw (is, parts_within, none) refl

-- the last delimiter ends the part
pub last_part : (n index : ℕ) (boundary bytes piece : List ℕ) (part : PartValue) → up_to (ending_at boundary) bytes ≡ Some (piece, last) → part_of (drop 2 piece) ≡ Some part
    → parts_within (suc n) index boundary bytes ≡ Ok (part ∷ [])
unfolding parts_within
last_part n index boundary bytes piece part is spelled = rw (is, parts_within, spelled) refl

-- another delimiter ends the part
pub next_part : (n index : ℕ) (boundary bytes piece rest : List ℕ) (part : PartValue) → up_to (ending_at boundary) bytes ≡ Some (piece, next rest) → part_of (drop 2 piece) ≡ Some part
    → parts_within (suc n) index boundary bytes ≡ also part (parts_within n (index + 1) boundary rest)
unfolding parts_within
next_part n index boundary bytes piece rest part is spelled = rw (is, parts_within, spelled) refl

-- the body has no delimiter
pub no_delimiter : (boundary body : List ℕ) → up_to (delimiter_at boundary) (crlf ++ body) ≡ None → parts_of boundary body ≡ Err NoBoundary
unfolding parts_of
no_delimiter boundary body none = rw (none, parts_of) refl

-- the parts after the first delimiter
pub parts_behind : (boundary body : List ℕ) (cut : List ℕ × List ℕ) → up_to (delimiter_at boundary) (crlf ++ body) ≡ Some cut → parts_of boundary body ≡ parts_within max_parts 0 boundary cut.1
unfolding parts_of
parts_behind boundary body cut is = rw (is, parts_of) refl
