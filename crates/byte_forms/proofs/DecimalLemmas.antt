-- Decimals and their bytes.
use Rattle.std.proofs.Common.{◌≡◌, ℕ, ◌^◌, ◌<◌, Bool, true, not, List, Result, Ok, sym, ◌∙◌, ap, subst, arith}
use Rattle.std.specs.Fmt.{decimal}
use Rattle.std.specs.Str.{IsUtf8, bytes_eq}
use Rattle.std.specs.Str.Parse.{ParsesUnsigned}
use Rattle.std.proofs.lemmas.Fmt.{IsAscii-decimal_wide, parse-decimal_wide}
use Rattle.std.proofs.lemmas.Slice.Eq.{bytes_eq-Decides}
use Rattle.std.proofs.lemmas.Str.{IsUtf8-from_ascii}

-- a number of 128 bits has at most 64 digits
short : (n : ℕ) → n < 2 ^ 128 → n < 10 ^ 64
short n small = omega arith

-- a printed number is text
pub decimal_is_text : (word : List ℕ) (n : ℕ) → n < 2 ^ 128 → word ≡ decimal n → IsUtf8 word
decimal_is_text word n small printed = subst IsUtf8 (sym printed) (IsUtf8-from_ascii (decimal n) (IsAscii-decimal_wide n (short n small)))

-- a printed number is read
pub decimal_is_read : {E : Type 0} (word : List ℕ) (n : ℕ) (read : Result ℕ E) → n < 2 ^ 128 → word ≡ decimal n → ParsesUnsigned 128 10 word read → read ≡ Ok n
decimal_is_read word n read small printed parsed = parse-decimal_wide 128 n word read small (short n small) printed parsed

-- the same bytes are not found unequal
pub same_is_equal : (xs ys : List ℕ) (unequal : Bool) → unequal ≡ not (bytes_eq xs ys) → unequal ≡ true → xs ≡ ys → ⊥
same_is_equal xs ys unequal computed found same =
    let differ : not (bytes_eq xs ys) ≡ true = sym computed ∙ found in
    let equal : bytes_eq xs ys ≡ true = (bytes_eq-Decides xs ys).1 same in
    let false_is_true : not true ≡ true = ap not (sym equal) ∙ differ in
    cc
