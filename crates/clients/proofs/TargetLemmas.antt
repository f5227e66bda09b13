-- The pieces of a target, cut at each `/` and decoded.
use Rattle.std.proofs.Common.{◌≡◌, ◌≢◌, ℕ, ◌<◌, ◌==◌, Bool, true, false, if◌then◌else◌, List, [], ◌∷◌, ◌++◌, map, refl, ap, ◌∙◌, arith}
use Rattle.std.specs.Prelude.{codes}
use Rattle.std.specs.List.{All, slice_split}
use Rattle.std.proofs.lemmas.Bool.{eqb-true}
use Rattle.std.proofs.lemmas.Bool.Decides.{nat_tests}
use Rattle.std.proofs.lemmas.List.Elements.{All-append, All-cons, All-head, All-nil, All-tail, All-weaker}
use Rattle.std.proofs.lemmas.List.Splits.{slice_split_at, slice_split_none}
use Rattle.percent_encoding.specs.Percent.{percent_decode, percent_encode_byte}
use Rattle.percent_encoding.proofs.PercentLemmas.{All-percent_encode_byte, IsByte, IsEscapeByte, percent_decode-nil, percent_decode-percent_encode_byte, percent_decode_not_percent}
use Rattle.clients.specs.Requests.{escape_of, escaped, is_unreserved, submit_target}

-- a byte that stays as it is, is none of these
stays_other : (b other : ℕ) → is_unreserved b ≡ true → is_unreserved other ≡ false → b ≢ other
stays_other b other stays changes same =
    let both : is_unreserved b ≡ is_unreserved other = ap is_unreserved same in
    cc

escape_back : (b : ℕ) (stays : Bool) (rest : List ℕ) → b < 256 → is_unreserved b ≡ stays
    → percent_decode ((if stays then b ∷ [] else percent_encode_byte b) ++ rest) ≡ b ∷ percent_decode rest
escape_back b true rest small is = percent_decode_not_percent b rest (stays_other b 37 is refl)
escape_back b false rest small is = percent_decode-percent_encode_byte b rest small

-- an escaped piece is decoded to its bytes
pub escaped_back : (bytes : List ℕ) → All IsByte bytes → percent_decode (escaped bytes) ≡ bytes
unfolding escaped
escaped_back [] small = percent_decode-nil
escaped_back (b ∷ bytes) small =
    escape_back b (is_unreserved b) (escaped bytes) (All-head IsByte b bytes small) refl
    ∙ ap (λ (rest : List ℕ). b ∷ rest) (escaped_back bytes (All-tail IsByte b bytes small))

no_slash : (b : ℕ) → IsEscapeByte b → (b == 47) ≡ false
no_slash b is = grind (arith, nat_tests)

not_slash : (b : ℕ) (is : Bool) → (b == 47) ≡ is → b ≢ 47 → (b == 47) ≡ false
not_slash b true is other = absurd (other (eqb-true b 47 is))
not_slash b false is other = is

escape_lacks : (b : ℕ) (stays : Bool) → is_unreserved b ≡ stays → All (λ x. (x == 47) ≡ false) (if stays then b ∷ [] else percent_encode_byte b)
escape_lacks b true is =
    All-cons (λ x. (x == 47) ≡ false) b [] (not_slash b (b == 47) refl (stays_other b 47 is refl)) (All-nil (λ x. (x == 47) ≡ false))
escape_lacks b false is = All-weaker IsEscapeByte (λ x. (x == 47) ≡ false) no_slash (percent_encode_byte b) (All-percent_encode_byte b)

-- an escaped piece has no `/`
pub escaped_lacks : (bytes : List ℕ) → All (λ x. (x == 47) ≡ false) (escaped bytes)
unfolding escaped
escaped_lacks [] = All-nil (λ x. (x == 47) ≡ false)
escaped_lacks (b ∷ bytes) =
    All-append (λ x. (x == 47) ≡ false) (escape_of b) (escaped bytes) (escape_lacks b (is_unreserved b) refl) (escaped_lacks bytes)

-- the target of a submission is cut into its pieces
pub submit_pieces : (mode conversation : List ℕ) → All IsByte mode → All IsByte conversation
    → map percent_decode (slice_split (λ b. b == 47) (submit_target mode conversation)) ≡ [] ∷ codes "submit" ∷ mode ∷ conversation ∷ []
unfolding percent_decode
submit_pieces mode conversation small other =
    let cut : slice_split (λ b. b == 47) (escaped mode ++ 47 ∷ escaped conversation) ≡ escaped mode ∷ escaped conversation ∷ [] =
    slice_split_at (λ b. b == 47) (escaped mode) 47 (escaped conversation) (escaped_lacks mode) refl
    ∙ ap (λ (rest : List (List ℕ)). escaped mode ∷ rest) (slice_split_none (λ b. b == 47) (escaped conversation) (escaped_lacks conversation)) in
    ap (λ (rest : List (List ℕ)). map percent_decode ([] ∷ codes "submit" ∷ rest)) cut
    ∙ ap (λ (piece : List ℕ). [] ∷ codes "submit" ∷ piece ∷ percent_decode (escaped conversation) ∷ []) (escaped_back mode small)
    ∙ ap (λ (piece : List ℕ). [] ∷ codes "submit" ∷ mode ∷ piece ∷ []) (escaped_back conversation other)
