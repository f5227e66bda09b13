-- The nonce in the identifier of a submission.
use Rattle.std.proofs.Common.{◌≡◌, ℕ, ◌+◌, ◌-◌, ◌^◌, ◌<◌, List, length, drop, take, length-append, arith, refl, ap, ◌∙◌}
use Rattle.std.specs.Prelude.{IsTrue}
use Rattle.std.specs.Fmt.{decimal}
use Rattle.std.proofs.lemmas.Bool.{and_parts, ltb-true}
use Rattle.std.proofs.lemmas.Slice.Eq.{bytes_eq-Decides}
use Rattle.as4_effects.specs.Sound.{is_id_of, nonce_in, number_in}
use Rattle.as4_values.proofs.IdentifierLemmas.{length-uuid_text}
use Rattle.as4_values.specs.Identifiers.{submission_id}

submission_length : (number nonce : ℕ) → length (submission_id number nonce) ≡ length (decimal number) + 41
submission_length number nonce = simp (length-append, length-uuid_text) (omega arith)

-- an identifier isn't too short for its nonce
pub id_length : (number : ℕ) (id : List ℕ) → IsTrue (is_id_of number id) → length id ≡ length (decimal number) + 41
unfolding is_id_of
id_length number id is =
    ap length ((bytes_eq-Decides id (submission_id number (nonce_in number id))).0 (and_parts _ _ is).1)
    ∙ submission_length number (nonce_in number id)

pub nonce_below : (number : ℕ) (id : List ℕ) → IsTrue (is_id_of number id) → nonce_in number id < 2 ^ 128
unfolding is_id_of
nonce_below number id is = ltb-true (nonce_in number id) (2 ^ 128) (and_parts _ _ is).0

-- the bytes of the nonce
pub window : (number : ℕ) (id bytes digits : List ℕ) → digits ≡ decimal number → bytes ≡ id
    → take ((length digits + 37) - (length digits + 1)) (drop (length digits + 1) bytes) ≡ take 36 (drop (length (decimal number) + 1) id)
window number id bytes digits e f =
    let cut : (length digits + 37) - (length digits + 1) ≡ 36 = omega arith in
    rw (cut, e, f) refl

pub right_nonce : (number nonce : ℕ) (id bytes digits : List ℕ) → digits ≡ decimal number → bytes ≡ id
    → nonce ≡ number_in 0 (take ((length digits + 37) - (length digits + 1)) (drop (length digits + 1) bytes)) → nonce ≡ nonce_in number id
right_nonce number nonce id bytes digits e f is = is ∙ ap (number_in 0) (window number id bytes digits e f)
