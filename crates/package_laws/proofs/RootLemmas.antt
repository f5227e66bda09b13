-- The root is the first part, and the only part with its Content-ID.
use Rattle.std.proofs.Common.{◌≡◌, ◌≢◌, ℕ, ◌+◌, true, false, List, [], ◌∷◌, ◌++◌, length, map, Some, None, refl, arith, length-append}
use Rattle.std.specs.Prelude.{IsTrue, bytes_eq, codes}
use Rattle.std.specs.List.{list_any, AllByRecursion}
use Rattle.std.proofs.lemmas.Bool.{false_from_ne_true}
use Rattle.std.proofs.lemmas.List.Sums.{AllPass-from_list_all}
use Rattle.std.proofs.lemmas.Slice.Eq.{bytes_eq-Decides}
use Rattle.as4_values.specs.Payload.{IsContentId, is_media_text}
use Rattle.as4_values.specs.Word.{allows}
use Rattle.as4_values.specs.declared.word.Word.TheVariants.{Identifier}
use Rattle.as4_values.specs.declared.payload.Payload.{Payload}
use Rattle.message_model.specs.Package.{hex_digits, root_id, envelope_media}
use Rattle.mime_package.specs.Reading.{has_id, only_one, root_of, encoded_at}
use Rattle.package_laws.proofs.DigitLemmas.{length-hex_digits}
use Rattle.package_laws.proofs.TypeLemmas.{root_passes}
use Rattle.package_laws.proofs.ValueLemmas.{bracketed, brackets_off}
use Rattle.package_laws.specs.Written.{payload_part}

-- the root's Content-ID is one
length-root_id : (n : ℕ) → length (root_id n) ≡ 25
unfolding root_id
length-root_id n = omega (arith, length-append (codes "root-" ++ hex_digits 16 n) (codes "@as4"), length-append (codes "root-") (hex_digits 16 n), length-hex_digits 16 n)

pub root_named : (n : ℕ) → IsContentId (root_id n)
root_named n = record {
  some = omega (arith, length-root_id n);
  limited = omega (arith, length-root_id n);
  each = λ k d low within. AllPass-from_list_all (allows Identifier) (root_id n) (root_passes (allows Identifier) refl refl refl n) k d within;
}

pub root_typed : IsTrue (is_media_text envelope_media)
unfolding is_media_text envelope_media
root_typed = refl

-- the root as a part like those of the payloads
abbrev pub root_payload : ℕ → List ℕ → Payload
root_payload n root = record { cid = root_id n; media = envelope_media; content = root; named = root_named n; typed = root_typed }

-- no payload has this Content-ID
none_named : (id : List ℕ) (parts : List Payload) → AllByRecursion (λ p. p.cid ≢ id) parts → list_any (has_id id) (map payload_part parts) ≡ false
none_named id [] apart = refl
none_named id (p ∷ parts) apart =
    let other : bytes_eq p.cid id ≡ false = false_from_ne_true (bytes_eq p.cid id) (λ same. apart.0 ((bytes_eq-Decides p.cid id).0 same)) in
    rw (other, none_named id parts apart.1) refl

pub root_again : (p : Payload) (parts : List Payload) → AllByRecursion (λ q. q.cid ≢ p.cid) parts
    → root_of (Some (bracketed p.cid)) (map payload_part (p ∷ parts)) ≡ Some (payload_part p, map payload_part parts)
unfolding root_of only_one
root_again p parts apart =
    let own : bytes_eq p.cid p.cid ≡ true = (bytes_eq-Decides p.cid p.cid).1 refl in
    rw (brackets_off p.cid, own, none_named p.cid parts apart) refl

-- no content is encoded
pub none_encoded : (index : ℕ) (parts : List Payload) → encoded_at index (map payload_part parts) ≡ None
unfolding encoded_at
none_encoded index [] = refl
none_encoded index (p ∷ parts) = none_encoded (index + 1) parts
