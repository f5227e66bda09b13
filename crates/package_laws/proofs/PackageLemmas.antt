-- A written envelope and its payloads are read back.
use Rattle.std.proofs.Common.{◌≡◌, ◌≢◌, ℕ, ◌≤◌, true, List, [], ◌∷◌, ◌++◌, length, map, Some, None, refl, ap, ◌∙◌, append_assoc}
use Rattle.std.specs.Prelude.{Ok, codes}
use Rattle.std.specs.List.{flat_map}
use Rattle.std.proofs.lemmas.List.Elements.{recursion_from_All}
use Rattle.as4_values.specs.declared.payload.Payload.{Payload}
use Rattle.byte_forms.specs.Cuts.{run_at, strip_prefix}
use Rattle.message_model.specs.Package.{crlf, dash_boundary, root_id, envelope_media, package_media, part_text, payload_text, package_body, Occurs, IsFree}
use Rattle.mime_fields.specs.Fields.{PartValue}
use Rattle.mime_fields.specs.MediaTypes.{MediaType, value_at, parameter_at, parameters_within, media_type_of}
use Rattle.mime_package.proofs.AgainLemmas.{body_again}
use Rattle.mime_package.specs.Reading.{is_envelope, parameter, boundary_of, parts_of, root_of, is_root, encoded_at, with_root, related, typed, package_of}
use Rattle.package_laws.proofs.BodyLemmas.{body, has_parts}
use Rattle.package_laws.proofs.PieceLemmas.{boundary}
use Rattle.package_laws.proofs.RootLemmas.{root_payload, root_again, none_encoded}
use Rattle.package_laws.proofs.TypeLemmas.{package_type, media_again, boundary_is}
use Rattle.package_laws.proofs.ValueLemmas.{bracketed}
use Rattle.package_laws.specs.Written.{payload_part}

-- a bare envelope

abbrev envelope_type : MediaType
envelope_type = record { kind = codes "application"; subkind = codes "soap+xml"; parameters = record { name = codes "charset"; value = codes "UTF-8" } ∷ [] }

envelope_media_again : media_type_of envelope_media ≡ Some envelope_type
unfolding envelope_media media_type_of run_at strip_prefix parameters_within parameter_at value_at
envelope_media_again = refl

-- the media type that is read decides how the body is read
by_type : (media body : List ℕ) (m : MediaType) → media_type_of media ≡ Some m → package_of media body ≡ typed body m
unfolding package_of
by_type media body m e = rw (e, package_of) refl

pub envelope_again : (root : List ℕ) → package_of envelope_media root ≡ Ok (record { root = root; parts = [] })
unfolding is_envelope
envelope_again root = by_type envelope_media root envelope_type envelope_media_again

-- a package

body_is : (n : ℕ) (root : List ℕ) (payloads : List Payload) → package_body n root payloads ≡ body n (root_payload n root ∷ payloads)
unfolding package_body payload_text
body_is n root payloads = regroup (part_text n (root_id n) envelope_media root ++ flat_map (payload_text n) payloads) (dash_boundary n) (codes "--")
  where
    regroup : (parts d e : List ℕ) → parts ++ d ++ e ++ crlf ≡ parts ++ (d ++ (e ++ crlf))
    regroup parts d e = simp append_assoc

-- the root is an envelope
is_envelope_root : (part : PartValue) → part.media ≡ envelope_media → is_root part ≡ true
unfolding is_envelope
is_envelope_root part e = rw (e, envelope_media_again, is_root) refl

rooted : (parts others : List PartValue) (part : PartValue) → is_root part ≡ true → encoded_at 0 parts ≡ None
    → with_root parts (Some (part, others)) ≡ Ok (record { root = part.content; parts = others })
rooted parts others part is none = rw (is, none) refl

-- the package, from the body's parts
by_parts : (n : ℕ) (bytes : List ℕ) (parts : List PartValue) → parts_of (boundary n) bytes ≡ Ok parts
    → typed bytes (package_type n) ≡ with_root parts (root_of (Some (bracketed (root_id n))) parts)
unfolding is_envelope related boundary_of parameter
by_parts n bytes parts e = rw (boundary_is n, e, related) refl

pub package_again : (root : List ℕ) (n : ℕ) (payloads : List Payload) → IsFree n root payloads → length payloads ≤ 255
    → package_of (package_media n) (package_body n root payloads) ≡ Ok (record { root = root; parts = map payload_part payloads })
package_again root n payloads free few =
    let first : Payload = root_payload n root in
    let bytes : List ℕ = body n (first ∷ payloads) in
    let all : List PartValue = map payload_part (first ∷ payloads) in
    let has = has_parts n first payloads (free.in_root, recursion_from_All (λ p. Occurs (dash_boundary n) p.content → ⊥) payloads free.in_payloads) few in
    let found = root_again first payloads (recursion_from_All (λ p. p.cid ≢ root_id n) payloads free.named) in
    ap (package_of (package_media n)) (body_is n root payloads)
    ∙ by_type (package_media n) bytes (package_type n) (media_again n)
    ∙ by_parts n bytes all (body_again (boundary n) bytes all (boundary_is n) has)
    ∙ ap (with_root all) found
    ∙ rooted all (map payload_part payloads) (payload_part first) (is_envelope_root (payload_part first) refl) (none_encoded 0 (first ∷ payloads))
