-- The loads of a submission, read back from its payloads.
use Rattle.std.proofs.Common.{◌≡◌, List, [], ◌∷◌, map, refl}
use Rattle.std.proofs.lemmas.Bool.{and_parts}
use Rattle.std.proofs.lemmas.Slice.Eq.{bytes_eq-Decides}
use Rattle.as4_audit.specs.Made.{loads_of}
use Rattle.as4_effects.specs.Sound.{nonce_in, is_id_of}
use Rattle.as4_effects.specs.declared.submission.Submission.{Submission}
use Rattle.as4_values.specs.Identifiers.{submission_id}
use Rattle.as4_values.specs.declared.payload.Load.{Load}
use Rattle.as4_values.specs.declared.payload.Payload.{Payload}

-- the media texts and contents determine the loads
pub loads_back : (payloads : List Payload) (loads : List Load)
    → map (λ (p : Payload). p.media) payloads ≡ map (λ (l : Load). l.media) loads
    → map (λ (p : Payload). p.content) payloads ≡ map (λ (l : Load). l.content) loads → loads_of payloads ≡ loads
loads_back [] [] medias contents = refl
loads_back [] (l ∷ loads) medias contents = absurd cc
loads_back (p ∷ payloads) [] medias contents = absurd cc
loads_back (p ∷ payloads) (l ∷ loads) medias contents =
    let media : p.media ≡ l.media = cc in
    let content : p.content ≡ l.content = cc in
    let more_medias : map (λ (p : Payload). p.media) payloads ≡ map (λ (l : Load). l.media) loads = cc in
    let more_contents : map (λ (p : Payload). p.content) payloads ≡ map (λ (l : Load). l.content) loads = cc in
    rw (media, content, loads_back payloads loads more_medias more_contents) refl

-- the identifier is made of the number and the nonce that is read from it
pub identified : (s : Submission) → s.header.id ≡ submission_id s.number (nonce_in s.number s.header.id)
unfolding is_id_of
identified s = (bytes_eq-Decides s.header.id (submission_id s.number (nonce_in s.number s.header.id))).0 (and_parts _ _ s.identified).1
