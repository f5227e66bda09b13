-- A producer's data makes at most one submission.
use Rattle.std.proofs.Common.{◌≡◌, ℕ, List, [], ◌∷◌, Option, map, refl, sym, ◌∙◌}
use Rattle.std.specs.Prelude.{length}
use Rattle.std.specs.List.{All}
use Rattle.std.proofs.lemmas.List.Elements.{All-head, All-tail}
use Rattle.as4_effects.specs.declared.submission.Submission.{Submission}
use Rattle.as4_values.proofs.MomentLemmas.{one_stamp_of}
use Rattle.as4_values.specs.declared.header.PartInfo.{PartInfo}
use Rattle.as4_values.specs.declared.header.UserHeader.{UserHeader}
use Rattle.mode_values.specs.declared.mode.Mode.{Mode}
use Rattle.as4_values.specs.declared.payload.Load.{Load}
use Rattle.as4_values.specs.declared.payload.Payload.{Payload}
use Rattle.as4_effects.proofs.PartLemmas.{part_told, submission_told, payload_told, header_told}
use Rattle.as4_effects.specs.Parts.{part_parts, submission_parts, payload_parts, header_parts}
use Rattle.exchange_model.specs.Submitting.{IsHeaderOf, IsSubmissionOf}

abbrev href : PartInfo → Option (List ℕ)
href part = part.href

abbrev IsBare : PartInfo → Type 0
IsBare part = part.properties ≡ []

one_part : (p q : PartInfo) → p.href ≡ q.href → IsBare p → IsBare q → p ≡ q
one_part p q e a b = let same : p.properties ≡ q.properties = a ∙ sym b in part_told p q (let f : part_parts p ≡ part_parts q = cc in f)

-- their references determine bare part infos
one_parts : (ps qs : List PartInfo) → map href ps ≡ map href qs → All IsBare ps → All IsBare qs → ps ≡ qs
one_parts [] [] e a b = refl
one_parts [] (q ∷ qs) e a b = absurd cc
one_parts (p ∷ ps) [] e a b = absurd cc
one_parts (p ∷ ps) (q ∷ qs) e a b =
    let first : p.href ≡ q.href = cc in
    let rest : map href ps ≡ map href qs = cc in
    let same : p ≡ q = one_part p q first (All-head IsBare p ps a) (All-head IsBare q qs b) in
    let more : ps ≡ qs = one_parts ps qs rest (All-tail IsBare p ps a) (All-tail IsBare q qs b) in cc

one_header : (mode : Mode) (id : List ℕ) (ms : ℕ) (conversation : Option (List ℕ)) (count : ℕ) (a b : UserHeader)
    → IsHeaderOf mode id ms conversation count a → IsHeaderOf mode id ms conversation count b → a ≡ b
one_header mode id ms conversation count a b h k =
    let mpc : a.mpc ≡ b.mpc = h.mpc ∙ sym k.mpc in
    let stamp : a.stamp ≡ b.stamp = one_stamp_of ms a.stamp b.stamp h.stamped k.stamped in
    let named : a.id ≡ b.id = h.named ∙ sym k.named in
    let ref_to : a.ref_to ≡ b.ref_to = h.refers ∙ sym k.refers in
    let from : a.from ≡ b.from = h.from ∙ sym k.from in
    let to : a.to ≡ b.to = h.to ∙ sym k.to in
    let agreement : a.agreement ≡ b.agreement = h.agreement ∙ sym k.agreement in
    let service : a.service ≡ b.service = h.service ∙ sym k.service in
    let action : a.action ≡ b.action = h.action ∙ sym k.action in
    let talks : a.conversation ≡ b.conversation = h.talks ∙ sym k.talks in
    let properties : a.properties ≡ b.properties = h.properties ∙ sym k.properties in
    let parts : a.parts ≡ b.parts = one_parts a.parts b.parts (h.hrefs ∙ sym k.hrefs) h.bare k.bare in
    header_told a b (let e : header_parts a ≡ header_parts b = cc in e)

abbrev cid : Payload → List ℕ
cid p = p.cid

abbrev media : Payload → List ℕ
media p = p.media

abbrev content : Payload → List ℕ
content p = p.content

-- identifiers, media texts and contents determine payloads
one_payloads : (ps qs : List Payload) → map cid ps ≡ map cid qs → map media ps ≡ map media qs → map content ps ≡ map content qs → ps ≡ qs
one_payloads [] [] c m t = refl
one_payloads [] (q ∷ qs) c m t = absurd cc
one_payloads (p ∷ ps) [] c m t = absurd cc
one_payloads (p ∷ ps) (q ∷ qs) c m t =
    let first : p.cid ≡ q.cid = cc in
    let second : p.media ≡ q.media = cc in
    let third : p.content ≡ q.content = cc in
    let same : p ≡ q = payload_told p q (let e : payload_parts p ≡ payload_parts q = cc in e) in
    let cids : map cid ps ≡ map cid qs = cc in
    let medias : map media ps ≡ map media qs = cc in
    let contents : map content ps ≡ map content qs = cc in
    let rest : ps ≡ qs = one_payloads ps qs cids medias contents in cc

pub one_submission : (mode : Mode) (number now ms nonce : ℕ) (conversation : Option (List ℕ)) (loads : List Load) (s t : Submission)
    → IsSubmissionOf mode number now ms nonce conversation loads s → IsSubmissionOf mode number now ms nonce conversation loads t → s ≡ t
one_submission mode number now ms nonce conversation loads s t h k =
    let numbered : s.number ≡ t.number = h.numbered ∙ sym k.numbered in
    let header : s.header ≡ t.header = one_header mode _ ms conversation (length loads) s.header t.header h.headed k.headed in
    let payloads : s.payloads ≡ t.payloads =
    one_payloads s.payloads t.payloads (h.loaded.cids ∙ sym k.loaded.cids) (h.loaded.medias ∙ sym k.loaded.medias) (h.loaded.contents ∙ sym k.loaded.contents) in
    let route : s.route ≡ t.route = h.route ∙ sym k.route in
    let retries : s.retries ≡ t.retries = h.retries ∙ sym k.retries in
    let period : s.period ≡ t.period = h.period ∙ sym k.period in
    let moment : s.moment ≡ t.moment = h.moment ∙ sym k.moment in
    submission_told s t (let e : submission_parts s ≡ submission_parts t = cc in e)
