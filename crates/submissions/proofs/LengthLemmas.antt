-- The most bytes that a submission by a mode has in an effect.
use Rattle.std.proofs.Common.{◌≡◌, ℕ, ◌+◌, ◌*◌, ◌≤◌, List, [], ◌∷◌, ◌++◌, length, map, length-append, arith, refl, ap, ◌∙◌}
use Rattle.std.specs.Prelude.{Option, Some, IsTrue, IfSome, codes}
use Rattle.std.specs.List.{All, flat_map, sum_by}
use Rattle.std.proofs.lemmas.Bool.Decides.{nat_tests}
use Rattle.std.proofs.lemmas.List.Elements.{All-nil, All-cons, All-head, All-tail}
use Rattle.std.proofs.lemmas.List.Sums.{sum_by-cons}
use Rattle.as4_values.proofs.MomentTextLemmas.{of_moment}
use Rattle.as4_values.proofs.PayloadLemmas.{media_limited}
use Rattle.mode_values.specs.ModeRanges.{is_mode_route}
use Rattle.as4_values.specs.Moment.{IsStampOf}
use Rattle.as4_values.specs.declared.header.PartInfo.{PartInfo}
use Rattle.as4_values.specs.declared.header.UserHeader.{UserHeader}
use Rattle.mode_values.specs.declared.mode.Mode.{Mode}
use Rattle.as4_values.specs.declared.payload.Load.{Load}
use Rattle.as4_values.specs.declared.payload.Payload.{Payload}
use Rattle.as4_values.specs.declared.route.Route.{Route}
use Rattle.as4_effects.proofs.LengthLemmas.{number_length}
use Rattle.as4_effects.specs.Bodies.{number_body, text_body, option_body, list_body, side_body, agreement_body, service_body, part_body, property_body, header_body, payload_body}
use Rattle.as4_effects.specs.Sound.{submitted_body, fits_an_effect}
use Rattle.exchange_model.specs.Submitting.{IsHeaderOf, cids_of}
use Rattle.submissions.proofs.ModeLengthLemmas.{text_length, text_within, option_within, short_text, list_within, side_length, agreement_length, service_length, mpc_length, route_length}

stamp_length : (ms : ℕ) (stamp : List ℕ) → IsStampOf ms stamp → length (text_body stamp) ≡ 28
stamp_length ms stamp is = omega (arith, text_length stamp, (of_moment stamp (is.0, is.1, is.4)).len)

-- a part info with only a reference
part_length : (part : PartInfo) (cid : List ℕ) → part.href ≡ Some (codes "cid:" ++ cid) → part.properties ≡ [] → length cid ≤ 82 → length (part_body part) ≤ 95
unfolding part_body
part_length part cid href bare short =
    rw (length-append (option_body text_body part.href) (list_body property_body part.properties), href, bare)
    (omega (arith, text_length (codes "cid:" ++ cid), length-append (number_body 4 0) [], number_length 4 0))

part_lengths : (parts : List PartInfo) (cids : List (List ℕ)) → map (λ (part : PartInfo). part.href) parts ≡ map (λ cid. Some (codes "cid:" ++ cid)) cids
    → All (λ (part : PartInfo). part.properties ≡ []) parts → All (λ cid. length cid ≤ 82) cids → All (λ (part : PartInfo). length (part_body part) ≤ 95) parts
part_lengths [] cids same bare short = All-nil (λ (part : PartInfo). length (part_body part) ≤ 95)
part_lengths (part ∷ parts) [] same bare short = absurd cc
part_lengths (part ∷ parts) (cid ∷ cids) same bare short =
    let first : part.href ≡ Some (codes "cid:" ++ cid) = cc in
    let rest : map (λ (p : PartInfo). p.href) parts ≡ map (λ c. Some (codes "cid:" ++ c)) cids = cc in
    All-cons (λ (p : PartInfo). length (part_body p) ≤ 95) part parts
    (part_length part cid first (All-head (λ (p : PartInfo). p.properties ≡ []) part parts bare) (All-head (λ c. length c ≤ 82) cid cids short))
    (part_lengths parts cids rest (All-tail (λ (p : PartInfo). p.properties ≡ []) part parts bare) (All-tail (λ c. length c ≤ 82) cid cids short))

abbrev pub IsShortHeader : UserHeader → Type 0
IsShortHeader h = length (header_body h) ≤ 200000

pub header_is_short : (mode : Mode) (id : List ℕ) (ms : ℕ) (conversation : Option (List ℕ)) (count : ℕ) (h : UserHeader)
    → IsHeaderOf mode id ms conversation count h → length id ≤ 61 → IfSome conversation (λ text. length text ≤ 65536)
    → All (λ cid. length cid ≤ 82) (cids_of id count) → length h.parts ≤ 64 → IsShortHeader h
unfolding header_body
header_is_short mode id ms conversation count h headed named talks cids few =
    let mpc : length (option_body text_body h.mpc) ≤ 260 = rw headed.mpc (mpc_length mode.route mode.routed) in
    let stamp : length (text_body h.stamp) ≡ 28 = stamp_length ms h.stamp headed.stamped in
    let its_id : length (text_body h.id) ≤ 65 = rw headed.named (text_within id 61 named) in
    let refers : length (option_body text_body h.ref_to) ≡ 1 = rw headed.refers refl in
    let from : length (side_body h.from) ≤ 8567 = rw headed.from (side_length mode.from mode.from_short) in
    let to : length (side_body h.to) ≤ 8567 = rw headed.to (side_length mode.to mode.to_short) in
    let agreed : length (option_body agreement_body h.agreement) ≤ 521 = rw headed.agreement (agreement_length mode.agreement mode.agreed) in
    let service : length (service_body h.service) ≤ 519 = rw headed.service (service_length mode.service mode.service_short) in
    let action : length (text_body h.action) ≤ 259 = rw headed.action (short_text mode.action mode.action_short) in
    let talk : length (option_body text_body h.conversation) ≤ 65541 = rw headed.talks (option_within conversation 65536 talks) in
    let properties : length (list_body property_body h.properties) ≡ 4 =
    rw headed.properties (length-append (number_body 4 0) [] ∙ omega (arith, number_length 4 0)) in
    let parts : length (list_body part_body h.parts) ≤ length h.parts * 95 + 4 =
    list_within part_body h.parts 64 95 few (part_lengths h.parts (cids_of id count) headed.hrefs headed.bare cids) in
    simp length-append
    (omega (
      arith,
      length-append (number_body 4 (length h.properties)) (flat_map property_body h.properties),
      length-append (number_body 4 (length h.parts)) (flat_map part_body h.parts),
    ))

payload_length : (p : Payload) → length (payload_body p) ≤ 1300 + length p.content
unfolding payload_body
payload_length p =
    let cid : length p.cid ≤ 255 = p.named.limited in
    let media : length p.media ≤ 1024 = media_limited p.media p.typed in
    simp length-append (omega (arith, text_length p.cid, text_length p.media, text_length p.content))

payload_lengths : (payloads : List Payload) (loads : List Load)
    → map (λ (p : Payload). p.content) payloads ≡ map (λ (l : Load). l.content) loads
    → length (flat_map payload_body payloads) ≤ length loads * 1300 + sum_by (λ (l : Load). length l.content) loads
payload_lengths [] [] same = omega arith
payload_lengths [] (l ∷ loads) same = absurd cc
payload_lengths (p ∷ payloads) [] same = absurd cc
payload_lengths (p ∷ payloads) (l ∷ loads) same =
    let first : p.content ≡ l.content = cc in
    let rest : map (λ (q : Payload). q.content) payloads ≡ map (λ (m : Load). m.content) loads = cc in
    rw (length-append (payload_body p) (flat_map payload_body payloads), sum_by-cons (λ (m : Load). length m.content) l loads)
    (omega (arith, payload_length p, ap length first, payload_lengths payloads loads rest))

-- a submission by a mode fits an effect
pub submission_fits : (number retries period moment : ℕ) (h : UserHeader) (payloads : List Payload) (loads : List Load) (r : Route)
    → IsShortHeader h → map (λ (p : Payload). p.content) payloads ≡ map (λ (l : Load). l.content) loads → length loads ≤ 64
    → sum_by (λ (l : Load). length l.content) loads ≤ 62914560 → IsTrue (is_mode_route r)
    → IsTrue (fits_an_effect (submitted_body number h payloads r retries period moment))
unfolding fits_an_effect
submission_fits number retries period moment h payloads loads r short same few limited routed =
    let len : length (submitted_body number h payloads r retries period moment) ≤ 536870910 =
    simp (length-append, number_length) (omega (arith, payload_lengths payloads loads same, route_length r routed)) in
    grind (arith, nat_tests)
