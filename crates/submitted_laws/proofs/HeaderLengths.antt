-- The most bytes of the header of a submission.
use Rattle.std.proofs.Common.{◌≡◌, ℕ, ◌+◌, ◌<◌, ◌≤◌, List, [], ◌∷◌, ◌++◌, length, map, length-append, arith, refl}
use Rattle.std.specs.Prelude.{Option, Some, codes, unwrap_or}
use Rattle.std.specs.Fmt.{decimal}
use Rattle.std.specs.List.{All, range_with_len}
use Rattle.std.proofs.lemmas.Fmt.{length-decimal-le}
use Rattle.std.proofs.lemmas.List.Elements.{All-nil, All-cons, All-head, All-tail, All-map, All-from_get_or}
use Rattle.std.proofs.lemmas.List.FromFn.{get_or-range_with_len, length-range_with_len}
use Rattle.as4_envelope.specs.Markup.{text_element, optional_attribute, optional_element, listed}
use Rattle.as4_values.proofs.MomentTextLemmas.{of_moment}
use Rattle.as4_values.specs.Moment.{IsStampOf}
use Rattle.as4_values.specs.declared.header.PartInfo.{PartInfo}
use Rattle.as4_values.specs.declared.header.UserHeader.{UserHeader}
use Rattle.exchange_model.specs.Submitting.{IsHeaderOf, cids_of}
use Rattle.message_model.specs.UnitText.{message_info, party_info, agreement_text, service_text, collaboration_info, properties_text, part_info, payload_info, user_message}
use Rattle.mode_values.specs.declared.mode.Mode.{Mode}
use Rattle.submissions.specs.Names.{ArePartsOf}
use Rattle.submissions.proofs.StepLemmas.{parts_counted}
use Rattle.submitted_laws.proofs.MarkupLengths.{IsWithin, length-element, text_element_within, optional_attribute_within, optional_element_within, unwrapped_within, listed_within}
use Rattle.submitted_laws.proofs.ModeLengths.{short_text, parties_within, service_within, agreement_within, channel_within}

stamp_length : (ms : ℕ) (stamp : List ℕ) → IsStampOf ms stamp → length stamp ≡ 24
stamp_length ms stamp is = (of_moment stamp (is.0, is.1, is.4)).len

-- a stamp of 24 bytes, and an identifier and a reference of at most 61
pub info_within : (ms : ℕ) (stamp id : List ℕ) (ref_to : Option (List ℕ)) → IsStampOf ms stamp → length id ≤ 61 → IsWithin 61 ref_to
    → length (message_info stamp id ref_to) ≤ 1006
unfolding message_info
info_within ms stamp id ref_to stamped named refers =
    let inner : List ℕ = text_element (codes "eb:Timestamp") stamp ++ text_element (codes "eb:MessageId") id in
    let last : List ℕ = optional_element (codes "eb:RefToMessageId") ref_to in
    omega (
      arith,
      length-element (codes "eb:MessageInfo") [] (inner ++ last),
      length-append inner last,
      length-append (text_element (codes "eb:Timestamp") stamp) (text_element (codes "eb:MessageId") id),
      text_element_within (codes "eb:Timestamp") stamp,
      stamp_length ms stamp stamped,
      text_element_within (codes "eb:MessageId") id,
      optional_element_within (codes "eb:RefToMessageId") ref_to 61 refers,
    )

-- what a mode says of a collaboration, and a conversation of at most 255 bytes
collaboration_within : (mode : Mode) (conversation : Option (List ℕ)) → IsWithin 255 conversation
    → length (collaboration_info mode.agreement mode.service mode.action conversation) ≤ 9363
unfolding collaboration_info
collaboration_within mode conversation talks =
    let agreement : List ℕ = agreement_text mode.agreement in
    let service : List ℕ = service_text mode.service in
    let action : List ℕ = text_element (codes "eb:Action") mode.action in
    let talk : List ℕ = text_element (codes "eb:ConversationId") (unwrap_or conversation []) in
    omega (
      arith,
      length-element (codes "eb:CollaborationInfo") [] (agreement ++ service ++ action ++ talk),
      length-append (agreement ++ service ++ action) talk,
      length-append (agreement ++ service) action,
      length-append agreement service,
      agreement_within mode.agreement mode.agreed,
      service_within mode.service mode.service_short,
      text_element_within (codes "eb:Action") mode.action,
      short_text mode.action mode.action_short,
      text_element_within (codes "eb:ConversationId") (unwrap_or conversation []),
      unwrapped_within conversation 255 talks,
    )

-- a part info with only a reference to a Content-ID
part_within : (part : PartInfo) (cid : List ℕ) → part.href ≡ Some (codes "cid:" ++ cid) → part.properties ≡ [] → length cid ≤ 65
    → length (part_info part) ≤ 449
unfolding part_info listed
part_within part cid href bare short =
    rw (length-element (codes "eb:PartInfo") (optional_attribute (codes "href") part.href) (properties_text (codes "eb:PartProperties") part.properties), href, bare)
    (omega (arith, optional_attribute_within (codes "href") (Some (codes "cid:" ++ cid)) 69 (omega arith)))

parts_within : (parts : List PartInfo) (cids : List (List ℕ)) → map (λ (part : PartInfo). part.href) parts ≡ map (λ cid. Some (codes "cid:" ++ cid)) cids
    → All (λ (part : PartInfo). part.properties ≡ []) parts → All (λ cid. length cid ≤ 65) cids → All (λ (part : PartInfo). length (part_info part) ≤ 449) parts
parts_within [] cids same bare short = All-nil (λ (part : PartInfo). length (part_info part) ≤ 449)
parts_within (part ∷ parts) [] same bare short = absurd cc
parts_within (part ∷ parts) (cid ∷ cids) same bare short =
    let first : part.href ≡ Some (codes "cid:" ++ cid) = cc in
    let rest : map (λ (p : PartInfo). p.href) parts ≡ map (λ c. Some (codes "cid:" ++ c)) cids = cc in
    All-cons (λ (p : PartInfo). length (part_info p) ≤ 449) part parts
    (part_within part cid first (All-head (λ (p : PartInfo). p.properties ≡ []) part parts bare) (All-head (λ c. length c ≤ 65) cid cids short))
    (parts_within parts cids rest (All-tail (λ (p : PartInfo). p.properties ≡ []) part parts bare) (All-tail (λ c. length c ≤ 65) cid cids short))

-- a place of at most three digits, a point and the identifier
cid_within : (id : List ℕ) (k : ℕ) → length id ≤ 61 → k < 255 → length (decimal (k + 1) ++ codes "." ++ id) ≤ 65
cid_within id k named below =
    let digits : length (decimal (k + 1)) ≤ 3 = length-decimal-le 3 (k + 1) (omega arith) (omega arith) (omega arith) in
    simp length-append (omega arith)

cids_within : (id : List ℕ) (count : ℕ) → length id ≤ 61 → count ≤ 255 → All (λ cid. length cid ≤ 65) (cids_of id count)
unfolding cids_of
cids_within id count named few =
    All-map (λ cid. length cid ≤ 65) (λ k. decimal (k + 1) ++ codes "." ++ id) (range_with_len 0 count)
    (All-from_get_or (λ k. length (decimal (k + 1) ++ codes "." ++ id) ≤ 65) (range_with_len 0 count) 0
    (λ i within. let below : i < count = rw (length-range_with_len 0 count) at within in
    rw (get_or-range_with_len 0 count i 0 below) (cid_within id (0 + i) named (omega arith))))

-- the part infos of a submission are at most 255, as those of each header
payloads_within : (id : List ℕ) (count : ℕ) (h : UserHeader) → length id ≤ 61 → ArePartsOf id count h.parts
    → length (payload_info h.parts) ≤ 114528
payloads_within id count h named are =
    let many : length h.parts ≡ count = parts_counted id count h.parts are in
    let few : length h.parts ≤ 255 = h.parts_counted in
    let each : All (λ (part : PartInfo). length (part_info part) ≤ 449) h.parts =
    parts_within h.parts (cids_of id count) are.hrefs are.bare (cids_within id count named (omega arith)) in
    omega (arith, listed_within (codes "eb:PayloadInfo") part_info h.parts 449 each)

no_properties : (h : UserHeader) → h.properties ≡ [] → length (properties_text (codes "eb:MessageProperties") h.properties) ≡ 0
unfolding listed
no_properties h none = rw none refl

-- the user message of a header by a mode, with a conversation of at most 255 bytes
pub user_message_within : (mode : Mode) (id : List ℕ) (ms : ℕ) (conversation : Option (List ℕ)) (count : ℕ) (h : UserHeader)
    → IsHeaderOf mode id ms conversation count h → length id ≤ 61 → IsWithin 255 conversation → length (user_message h) ≤ 228604
unfolding user_message
user_message_within mode id ms conversation count h headed named talks =
    let channel : IsWithin 255 h.mpc = rw headed.mpc (channel_within mode.route mode.routed) in
    let its_id : length h.id ≤ 61 = rw headed.named named in
    let refers : IsWithin 61 h.ref_to = rw headed.refers tt in
    let info : List ℕ = message_info h.stamp h.id h.ref_to in
    let parties : List ℕ = party_info h.from h.to in
    let collaboration : List ℕ = collaboration_info h.agreement h.service h.action h.conversation in
    let properties : List ℕ = properties_text (codes "eb:MessageProperties") h.properties in
    let payloads : List ℕ = payload_info h.parts in
    let parties_most : length parties ≤ 102137 = rw (headed.from, headed.to) (parties_within mode.from mode.to mode.from_short mode.to_short) in
    let collaboration_most : length collaboration ≤ 9363 =
    rw (headed.agreement, headed.service, headed.action, headed.talks) (collaboration_within mode conversation talks) in
    let payloads_most : length payloads ≤ 114528 = payloads_within id count h named (record { hrefs = headed.hrefs; bare = headed.bare }) in
    omega (
      arith,
      length-element (codes "eb:UserMessage") (optional_attribute (codes "mpc") h.mpc) (info ++ parties ++ collaboration ++ properties ++ payloads),
      length-append (info ++ parties ++ collaboration ++ properties) payloads,
      length-append (info ++ parties ++ collaboration) properties,
      length-append (info ++ parties) collaboration,
      length-append info parties,
      optional_attribute_within (codes "mpc") h.mpc 255 channel,
      info_within ms h.stamp h.id h.ref_to headed.stamped its_id refers,
      no_properties h headed.properties,
    )
