-- A conversation may be so long that a message isn't read back.
use Rattle.std.proofs.Common.{◌≡◌, ℕ, zero, suc, ◌*◌, ◌≤◌, List, [], ◌++◌, Some, length, replicate, length-append, arith, refl}
use Rattle.std.specs.Prelude.{codes}
use Rattle.std.specs.List.{flat_map}
use Rattle.as4_effects.specs.declared.submission.Submission.{Submission}
use Rattle.as4_envelope.specs.Markup.{escape_of, escaped, text_element, optional_attribute}
use Rattle.as4_values.specs.declared.header.UserHeader.{UserHeader}
use Rattle.exchange_model.specs.Table.{message_of}
use Rattle.message_laws.specs.Readable.{IsShort}
use Rattle.message_model.specs.UnitText.{message_info, party_info, agreement_text, service_text, collaboration_info, properties_text, payload_info, user_message}
use Rattle.submitted_laws.proofs.MarkupLengths.{length-element}
use Rattle.submitted_laws.proofs.SubmittedLengths.{length-envelope}

-- each quotation mark is written as six bytes
length-quotes : (n : ℕ) → length (escaped (replicate n 34)) ≡ n * 6
unfolding escaped
length-quotes zero = refl
length-quotes (suc n) = omega (arith, length-append (escape_of 34) (flat_map escape_of (replicate n 34)), length-quotes n)

collaboration_has : (h : UserHeader) (n : ℕ) → h.conversation ≡ Some (replicate n 34)
    → n * 6 ≤ length (collaboration_info h.agreement h.service h.action h.conversation)
unfolding collaboration_info text_element
collaboration_has h n talks =
    let front : List ℕ = agreement_text h.agreement ++ service_text h.service ++ text_element (codes "eb:Action") h.action in
    let talk : List ℕ = text_element (codes "eb:ConversationId") (replicate n 34) in
    rw talks
    (omega (
      arith,
      length-element (codes "eb:CollaborationInfo") [] (front ++ talk),
      length-append front talk,
      length-element (codes "eb:ConversationId") [] (escaped (replicate n 34)),
      length-quotes n,
    ))

message_has : (h : UserHeader) (n : ℕ) → h.conversation ≡ Some (replicate n 34) → n * 6 ≤ length (user_message h)
unfolding user_message
message_has h n talks =
    let front : List ℕ = message_info h.stamp h.id h.ref_to ++ party_info h.from h.to in
    let collaboration : List ℕ = collaboration_info h.agreement h.service h.action h.conversation in
    let properties : List ℕ = properties_text (codes "eb:MessageProperties") h.properties in
    let payloads : List ℕ = payload_info h.parts in
    omega (
      arith,
      length-element (codes "eb:UserMessage") (optional_attribute (codes "mpc") h.mpc) (front ++ collaboration ++ properties ++ payloads),
      length-append (front ++ collaboration ++ properties) payloads,
      length-append (front ++ collaboration) properties,
      length-append front collaboration,
      collaboration_has h n talks,
    )

pub long_is_not_short : (s : Submission) (n : ℕ) → 43691 ≤ n → s.header.conversation ≡ Some (replicate n 34) → ¬ IsShort (message_of s)
long_is_not_short s n long talks short =
    absurd (omega (arith, length-envelope (user_message s.header), message_has s.header n talks))
