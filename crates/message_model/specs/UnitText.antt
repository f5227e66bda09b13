-- The canonical text of a message unit (ebMS 3.0 Core, sections 5.2 and 6), element by element.
use Rattle.std.specs.Prelude.{ℕ, List, [], ◌++◌, Option, Some, None, unwrap_or, codes}
use Rattle.std.specs.List.{flat_map}
use Rattle.as4_envelope.specs.Markup.{element, attribute, escaped, text_element, optional_attribute, optional_element, listed}
use Rattle.as4_values.specs.declared.header.Party.{Party}
use Rattle.as4_values.specs.declared.header.Side.{Side}
use Rattle.as4_values.specs.declared.header.Agreement.{Agreement}
use Rattle.as4_values.specs.declared.header.Service.{Service}
use Rattle.as4_values.specs.declared.header.Property.{Property}
use Rattle.as4_values.specs.declared.header.PartInfo.{PartInfo}
use Rattle.as4_values.specs.declared.header.UserHeader.{UserHeader}
use Rattle.as4_values.specs.declared.signal_body.Severity.{Severity}
use Rattle.as4_values.specs.declared.signal_body.Severity.TheVariants.{Failure, Warning}
use Rattle.as4_values.specs.declared.signal_body.ErrorItem.{ErrorItem}
use Rattle.as4_values.specs.declared.signal_body.SignalBody.{SignalBody}
use Rattle.as4_values.specs.declared.signal_body.SignalBody.TheVariants.{Pull, Receipt, Errors}
use Rattle.as4_values.specs.declared.signal.Signal.{Signal}
use Rattle.as4_values.specs.declared.message.Pair.{Pair}
use Rattle.as4_values.specs.declared.message.Unit.{Unit as MessageUnit}
use Rattle.as4_values.specs.declared.message.Unit.TheVariants as unit

-- The stamp, the identifier and the reference of a unit: section 5.2.2.1.
unfoldable pub message_info : List ℕ → List ℕ → Option (List ℕ) → List ℕ
message_info stamp id ref_to =
    element (codes "eb:MessageInfo") []
    (text_element (codes "eb:Timestamp") stamp ++ text_element (codes "eb:MessageId") id
    ++ optional_element (codes "eb:RefToMessageId") ref_to)

-- The parties and the role of each side: sections 5.2.2.2 to 5.2.2.4.
unfoldable pub party_text : Party → List ℕ
party_text party =
    element (codes "eb:PartyId") (optional_attribute (codes "type") party.kind) (escaped party.id)

unfoldable pub side_text : List ℕ → Side → List ℕ
side_text name side =
    element name [] (flat_map party_text side.parties ++ text_element (codes "eb:Role") side.role)

unfoldable pub party_info : Side → Side → List ℕ
party_info from to =
    element (codes "eb:PartyInfo") [] (side_text (codes "eb:From") from ++ side_text (codes "eb:To") to)

-- The agreement, the service, the action and the conversation, empty where there is none: sections 5.2.2.5 to 5.2.2.9.
unfoldable pub agreement_text : Option Agreement → List ℕ
agreement_text None = []
agreement_text (Some agreement) =
    element (codes "eb:AgreementRef")
    (optional_attribute (codes "type") agreement.kind ++ optional_attribute (codes "pmode") agreement.pmode)
    (escaped agreement.value)

unfoldable pub service_text : Service → List ℕ
service_text service =
    element (codes "eb:Service") (optional_attribute (codes "type") service.kind) (escaped service.value)

unfoldable pub collaboration_info : Option Agreement → Service → List ℕ → Option (List ℕ) → List ℕ
collaboration_info agreement service action conversation =
    element (codes "eb:CollaborationInfo") []
    (agreement_text agreement ++ service_text service ++ text_element (codes "eb:Action") action
    ++ text_element (codes "eb:ConversationId") (unwrap_or conversation []))

-- Properties: sections 5.2.2.10 and 5.2.2.11; an empty list is omitted.
unfoldable pub property_text : Property → List ℕ
property_text property =
    element (codes "eb:Property")
    (attribute (codes "name") property.name ++ optional_attribute (codes "type") property.kind)
    (escaped (unwrap_or property.value []))

abbrev pub properties_text : List ℕ → List Property → List ℕ
properties_text name properties = listed name property_text properties

-- Part infos: sections 5.2.2.12 and 5.2.2.13; an empty list is omitted.
unfoldable pub part_info : PartInfo → List ℕ
part_info part =
    element (codes "eb:PartInfo") (optional_attribute (codes "href") part.href)
    (properties_text (codes "eb:PartProperties") part.properties)

abbrev pub payload_info : List PartInfo → List ℕ
payload_info parts = listed (codes "eb:PayloadInfo") part_info parts

-- A user message: section 5.2.2.
unfoldable pub user_message : UserHeader → List ℕ
user_message header =
    element (codes "eb:UserMessage") (optional_attribute (codes "mpc") header.mpc)
    (message_info header.stamp header.id header.ref_to ++ party_info header.from header.to
    ++ collaboration_info header.agreement header.service header.action header.conversation
    ++ properties_text (codes "eb:MessageProperties") header.properties
    ++ payload_info header.parts)

-- How bad an error is: section 6.2.
abbrev pub severity_text : Severity → List ℕ
severity_text Failure = codes "failure"
severity_text Warning = codes "warning"

-- An error: section 6.2.
unfoldable pub error_start : ErrorItem → List ℕ
error_start item =
    attribute (codes "errorCode") item.code ++ attribute (codes "severity") (severity_text item.severity)
    ++ optional_attribute (codes "origin") item.origin
    ++ optional_attribute (codes "category") item.category
    ++ optional_attribute (codes "refToMessageInError") item.about
    ++ optional_attribute (codes "shortDescription") item.short

unfoldable pub error_text : ErrorItem → List ℕ
error_text item =
    element (codes "eb:Error") (error_start item)
    (optional_element (codes "eb:Description") item.description
    ++ optional_element (codes "eb:ErrorDetail") item.detail)

-- A pull request: section 5.2.3.1.
unfoldable pub pull_text : List ℕ → List ℕ
pull_text mpc = element (codes "eb:PullRequest") (attribute (codes "mpc") mpc) []

-- A receipt, with a copy of the acknowledged message's header if there is one: section 5.2.3.3.
abbrev pub copy_text : Option UserHeader → List ℕ
copy_text None = []
copy_text (Some header) = user_message header

unfoldable pub receipt_text : Option UserHeader → List ℕ
receipt_text copy = element (codes "eb:Receipt") [] (copy_text copy)

-- A signal message: section 5.2.3.
abbrev pub body_text : SignalBody → List ℕ
body_text (Pull mpc) = pull_text mpc
body_text (Receipt copy) = receipt_text copy
body_text (Errors items) = flat_map error_text items

unfoldable pub signal_message : Signal → List ℕ
signal_message signal =
    element (codes "eb:SignalMessage") []
    (message_info signal.stamp signal.id signal.ref_to ++ body_text signal.body)

-- A receipt, followed by the pull request that is bundled with it: section 5.2.1.
unfoldable pub pair_text : Pair → List ℕ
pair_text pair = signal_message pair.receipt ++ signal_message pair.pull

abbrev pub unit_text : MessageUnit → List ℕ
unit_text (unit.User header) = user_message header
unit_text (unit.Signal signal) = signal_message signal
unit_text (unit.Pair pair) = pair_text pair

-- The envelope around a unit (SOAP 1.2 Part 1, section 5.1). Only its root declares prefixes.
unfoldable pub envelope_start : List ℕ
envelope_start =
    codes "<S:Envelope xmlns:S=\"http://www.w3.org/2003/05/soap-envelope\" xmlns:eb=\"http://docs.oasis-open.org/ebxml-msg/ebms/v3.0/ns/core/200704/\"><S:Header><eb:Messaging S:mustUnderstand=\"true\">"

unfoldable pub envelope_end : List ℕ
envelope_end = codes "</eb:Messaging></S:Header><S:Body></S:Body></S:Envelope>"

abbrev pub envelope_text : List ℕ → List ℕ
envelope_text unit = envelope_start ++ unit ++ envelope_end
