-- A message unit as the tree of its envelope (ebMS 3.0 Core, sections 5.2 and 6; SOAP 1.2 Part 1, section 5), element
-- by element: the canonical text of the unit is the text of this tree.
use Rattle.std.specs.Prelude.{ℕ, List, [], ◌∷◌, ◌++◌, Option, Some, None, unwrap_or, codes, map}
use Rattle.as4_envelope.specs.Tree.{soap, ebms}
use Rattle.as4_envelope.specs.declared.tree.Attribute.{Attribute}
use Rattle.as4_envelope.specs.declared.tree.Element.{Element}
use Rattle.as4_envelope.specs.declared.tree.Element.TheViews.{roll-Element}
use Rattle.as4_values.specs.declared.header.Party.{Party}
use Rattle.as4_values.specs.declared.header.Side.{Side}
use Rattle.as4_values.specs.declared.header.Agreement.{Agreement}
use Rattle.as4_values.specs.declared.header.Service.{Service}
use Rattle.as4_values.specs.declared.header.Property.{Property}
use Rattle.as4_values.specs.declared.header.PartInfo.{PartInfo}
use Rattle.as4_values.specs.declared.header.UserHeader.{UserHeader}
use Rattle.as4_values.specs.declared.signal_body.ErrorItem.{ErrorItem}
use Rattle.as4_values.specs.declared.signal_body.SignalBody.{SignalBody}
use Rattle.as4_values.specs.declared.signal_body.SignalBody.TheVariants.{Pull, Receipt, Errors}
use Rattle.as4_values.specs.declared.signal.Signal.{Signal}
use Rattle.as4_values.specs.declared.message.Unit.{Unit as MessageUnit}
use Rattle.as4_values.specs.declared.message.Unit.TheVariants as unit
use Rattle.message_model.specs.UnitText.{severity_text}

abbrev pub attribute_of : List ℕ → List ℕ → List ℕ → Attribute
attribute_of space local value = record { space = space; local = local; value = value }

abbrev pub node : List ℕ → List ℕ → List Attribute → List ℕ → List Element → Element
node space local attributes text children = roll-Element (record {
  space = space;
  local = local;
  attributes = attributes;
  text = text;
  children = children;
})

-- an element of ebMS that holds elements, and one that holds a text
abbrev pub parent : List ℕ → List Attribute → List Element → Element
parent local attributes children = node ebms local attributes [] children

abbrev pub leaf : List ℕ → List Attribute → List ℕ → Element
leaf local attributes text = node ebms local attributes text []

-- an attribute in no namespace
abbrev pub plain_attribute : List ℕ → List ℕ → Attribute
plain_attribute local value = attribute_of [] local value

-- an attribute that is omitted if there is no value
unfoldable pub optional_attributes : List ℕ → Option (List ℕ) → List Attribute
optional_attributes local None = []
optional_attributes local (Some value) = plain_attribute local value ∷ []

unfoldable pub optional_leaves : List ℕ → Option (List ℕ) → List Element
optional_leaves local None = []
optional_leaves local (Some text) = leaf local [] text ∷ []

-- an element that holds the elements of all items, in order, and is omitted if there are none
unfoldable pub listed_in : {X : Type 0} → List ℕ → (X → Element) → List X → List Element
listed_in local tree [] = []
listed_in local tree (first ∷ others) = parent local [] (map tree (first ∷ others)) ∷ []

-- The stamp, the identifier and the reference of a unit.
unfoldable pub message_info_tree : List ℕ → List ℕ → Option (List ℕ) → Element
message_info_tree stamp id ref_to =
    parent (codes "MessageInfo") []
    (leaf (codes "Timestamp") [] stamp ∷ leaf (codes "MessageId") [] id ∷ optional_leaves (codes "RefToMessageId") ref_to)

-- The parties and the role of each side.
unfoldable pub party_tree : Party → Element
party_tree party = leaf (codes "PartyId") (optional_attributes (codes "type") party.kind) party.id

unfoldable pub side_tree : List ℕ → Side → Element
side_tree local side = parent local [] (map party_tree side.parties ++ leaf (codes "Role") [] side.role ∷ [])

unfoldable pub party_info_tree : Side → Side → Element
party_info_tree from to =
    parent (codes "PartyInfo") [] (side_tree (codes "From") from ∷ side_tree (codes "To") to ∷ [])

-- The agreement, the service, the action and the conversation, empty where there is none.
unfoldable pub agreement_trees : Option Agreement → List Element
agreement_trees None = []
agreement_trees (Some agreement) =
    leaf (codes "AgreementRef")
    (optional_attributes (codes "type") agreement.kind ++ optional_attributes (codes "pmode") agreement.pmode)
    agreement.value ∷ []

unfoldable pub service_tree : Service → Element
service_tree service = leaf (codes "Service") (optional_attributes (codes "type") service.kind) service.value

unfoldable pub collaboration_info_tree : Option Agreement → Service → List ℕ → Option (List ℕ) → Element
collaboration_info_tree agreement service action conversation =
    parent (codes "CollaborationInfo") []
    (agreement_trees agreement ++ service_tree service ∷ leaf (codes "Action") [] action
    ∷ leaf (codes "ConversationId") [] (unwrap_or conversation []) ∷ [])

-- Properties and part infos; an empty list is omitted.
unfoldable pub property_tree : Property → Element
property_tree property =
    leaf (codes "Property")
    (plain_attribute (codes "name") property.name ∷ optional_attributes (codes "type") property.kind)
    (unwrap_or property.value [])

unfoldable pub part_tree : PartInfo → Element
part_tree part =
    parent (codes "PartInfo") (optional_attributes (codes "href") part.href)
    (listed_in (codes "PartProperties") property_tree part.properties)

-- A user message.
unfoldable pub user_tree : UserHeader → Element
user_tree header =
    parent (codes "UserMessage") (optional_attributes (codes "mpc") header.mpc)
    (message_info_tree header.stamp header.id header.ref_to ∷ party_info_tree header.from header.to
    ∷ collaboration_info_tree header.agreement header.service header.action header.conversation
    ∷ listed_in (codes "MessageProperties") property_tree header.properties
    ++ listed_in (codes "PayloadInfo") part_tree header.parts)

-- An error.
unfoldable pub error_attributes : ErrorItem → List Attribute
error_attributes item =
    plain_attribute (codes "errorCode") item.code ∷ plain_attribute (codes "severity") (severity_text item.severity)
    ∷ optional_attributes (codes "origin") item.origin ++ optional_attributes (codes "category") item.category
    ++ optional_attributes (codes "refToMessageInError") item.about
    ++ optional_attributes (codes "shortDescription") item.short

unfoldable pub error_tree : ErrorItem → Element
error_tree item =
    parent (codes "Error") (error_attributes item)
    (optional_leaves (codes "Description") item.description ++ optional_leaves (codes "ErrorDetail") item.detail)

-- A signal message: a pull request, a receipt with or without a copy, or errors.
abbrev pub copies : Option UserHeader → List Element
copies None = []
copies (Some header) = user_tree header ∷ []

abbrev pub body_trees : SignalBody → List Element
body_trees (Pull mpc) = parent (codes "PullRequest") (plain_attribute (codes "mpc") mpc ∷ []) [] ∷ []
body_trees (Receipt copy) = parent (codes "Receipt") [] (copies copy) ∷ []
body_trees (Errors items) = map error_tree items

unfoldable pub signal_tree : Signal → Element
signal_tree signal =
    parent (codes "SignalMessage") []
    (message_info_tree signal.stamp signal.id signal.ref_to ∷ body_trees signal.body)

-- What `eb:Messaging` holds.
abbrev pub unit_trees : MessageUnit → List Element
unit_trees (unit.User header) = user_tree header ∷ []
unit_trees (unit.Signal signal) = signal_tree signal ∷ []
unit_trees (unit.Pair pair) = signal_tree pair.receipt ∷ signal_tree pair.pull ∷ []

-- The envelope.
abbrev pub envelope_tree : List Element → Element
envelope_tree units =
    node soap (codes "Envelope") [] []
    (node soap (codes "Header") [] []
    (parent (codes "Messaging") (attribute_of soap (codes "mustUnderstand") (codes "true") ∷ []) units ∷ [])
    ∷ node soap (codes "Body") [] [] [] ∷ [])

abbrev pub unit_tree : MessageUnit → Element
unit_tree u = envelope_tree (unit_trees u)
