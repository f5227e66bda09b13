-- How a user message is spelled (ebMS 3.0 Core, section 5.2.2), by its elements of ebMS. Children may occur in any
-- order; children outside of ebMS and unknown attributes are ignored.
use Rattle.std.specs.Prelude.{ℕ, List, [], ◌∷◌, Option, Some, None, unwrap_or}
use Rattle.as4_envelope.specs.declared.tree.Element.{Element}
use Rattle.as4_values.specs.declared.header.Party.{Party}
use Rattle.as4_values.specs.declared.header.Side.{Side}
use Rattle.as4_values.specs.declared.header.Agreement.{Agreement}
use Rattle.as4_values.specs.declared.header.Service.{Service}
use Rattle.as4_values.specs.declared.header.Property.{Property}
use Rattle.as4_values.specs.declared.header.PartInfo.{PartInfo}
use Rattle.as4_values.specs.declared.header.UserHeader.{UserHeader}
use Rattle.header_reader.specs.Elements.{optional_attribute, attribute, child, optional_child, children, holding, leaf}
use Rattle.byte_forms.specs.Cuts.{◌>>=◌}
use Rattle.header_reader.specs.Made.{side_from, part_from, header_from}
use Rattle.header_reader.specs.Values.{text_of, id_of, stamp_of, optional}
use Rattle.header_reader.specs.declared.names.AttributeName.TheVariants as attr
use Rattle.header_reader.specs.declared.names.ElementName.TheVariants as name
use Rattle.header_reader.specs.declared.parts.MessageInfo.{MessageInfo}
use Rattle.header_reader.specs.declared.parts.PartyInfo.{PartyInfo}
use Rattle.header_reader.specs.declared.parts.CollaborationInfo.{CollaborationInfo}

-- a text, and one that may be empty
abbrev pub text_element : Element → Option (List ℕ)
text_element = leaf text_of

abbrev pub maybe_text : Element → Option (Option (List ℕ))
maybe_text = leaf (optional text_of)

-- `eb:MessageInfo`: section 5.2.2.1
unfoldable pub info_of : Element → Option MessageInfo
info_of e =
    holding (name.Timestamp ∷ name.MessageId ∷ name.RefToMessageId ∷ []) e (do
      stamp ← child (leaf stamp_of) name.Timestamp e
      id ← child (leaf id_of) name.MessageId e
      ref_to ← optional_child (leaf id_of) name.RefToMessageId e
      Some (record { stamp = stamp; id = id; ref_to = ref_to }))

-- `eb:PartyId`: section 5.2.2.3
unfoldable pub party_of : Element → Option Party
party_of e = do
  id ← text_element e
  kind ← optional_attribute text_of attr.Type e
  Some (record { id = id; kind = kind })

-- `eb:From` and `eb:To`: sections 5.2.2.2 to 5.2.2.4
unfoldable pub side_of : Element → Option Side
side_of e =
    holding (name.PartyId ∷ name.Role ∷ []) e (do
      parties ← children party_of name.PartyId e
      role ← child text_element name.Role e
      side_from parties role)

unfoldable pub parties_of : Element → Option PartyInfo
parties_of e =
    holding (name.From ∷ name.To ∷ []) e (do
      from ← child side_of name.From e
      to ← child side_of name.To e
      Some (record { from = from; to = to }))

-- `eb:AgreementRef`: section 5.2.2.7; if it is empty, it is ignored, whatever its attributes are
abbrev pub agreement_with : Element → Option (List ℕ) → Option (Option Agreement)
agreement_with e None = Some None
agreement_with e (Some value) = do
  kind ← optional_attribute text_of attr.Type e
  pmode ← optional_attribute text_of attr.Pmode e
  Some (Some (record { value = value; kind = kind; pmode = pmode }))

unfoldable pub agreement_of : Element → Option (Option Agreement)
agreement_of e = maybe_text e >>= agreement_with e

-- `eb:Service`: section 5.2.2.8
unfoldable pub service_of : Element → Option Service
service_of e = do
  value ← text_element e
  kind ← optional_attribute text_of attr.Type e
  Some (record { value = value; kind = kind })

-- `eb:CollaborationInfo`: section 5.2.2.6
unfoldable pub collaboration_of : Element → Option CollaborationInfo
collaboration_of e =
    holding (name.AgreementRef ∷ name.Service ∷ name.Action ∷ name.ConversationId ∷ []) e (do
      agreement ← optional_child agreement_of name.AgreementRef e
      service ← child service_of name.Service e
      action ← child text_element name.Action e
      conversation ← child maybe_text name.ConversationId e
      Some (record { agreement = unwrap_or agreement None; service = service; action = action; conversation = conversation }))

-- `eb:Property`: section 5.2.2.11
unfoldable pub property_of : Element → Option Property
property_of e = do
  name ← attribute text_of attr.Name e
  kind ← optional_attribute text_of attr.Type e
  value ← maybe_text e
  Some (record { name = name; kind = kind; value = value })

-- `eb:MessageProperties` and `eb:PartProperties`: sections 5.2.2.10 and 5.2.2.13
unfoldable pub properties_of : Element → Option (List Property)
properties_of e = holding (name.Property ∷ []) e (children property_of name.Property e)

-- `eb:PartInfo`: section 5.2.2.13; the rest of its content is ignored
unfoldable pub part_of : Element → Option PartInfo
part_of e = do
  href ← optional_attribute text_of attr.Href e
  properties ← optional_child properties_of name.PartProperties e
  part_from href (unwrap_or properties [])

-- `eb:PayloadInfo`: section 5.2.2.12
unfoldable pub payload_of : Element → Option (List PartInfo)
payload_of e = holding (name.PartInfo ∷ []) e (children part_of name.PartInfo e)

-- the content of a user message: section 5.2.2
unfoldable pub business_in : Element → Option (PartyInfo × CollaborationInfo)
business_in e = do
  sides ← child parties_of name.PartyInfo e
  business ← child collaboration_of name.CollaborationInfo e
  Some (sides, business)

unfoldable pub lists_in : Element → Option (List Property × List PartInfo)
lists_in e = do
  properties ← optional_child properties_of name.MessageProperties e
  parts ← optional_child payload_of name.PayloadInfo e
  Some (unwrap_or properties [], unwrap_or parts [])

-- `eb:UserMessage`
unfoldable pub user_of : Element → Option UserHeader
user_of e =
    holding (name.MessageInfo ∷ name.PartyInfo ∷ name.CollaborationInfo ∷ name.MessageProperties ∷ name.PayloadInfo ∷ []) e (do
      mpc ← optional_attribute text_of attr.Mpc e
      info ← child info_of name.MessageInfo e
      business ← business_in e
      lists ← lists_in e
      header_from mpc info business.0 business.1 lists.0 lists.1)
