-- The tree of a user message is kept by its text, element by element.
use Rattle.std.proofs.Common.{◌≡◌, ℕ, List, [], ◌∷◌, ◌++◌, true, Option, Some, None, arith, refl}
use Rattle.std.specs.Prelude.{IfSome, codes, unwrap_or}
use Rattle.std.specs.List.{AllByRecursion}
use Rattle.as4_envelope.specs.declared.tree.Element.{Element}
use Rattle.as4_values.specs.declared.header.Party.{Party}
use Rattle.as4_values.specs.declared.header.Side.{Side}
use Rattle.as4_values.specs.declared.header.Agreement.{Agreement}
use Rattle.as4_values.specs.declared.header.Service.{Service}
use Rattle.as4_values.specs.declared.header.Property.{Property}
use Rattle.as4_values.specs.declared.header.PartInfo.{PartInfo}
use Rattle.as4_values.specs.declared.header.UserHeader.{UserHeader}
use Rattle.message_model.specs.UnitTree.{leaf, optional_attributes, listed_in, message_info_tree, party_tree, side_tree, party_info_tree, agreement_trees, service_tree, collaboration_info_tree, property_tree, part_tree, user_tree}
use Rattle.unit_laws.specs.Kept.{IsXmlText, IsKept}
use Rattle.unit_laws.proofs.XmlLemmas.{is_plain_name, graphic_is_xml}
use Rattle.unit_laws.proofs.KeptLemmas.{attributes_kept, no_attributes, parent_kept, leaf_kept, deeper, all_deeper, behind_kept, each_kept, listed_kept, leaves_kept}

-- an optional value
or_empty : (value : Option (List ℕ)) → IfSome value IsXmlText → IsXmlText (unwrap_or value [])
or_empty None is = graphic_is_xml [] refl
or_empty (Some text) is = is

-- the stamp, the identifier and the reference
pub info_kept : (stamp id : List ℕ) (ref_to : Option (List ℕ)) → IsXmlText stamp → IsXmlText id → IfSome ref_to IsXmlText
    → IsKept 2 (message_info_tree stamp id ref_to)
unfolding message_info_tree
info_kept stamp id ref_to stamped identified referred =
    parent_kept 1 (codes "MessageInfo") [] _ refl no_attributes (
      leaf_kept 0 (codes "Timestamp") [] stamp refl no_attributes stamped,
      (leaf_kept 0 (codes "MessageId") [] id refl no_attributes identified, leaves_kept 0 (codes "RefToMessageId") ref_to refl referred),
    )

-- parties and sides
pub party_kept : (p : Party) → IsXmlText p.id → IfSome p.kind IsXmlText → IsKept 1 (party_tree p)
unfolding party_tree
party_kept p named kinded = leaf_kept 0 (codes "PartyId") _ p.id refl (attributes_kept ((codes "type", p.kind) ∷ []) refl (kinded, tt)) named

pub side_kept : (local : List ℕ) (s : Side) → is_plain_name local ≡ true → AllByRecursion (λ p. IsKept 1 (party_tree p)) s.parties → IsXmlText s.role
    → IsKept 2 (side_tree local s)
unfolding side_tree
side_kept local s plain parties role =
    parent_kept 1 local [] _ plain no_attributes
    (behind_kept 1 _ _ (each_kept 1 party_tree s.parties parties) (leaf_kept 0 (codes "Role") [] s.role refl no_attributes role, tt))

-- the agreement and the service
pub agreement_kept : (a : Agreement) → IsXmlText a.value → IfSome a.kind IsXmlText → IfSome a.pmode IsXmlText
    → IsKept 1 (leaf (codes "AgreementRef") (optional_attributes (codes "type") a.kind ++ optional_attributes (codes "pmode") a.pmode) a.value)
agreement_kept a value kind pmode =
    leaf_kept 0 (codes "AgreementRef") _ a.value refl (attributes_kept ((codes "type", a.kind) ∷ (codes "pmode", a.pmode) ∷ []) refl (kind, (pmode, tt))) value

pub service_kept : (s : Service) → IsXmlText s.value → IfSome s.kind IsXmlText → IsKept 1 (service_tree s)
unfolding service_tree
service_kept s value kind = leaf_kept 0 (codes "Service") _ s.value refl (attributes_kept ((codes "type", s.kind) ∷ []) refl (kind, tt)) value

-- properties and part infos
pub property_kept : (p : Property) → IsXmlText p.name → IfSome p.kind IsXmlText → IfSome p.value IsXmlText → IsKept 1 (property_tree p)
unfolding property_tree optional_attributes
property_kept p name kind value =
    leaf_kept 0 (codes "Property") _ (unwrap_or p.value []) refl
    (attributes_kept ((codes "name", Some p.name) ∷ (codes "type", p.kind) ∷ []) refl (name, (kind, tt))) (or_empty p.value value)

pub part_kept : (p : PartInfo) → IfSome p.href IsXmlText → AllByRecursion (λ x. IsKept 1 (property_tree x)) p.properties → IsKept 3 (part_tree p)
unfolding part_tree
part_kept p href properties =
    parent_kept 2 (codes "PartInfo") _ _ refl (attributes_kept ((codes "href", p.href) ∷ []) refl (href, tt))
    (listed_kept 1 (codes "PartProperties") property_tree p.properties refl properties)

-- the agreement, if there is one
agreements_kept : (agreement : Option Agreement)
    → IfSome agreement (λ a. IsKept 1 (leaf (codes "AgreementRef") (optional_attributes (codes "type") a.kind ++ optional_attributes (codes "pmode") a.pmode) a.value))
    → AllByRecursion (IsKept 1) (agreement_trees agreement)
unfolding agreement_trees
agreements_kept None is = tt
agreements_kept (Some agreement) is = (is, tt)

-- both sides
pub sides_kept : (from to : Side) → IsKept 2 (side_tree (codes "From") from) → IsKept 2 (side_tree (codes "To") to) → IsKept 3 (party_info_tree from to)
unfolding party_info_tree
sides_kept from to one other = parent_kept 2 (codes "PartyInfo") [] _ refl no_attributes (one, (other, tt))

-- the agreement, the service, the action and the conversation
pub business_kept : (agreement : Option Agreement) (service : Service) (action : List ℕ) (conversation : Option (List ℕ))
    → IfSome agreement (λ a. IsKept 1 (leaf (codes "AgreementRef") (optional_attributes (codes "type") a.kind ++ optional_attributes (codes "pmode") a.pmode) a.value))
    → IsKept 1 (service_tree service) → IsXmlText action → IfSome conversation IsXmlText
    → IsKept 2 (collaboration_info_tree agreement service action conversation)
unfolding collaboration_info_tree
business_kept agreement service action conversation agreed served acted conversed =
    let act = leaf_kept 0 (codes "Action") [] action refl no_attributes acted in
    let talk = leaf_kept 0 (codes "ConversationId") [] (unwrap_or conversation []) refl no_attributes (or_empty conversation conversed) in
    parent_kept 1 (codes "CollaborationInfo") [] _ refl no_attributes
    (behind_kept 1 (agreement_trees agreement) _ (agreements_kept agreement agreed) (served, (act, (talk, tt))))

-- the parts of a header, each of which is kept
pub record HeaderKept (h : UserHeader) : Type 0 where
  pub mpc : IfSome h.mpc IsXmlText
  pub info : IsKept 2 (message_info_tree h.stamp h.id h.ref_to)
  pub sides : IsKept 3 (party_info_tree h.from h.to)
  pub business : IsKept 2 (collaboration_info_tree h.agreement h.service h.action h.conversation)
  pub properties : AllByRecursion (λ p. IsKept 1 (property_tree p)) h.properties
  pub parts : AllByRecursion (λ p. IsKept 3 (part_tree p)) h.parts

-- a user message
pub user_kept : (h : UserHeader) → HeaderKept h → IsKept 5 (user_tree h)
unfolding user_tree
user_kept h is =
    let lists : List Element = listed_in (codes "MessageProperties") property_tree h.properties in
    let properties : AllByRecursion (IsKept 4) lists =
    all_deeper 2 4 lists (omega arith) (listed_kept 1 (codes "MessageProperties") property_tree h.properties refl is.properties) in
    let front : List Element = message_info_tree h.stamp h.id h.ref_to ∷ party_info_tree h.from h.to
    ∷ collaboration_info_tree h.agreement h.service h.action h.conversation ∷ lists in
    let kept : AllByRecursion (IsKept 4) front =
    (deeper 2 4 _ (omega arith) is.info, (deeper 3 4 _ (omega arith) is.sides, (deeper 2 4 _ (omega arith) is.business, properties))) in
    parent_kept 4 (codes "UserMessage") _ _ refl (attributes_kept ((codes "mpc", h.mpc) ∷ []) refl (is.mpc, tt))
    (behind_kept 4 front _ kept (listed_kept 3 (codes "PayloadInfo") part_tree h.parts refl is.parts))
