-- A written user message is read back, element by element.
use Rattle.std.proofs.Common.{◌≡◌, ℕ, List, [], ◌∷◌, ◌++◌, true, false, refl, ap, ◌∙◌, append-nil}
use Rattle.std.specs.Prelude.{Option, Some, None, IfSome, map, codes, unwrap_or, ◌&&◌}
use Rattle.std.specs.List.{list_all, AllByRecursion}
use Rattle.std.proofs.lemmas.List.Elements.{filter-append}
use Rattle.std.proofs.lemmas.List.Folds.{list_all-append}
use Rattle.as4_envelope.specs.declared.tree.Attribute.{Attribute}
use Rattle.as4_envelope.specs.declared.tree.Element.{Element}
use Rattle.as4_values.specs.declared.header.Party.{Party}
use Rattle.as4_values.specs.declared.header.Side.{Side}
use Rattle.as4_values.specs.declared.header.Agreement.{Agreement}
use Rattle.as4_values.specs.declared.header.Service.{Service}
use Rattle.as4_values.specs.declared.header.Property.{Property}
use Rattle.as4_values.specs.declared.header.PartInfo.{PartInfo}
use Rattle.as4_values.specs.declared.header.UserHeader.{UserHeader}
use Rattle.message_model.specs.UnitTree.{leaf as leaf_tree, parent, optional_attributes, optional_leaves, listed_in, message_info_tree, party_tree, side_tree, party_info_tree, agreement_trees, service_tree, collaboration_info_tree, property_tree, part_tree, user_tree}
use Rattle.unit_laws.proofs.AgainLemmas.{named_node, stands_node, holds_node, leaf_node, child_node, optional_node, children_node, value_node, optional_again, each_again, named_all, named_none, all_pass}
use Rattle.header_reader.proofs.MadeLemmas.{side_made, part_made, header_made}
use Rattle.unit_laws.specs.Again.{TextAgain, IdAgain, AgreementAgain}
use Rattle.header_reader.specs.Elements.{is_named, named, may_stand, holds_only, optional_attribute, attribute, child, optional_child, children}
use Rattle.header_reader.specs.Names.{element_name, attribute_name}
use Rattle.header_reader.specs.User.{info_of, party_of, side_of, parties_of, agreement_of, service_of, collaboration_of, property_of, properties_of, part_of, payload_of, business_in, lists_in, user_of}
use Rattle.header_reader.specs.Values.{is_text, text_of, stamp_of, optional}
use Rattle.byte_forms.specs.Trimmed.{trimmed, end_of}
use Rattle.header_reader.specs.declared.names.AttributeName.TheVariants as attr
use Rattle.header_reader.specs.declared.names.ElementName.TheVariants as name

no_empty_text : is_text [] ≡ false
unfolding is_text
no_empty_text = refl

pub maybe_again : (text : List ℕ) → TextAgain text → optional text_of text ≡ Some (Some text)
maybe_again text is = optional_again is_text text no_empty_text is

nothing_again : optional text_of [] ≡ Some None
unfolding optional trimmed end_of
nothing_again = refl

-- an optional value
pub empty_again : (value : Option (List ℕ)) → IfSome value TextAgain → optional text_of (unwrap_or value []) ≡ Some value
empty_again None is = nothing_again
empty_again (Some text) is = maybe_again text is

pub info_again : (stamp id : List ℕ) (ref_to : Option (List ℕ)) → stamp_of stamp ≡ Some stamp → IdAgain id → IfSome ref_to IdAgain
    → info_of (message_info_tree stamp id ref_to) ≡ Some (record { stamp = stamp; id = id; ref_to = ref_to })
unfolding info_of element_name message_info_tree optional_leaves
info_again stamp id None stamped identified referred = simp (holds_node, stands_node, child_node, optional_node, named_node, leaf_node, stamped, identified)
info_again stamp id (Some ref_to) stamped identified referred = simp (holds_node, stands_node, child_node, optional_node, named_node, leaf_node, stamped, identified, referred)

party_parts : (id : List ℕ) (kind : Option (List ℕ)) → TextAgain id → IfSome kind TextAgain → party_of (party_tree (record { id = id; kind = kind })) ≡ Some (record { id = id; kind = kind })
unfolding party_of optional_attribute attribute_name party_tree optional_attributes
party_parts id None is kinded = simp (leaf_node, value_node, is)
party_parts id (Some kind) is kinded = simp (leaf_node, value_node, is, maybe_again kind kinded)

pub party_again : (p : Party) → TextAgain p.id → IfSome p.kind TextAgain → party_of (party_tree p) ≡ Some p
party_again p named kinded = party_parts p.id p.kind named kinded

-- a side

party_is_named : (p : Party) → is_named name.PartyId (party_tree p) ≡ true
unfolding element_name party_tree
party_is_named p = simp named_node

party_is_no_role : (p : Party) → is_named name.Role (party_tree p) ≡ false
unfolding element_name party_tree
party_is_no_role p = simp named_node

parties_there : (parties : List Party) (role : List ℕ) → named name.PartyId (map party_tree parties ++ leaf_tree (codes "Role") [] role ∷ []) ≡ map party_tree parties
unfolding element_name
parties_there parties role =
    let alone : named name.PartyId (leaf_tree (codes "Role") [] role ∷ []) ≡ [] = simp named_node in
    filter-append (is_named name.PartyId) (map party_tree parties) (leaf_tree (codes "Role") [] role ∷ [])
    ∙ ap (λ xs. xs ++ named name.PartyId (leaf_tree (codes "Role") [] role ∷ [])) (named_all name.PartyId party_tree parties party_is_named)
    ∙ ap (λ xs. map party_tree parties ++ xs) alone ∙ append-nil (map party_tree parties)

role_there : (parties : List Party) (role : List ℕ) → named name.Role (map party_tree parties ++ leaf_tree (codes "Role") [] role ∷ []) ≡ leaf_tree (codes "Role") [] role ∷ []
unfolding element_name
role_there parties role =
    let alone : named name.Role (leaf_tree (codes "Role") [] role ∷ []) ≡ leaf_tree (codes "Role") [] role ∷ [] = simp named_node in
    filter-append (is_named name.Role) (map party_tree parties) (leaf_tree (codes "Role") [] role ∷ [])
    ∙ ap (λ xs. xs ++ named name.Role (leaf_tree (codes "Role") [] role ∷ [])) (named_none name.Role party_tree parties party_is_no_role) ∙ alone

party_may_stand : (p : Party) → may_stand (name.PartyId ∷ name.Role ∷ []) (party_tree p) ≡ true
unfolding element_name party_tree
party_may_stand p = simp stands_node

all_stand : (parties : List Party) (role : List ℕ) → list_all (may_stand (name.PartyId ∷ name.Role ∷ [])) (map party_tree parties ++ leaf_tree (codes "Role") [] role ∷ []) ≡ true
unfolding element_name
all_stand parties role =
    let alone : list_all (may_stand (name.PartyId ∷ name.Role ∷ [])) (leaf_tree (codes "Role") [] role ∷ []) ≡ true = simp stands_node in
    list_all-append (may_stand (name.PartyId ∷ name.Role ∷ [])) (map party_tree parties) (leaf_tree (codes "Role") [] role ∷ [])
    ∙ ap (λ b. b && list_all (may_stand (name.PartyId ∷ name.Role ∷ [])) (leaf_tree (codes "Role") [] role ∷ []))
    (all_pass (may_stand (name.PartyId ∷ name.Role ∷ [])) party_tree parties party_may_stand) ∙ alone

pub side_again : (local : List ℕ) (s : Side) → AllByRecursion (λ p. party_of (party_tree p) ≡ Some p) s.parties → TextAgain s.role → side_of (side_tree local s) ≡ Some s
unfolding side_of side_tree
side_again local s parties role =
    simp (
      holds_node,
      all_stand s.parties s.role,
      children_node,
      child_node,
      parties_there s.parties s.role,
      role_there s.parties s.role,
      each_again party_of party_tree s.parties parties,
      leaf_node,
      role,
    ) (side_made s)

pub parties_again : (from to : Side) → side_of (side_tree (codes "From") from) ≡ Some from → side_of (side_tree (codes "To") to) ≡ Some to
    → parties_of (party_info_tree from to) ≡ Some (record { from = from; to = to })
unfolding parties_of element_name party_info_tree side_tree
parties_again from to one other = simp (holds_node, stands_node, child_node, named_node, one, other)

-- the collaboration

service_parts : (value : List ℕ) (kind : Option (List ℕ)) → TextAgain value → IfSome kind TextAgain → service_of (service_tree (record { value = value; kind = kind })) ≡ Some (record { value = value; kind = kind })
unfolding service_of optional_attribute attribute_name service_tree optional_attributes
service_parts value None is kinded = simp (leaf_node, value_node, is)
service_parts value (Some kind) is kinded = simp (leaf_node, value_node, is, maybe_again kind kinded)

pub service_again : (s : Service) → TextAgain s.value → IfSome s.kind TextAgain → service_of (service_tree s) ≡ Some s
service_again s value kind = service_parts s.value s.kind value kind

pub agreement_again : (value : List ℕ) (kind pmode : Option (List ℕ)) → TextAgain value → IfSome kind TextAgain → IfSome pmode TextAgain
    → agreement_of (leaf_tree (codes "AgreementRef") (optional_attributes (codes "type") kind ++ optional_attributes (codes "pmode") pmode) value)
    ≡ Some (Some (record { value = value; kind = kind; pmode = pmode }))
unfolding agreement_of optional_attribute attribute_name optional_attributes
agreement_again value None None v k p = simp (leaf_node, value_node, maybe_again value v)
agreement_again value None (Some pmode) v k p = simp (leaf_node, value_node, maybe_again value v, maybe_again pmode p)
agreement_again value (Some kind) None v k p = simp (leaf_node, value_node, maybe_again value v, maybe_again kind k)
agreement_again value (Some kind) (Some pmode) v k p = simp (leaf_node, value_node, maybe_again value v, maybe_again kind k, maybe_again pmode p)

pub collaboration_again : (agreement : Option Agreement) (service : Service) (action : List ℕ) (conversation : Option (List ℕ))
    → IfSome agreement AgreementAgain → service_of (service_tree service) ≡ Some service → TextAgain action → IfSome conversation TextAgain
    → collaboration_of (collaboration_info_tree agreement service action conversation)
    ≡ Some (record { agreement = agreement; service = service; action = action; conversation = conversation })
unfolding collaboration_of element_name collaboration_info_tree agreement_trees service_tree
collaboration_again None service action conversation a s t c = simp (holds_node, stands_node, child_node, optional_node, named_node, leaf_node, s, t, empty_again conversation c)
collaboration_again (Some agreement) service action conversation a s t c = simp (holds_node, stands_node, child_node, optional_node, named_node, leaf_node, a, s, t, empty_again conversation c)

-- properties and part infos

property_parts : (name : List ℕ) (kind value : Option (List ℕ)) → TextAgain name → IfSome kind TextAgain → IfSome value TextAgain
    → property_of (property_tree (record { name = name; kind = kind; value = value })) ≡ Some (record { name = name; kind = kind; value = value })
unfolding property_of attribute optional_attribute attribute_name property_tree optional_attributes
property_parts name None value n k v = simp (leaf_node, value_node, n, empty_again value v)
property_parts name (Some kind) value n k v = simp (leaf_node, value_node, n, maybe_again kind k, empty_again value v)

pub property_again : (p : Property) → TextAgain p.name → IfSome p.kind TextAgain → IfSome p.value TextAgain → property_of (property_tree p) ≡ Some p
property_again p n k v = property_parts p.name p.kind p.value n k v

property_is_named : (p : Property) → is_named name.Property (property_tree p) ≡ true
unfolding element_name property_tree
property_is_named p = simp named_node

property_may_stand : (p : Property) → may_stand (name.Property ∷ []) (property_tree p) ≡ true
unfolding element_name property_tree
property_may_stand p = simp stands_node

pub properties_again : (local : List ℕ) (properties : List Property) → AllByRecursion (λ p. property_of (property_tree p) ≡ Some p) properties
    → properties_of (parent local [] (map property_tree properties)) ≡ Some properties
unfolding properties_of
properties_again local properties each_one =
    simp (
      holds_node,
      all_pass (may_stand (name.Property ∷ [])) property_tree properties property_may_stand,
      children_node,
      named_all name.Property property_tree properties property_is_named,
      each_again property_of property_tree properties each_one,
    )

href_again : (href : Option (List ℕ)) (children : List Element) → IfSome href TextAgain
    → optional_attribute text_of attr.Href (parent (codes "PartInfo") (optional_attributes (codes "href") href) children) ≡ Some href
unfolding optional_attribute attribute_name optional_attributes
href_again None children is = simp value_node
href_again (Some href) children is = simp (value_node, maybe_again href is)

-- the list that is read; an empty list is omitted
pub listed_again : (properties : List Property) → Option (List Property)
listed_again [] = None
listed_again (p ∷ properties) = Some (p ∷ properties)

part_properties : (attributes : List Attribute) (properties : List Property) → AllByRecursion (λ p. property_of (property_tree p) ≡ Some p) properties
    → optional_child properties_of name.PartProperties (parent (codes "PartInfo") attributes (listed_in (codes "PartProperties") property_tree properties)) ≡ Some (listed_again properties)
unfolding element_name listed_in listed_again
part_properties attributes [] each_one = simp optional_node
part_properties attributes (p ∷ properties) each_one = simp (optional_node, named_node, properties_again (codes "PartProperties") (p ∷ properties) each_one)

listed_whole : (properties : List Property) → unwrap_or (listed_again properties) [] ≡ properties
unfolding listed_again
listed_whole [] = refl
listed_whole (p ∷ properties) = refl

pub part_again : (p : PartInfo) → IfSome p.href TextAgain → AllByRecursion (λ p. property_of (property_tree p) ≡ Some p) p.properties → part_of (part_tree p) ≡ Some p
unfolding part_of part_tree
part_again p href each_one =
    simp (
      href_again p.href (listed_in (codes "PartProperties") property_tree p.properties) href,
      part_properties (optional_attributes (codes "href") p.href) p.properties each_one,
      listed_whole p.properties,
    ) (part_made p)

part_is_named : (p : PartInfo) → is_named name.PartInfo (part_tree p) ≡ true
unfolding element_name part_tree
part_is_named p = simp named_node

part_may_stand : (p : PartInfo) → may_stand (name.PartInfo ∷ []) (part_tree p) ≡ true
unfolding element_name part_tree
part_may_stand p = simp stands_node

pub payload_again : (local : List ℕ) (parts : List PartInfo) → AllByRecursion (λ p. part_of (part_tree p) ≡ Some p) parts
    → payload_of (parent local [] (map part_tree parts)) ≡ Some parts
unfolding payload_of
payload_again local parts each_one =
    simp (
      holds_node,
      all_pass (may_stand (name.PartInfo ∷ [])) part_tree parts part_may_stand,
      children_node,
      named_all name.PartInfo part_tree parts part_is_named,
      each_again part_of part_tree parts each_one,
    )

-- a user message

mpc_again : (mpc : Option (List ℕ)) (children : List Element) → IfSome mpc TextAgain
    → optional_attribute text_of attr.Mpc (parent (codes "UserMessage") (optional_attributes (codes "mpc") mpc) children) ≡ Some mpc
unfolding optional_attribute attribute_name optional_attributes
mpc_again None children is = simp value_node
mpc_again (Some mpc) children is = simp (value_node, maybe_again mpc is)

-- the children of a user message
abbrev pub user_children : List ℕ → List ℕ → Option (List ℕ) → Side → Side → Option Agreement → Service → List ℕ → Option (List ℕ) → List Property → List PartInfo → List Element
user_children stamp id ref_to from to agreement service action conversation properties parts =
    message_info_tree stamp id ref_to ∷ party_info_tree from to ∷ collaboration_info_tree agreement service action conversation
    ∷ listed_in (codes "MessageProperties") property_tree properties ++ listed_in (codes "PayloadInfo") part_tree parts

user_info : (stamp id : List ℕ) (ref_to : Option (List ℕ)) (from to : Side) (agreement : Option Agreement) (service : Service) (action : List ℕ) (conversation : Option (List ℕ))
    (properties : List Property) (parts : List PartInfo) (attributes : List Attribute)
    → (holds_only (name.MessageInfo ∷ name.PartyInfo ∷ name.CollaborationInfo ∷ name.MessageProperties ∷ name.PayloadInfo ∷ [])
    (parent (codes "UserMessage") attributes (user_children stamp id ref_to from to agreement service action conversation properties parts)) ≡ true)
    × (child info_of name.MessageInfo (parent (codes "UserMessage") attributes (user_children stamp id ref_to from to agreement service action conversation properties parts))
    ≡ info_of (message_info_tree stamp id ref_to))
    × (child parties_of name.PartyInfo (parent (codes "UserMessage") attributes (user_children stamp id ref_to from to agreement service action conversation properties parts))
    ≡ parties_of (party_info_tree from to))
    × (child collaboration_of name.CollaborationInfo (parent (codes "UserMessage") attributes (user_children stamp id ref_to from to agreement service action conversation properties parts))
    ≡ collaboration_of (collaboration_info_tree agreement service action conversation))
unfolding element_name message_info_tree party_info_tree collaboration_info_tree listed_in
user_info stamp id ref_to from to agreement service action conversation [] [] attributes = (
  simp (holds_node, stands_node),
  simp (child_node, named_node),
  simp (child_node, named_node),
  simp (child_node, named_node),
)
user_info stamp id ref_to from to agreement service action conversation [] (x ∷ parts) attributes = (
  simp (holds_node, stands_node),
  simp (child_node, named_node),
  simp (child_node, named_node),
  simp (child_node, named_node),
)
user_info stamp id ref_to from to agreement service action conversation (p ∷ properties) [] attributes = (
  simp (holds_node, stands_node),
  simp (child_node, named_node),
  simp (child_node, named_node),
  simp (child_node, named_node),
)
user_info stamp id ref_to from to agreement service action conversation (p ∷ properties) (x ∷ parts) attributes = (
  simp (holds_node, stands_node),
  simp (child_node, named_node),
  simp (child_node, named_node),
  simp (child_node, named_node),
)

user_lists : (stamp id : List ℕ) (ref_to : Option (List ℕ)) (from to : Side) (agreement : Option Agreement) (service : Service) (action : List ℕ) (conversation : Option (List ℕ))
    (properties : List Property) (parts : List PartInfo) (attributes : List Attribute)
    → AllByRecursion (λ p. property_of (property_tree p) ≡ Some p) properties → AllByRecursion (λ p. part_of (part_tree p) ≡ Some p) parts
    → lists_in (parent (codes "UserMessage") attributes (user_children stamp id ref_to from to agreement service action conversation properties parts)) ≡ Some (properties, parts)
unfolding lists_in element_name message_info_tree party_info_tree collaboration_info_tree listed_in
user_lists stamp id ref_to from to agreement service action conversation [] [] attributes p x = simp (optional_node, named_node)
user_lists stamp id ref_to from to agreement service action conversation [] (part ∷ parts) attributes p x =
    simp (optional_node, named_node, payload_again (codes "PayloadInfo") (part ∷ parts) x)
user_lists stamp id ref_to from to agreement service action conversation (property ∷ properties) [] attributes p x =
    simp (optional_node, named_node, properties_again (codes "MessageProperties") (property ∷ properties) p)
user_lists stamp id ref_to from to agreement service action conversation (property ∷ properties) (part ∷ parts) attributes p x =
    simp (optional_node, named_node, properties_again (codes "MessageProperties") (property ∷ properties) p, payload_again (codes "PayloadInfo") (part ∷ parts) x)

-- the parts of a header, each of which is read back
pub record HeaderAgain (h : UserHeader) : Type 0 where
  pub mpc : IfSome h.mpc TextAgain
  pub info : info_of (message_info_tree h.stamp h.id h.ref_to) ≡ Some (record { stamp = h.stamp; id = h.id; ref_to = h.ref_to })
  pub sides : parties_of (party_info_tree h.from h.to) ≡ Some (record { from = h.from; to = h.to })
  pub business : collaboration_of (collaboration_info_tree h.agreement h.service h.action h.conversation)
      ≡ Some (record { agreement = h.agreement; service = h.service; action = h.action; conversation = h.conversation })
  pub properties : AllByRecursion (λ p. property_of (property_tree p) ≡ Some p) h.properties
  pub parts : AllByRecursion (λ p. part_of (part_tree p) ≡ Some p) h.parts

pub user_again : (h : UserHeader) → HeaderAgain h → user_of (user_tree h) ≡ Some h
unfolding user_of user_tree business_in
user_again h is =
    let shape = user_info h.stamp h.id h.ref_to h.from h.to h.agreement h.service h.action h.conversation h.properties h.parts (optional_attributes (codes "mpc") h.mpc) in
    let lists = user_lists h.stamp h.id h.ref_to h.from h.to h.agreement h.service h.action h.conversation h.properties h.parts (optional_attributes (codes "mpc") h.mpc) is.properties is.parts in
    let channel = mpc_again h.mpc (user_children h.stamp h.id h.ref_to h.from h.to h.agreement h.service h.action h.conversation h.properties h.parts) is.mpc in
    simp (shape.0, channel, shape.1, is.info, shape.2, is.sides, shape.3, is.business, lists) (header_made h)
