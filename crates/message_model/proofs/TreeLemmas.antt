-- The canonical text of a unit is the text of its tree, element by element.
use Rattle.std.proofs.Common.{◌≡◌, ℕ, List, [], ◌∷◌, ◌++◌, Option, Some, None, refl, ap, sym, ◌∙◌, append_assoc, append-nil, map}
use Rattle.std.specs.Prelude.{codes, unwrap_or}
use Rattle.std.specs.List.{flat_map}
use Rattle.std.proofs.lemmas.List.Folds.{flat_map-map}
use Rattle.std.proofs.lemmas.List.Concat.{flat_map-append}
use Rattle.as4_envelope.specs.Markup.{escaped, tag_start, tag_end, end_tag, element, attribute, text_element, optional_attribute, optional_element, listed}
use Rattle.as4_envelope.specs.Tree.{soap, ebms, prefix_of, name_of, attribute_text, element_step, element_text, child_text, declarations, tree_text}
use Rattle.as4_envelope.specs.declared.tree.Attribute.{Attribute}
use Rattle.as4_envelope.specs.declared.tree.Element.{Element}
use Rattle.as4_envelope.specs.declared.tree.Element.TheFolds.{fold-roll-Element}
use Rattle.as4_values.specs.declared.header.Party.{Party}
use Rattle.as4_values.specs.declared.header.Side.{Side}
use Rattle.as4_values.specs.declared.header.Agreement.{Agreement}
use Rattle.as4_values.specs.declared.header.Service.{Service}
use Rattle.as4_values.specs.declared.header.Property.{Property}
use Rattle.as4_values.specs.declared.header.PartInfo.{PartInfo}
use Rattle.as4_values.specs.declared.header.UserHeader.{UserHeader}
use Rattle.as4_values.specs.declared.signal_body.ErrorItem.{ErrorItem}
use Rattle.as4_values.specs.declared.signal_body.SignalBody.{SignalBody}
use Rattle.as4_values.specs.declared.signal_body.SignalBody.TheVariants.{Pull, Receipt, Errors}
use Rattle.as4_values.specs.declared.signal.Signal.{Signal}
use Rattle.as4_values.specs.declared.message.Unit.{Unit as MessageUnit}
use Rattle.as4_values.specs.declared.message.Unit.TheVariants as unit
use Rattle.message_model.specs.UnitText.{message_info, party_text, side_text, party_info, agreement_text, service_text, collaboration_info, property_text, part_info, user_message, error_start, error_text, pull_text, receipt_text, body_text, signal_message, pair_text, unit_text, envelope_start, envelope_end, envelope_text}
use Rattle.message_model.specs.UnitTree.{attribute_of, node, parent, leaf, optional_attributes, optional_leaves, listed_in, message_info_tree, party_tree, side_tree, party_info_tree, agreement_trees, service_tree, collaboration_info_tree, property_tree, part_tree, user_tree, error_attributes, error_tree, body_trees, signal_tree, unit_trees, envelope_tree, unit_tree}

-- the text of an element, from the texts of its attributes and of its content
pub node_text : (space local : List ℕ) (attributes : List Attribute) (text : List ℕ) (children : List Element) (declared : List ℕ)
    → element_text (node space local attributes text children) declared
    ≡ element (name_of space local) (declared ++ flat_map attribute_text attributes) (escaped text ++ flat_map child_text children)
unfolding element_text child_text
node_text space local attributes text children declared =
    ap (λ f. f declared) (fold-roll-Element (List ℕ → List ℕ) element_step (record { space = space; local = local; attributes = attributes; text = text; children = children }))
    ∙ ap (λ inside. element (name_of space local) (declared ++ flat_map attribute_text attributes) (escaped text ++ inside))
    (flat_map-map (λ child. child []) element_text children)

-- the text of an element of ebMS, from those of its attributes and of its children, or from its text
parent_is : (local : List ℕ) (attributes : List Attribute) (children : List Element) (a b : List ℕ) → a ≡ flat_map attribute_text attributes → b ≡ flat_map child_text children → element (codes "eb:" ++ local) a b ≡ child_text (parent local attributes children)
unfolding child_text escaped prefix_of
parent_is local attributes children a b is_a is_b = rw (is_a, is_b) (sym (node_text ebms local attributes [] children []))

leaf_is : (local : List ℕ) (attributes : List Attribute) (text a : List ℕ) → a ≡ flat_map attribute_text attributes → element (codes "eb:" ++ local) a (escaped text) ≡ child_text (leaf local attributes text)
unfolding child_text prefix_of
leaf_is local attributes text a is_a = rw (is_a, ← append-nil (escaped text)) (sym (node_text ebms local attributes text [] []))

text_is : (local text : List ℕ) → text_element (codes "eb:" ++ local) text ≡ child_text (leaf local [] text)
unfolding text_element
text_is local text = leaf_is local [] text [] refl

-- optional attributes and elements
attribute_is : (local : List ℕ) (value : Option (List ℕ)) → optional_attribute local value ≡ flat_map attribute_text (optional_attributes local value)
unfolding optional_attribute optional_attributes prefix_of
attribute_is local None = refl
attribute_is local (Some value) = sym (append-nil (attribute local value))

child_is : (local : List ℕ) (text : Option (List ℕ)) → optional_element (codes "eb:" ++ local) text ≡ flat_map child_text (optional_leaves local text)
unfolding optional_element optional_leaves
child_is local None = refl
child_is local (Some text) = text_is local text ∙ sym (append-nil (child_text (leaf local [] text)))

each_is : {X : Type 0} (text : X → List ℕ) (tree : X → Element) → ((x : X) → text x ≡ child_text (tree x)) → (xs : List X) → flat_map text xs ≡ flat_map child_text (map tree xs)
each_is text tree is [] = refl
each_is text tree is (x ∷ xs) = rw (is x, each_is text tree is xs) refl

list_is : {X : Type 0} (local : List ℕ) (text : X → List ℕ) (tree : X → Element) → ((x : X) → text x ≡ child_text (tree x)) → (xs : List X) → listed (codes "eb:" ++ local) text xs ≡ flat_map child_text (listed_in local tree xs)
unfolding listed listed_in
list_is local text tree is [] = refl
list_is local text tree is (x ∷ xs) =
    parent_is local [] (map tree (x ∷ xs)) [] (flat_map text (x ∷ xs)) refl (each_is text tree is (x ∷ xs))
    ∙ sym (append-nil (child_text (parent local [] (map tree (x ∷ xs)))))

-- the parts of a user message
info_is : (stamp id : List ℕ) (ref_to : Option (List ℕ)) → message_info stamp id ref_to ≡ child_text (message_info_tree stamp id ref_to)
unfolding message_info message_info_tree
info_is stamp id ref_to =
    parent_is (codes "MessageInfo") [] _ [] _ refl
    (rw (text_is (codes "Timestamp") stamp, text_is (codes "MessageId") id, child_is (codes "RefToMessageId") ref_to) (simp append_assoc))

party_is : (party : Party) → party_text party ≡ child_text (party_tree party)
unfolding party_text party_tree
party_is party = leaf_is (codes "PartyId") _ party.id _ (attribute_is (codes "type") party.kind)

side_is : (local : List ℕ) (side : Side) → side_text (codes "eb:" ++ local) side ≡ child_text (side_tree local side)
unfolding side_text side_tree
side_is local side =
    parent_is local [] _ [] _ refl
    (rw (each_is party_text party_tree party_is side.parties, text_is (codes "Role") side.role, flat_map-append) (simp append-nil))

sides_are : (from to : Side) → party_info from to ≡ child_text (party_info_tree from to)
unfolding party_info party_info_tree
sides_are from to =
    parent_is (codes "PartyInfo") [] _ [] _ refl
    (rw (side_is (codes "From") from, side_is (codes "To") to) (simp append-nil))

agreement_is : (agreement : Option Agreement) → agreement_text agreement ≡ flat_map child_text (agreement_trees agreement)
unfolding agreement_text agreement_trees
agreement_is None = refl
agreement_is (Some agreement) =
    leaf_is (codes "AgreementRef") _ agreement.value _
    (rw (attribute_is (codes "type") agreement.kind, attribute_is (codes "pmode") agreement.pmode) (sym (flat_map-append attribute_text _ _)))
    ∙ sym (append-nil _)

service_is : (service : Service) → service_text service ≡ child_text (service_tree service)
unfolding service_text service_tree
service_is service = leaf_is (codes "Service") _ service.value _ (attribute_is (codes "type") service.kind)

work_is : (agreement : Option Agreement) (service : Service) (action : List ℕ) (conversation : Option (List ℕ)) → collaboration_info agreement service action conversation ≡ child_text (collaboration_info_tree agreement service action conversation)
unfolding collaboration_info collaboration_info_tree
work_is agreement service action conversation =
    parent_is (codes "CollaborationInfo") [] _ [] _ refl
    (rw (agreement_is agreement, service_is service, text_is (codes "Action") action, text_is (codes "ConversationId") (unwrap_or conversation []), flat_map-append) (simp (append_assoc, append-nil)))

property_is : (property : Property) → property_text property ≡ child_text (property_tree property)
unfolding property_text property_tree prefix_of
property_is property = leaf_is (codes "Property") _ (unwrap_or property.value []) _ (rw (attribute_is (codes "type") property.kind) refl)

part_is : (part : PartInfo) → part_info part ≡ child_text (part_tree part)
unfolding part_info part_tree
part_is part =
    parent_is (codes "PartInfo") _ _ _ _ (attribute_is (codes "href") part.href) (list_is (codes "PartProperties") property_text property_tree property_is part.properties)

user_is : (header : UserHeader) → user_message header ≡ child_text (user_tree header)
unfolding user_message user_tree
user_is header =
    parent_is (codes "UserMessage") _ _ _ _ (attribute_is (codes "mpc") header.mpc)
    (rw (
      info_is header.stamp header.id header.ref_to,
      sides_are header.from header.to,
      work_is header.agreement header.service header.action header.conversation,
      list_is (codes "MessageProperties") property_text property_tree property_is header.properties,
      list_is (codes "PayloadInfo") part_info part_tree part_is header.parts,
      flat_map-append,
    )
    (simp append_assoc))

-- the parts of a signal message
error_start_is : (item : ErrorItem) → error_start item ≡ flat_map attribute_text (error_attributes item)
unfolding error_start error_attributes prefix_of
error_start_is item =
    rw (
      attribute_is (codes "origin") item.origin,
      attribute_is (codes "category") item.category,
      attribute_is (codes "refToMessageInError") item.about,
      attribute_is (codes "shortDescription") item.short,
      flat_map-append,
      flat_map-append,
      flat_map-append,
    )
    (simp append_assoc)

error_is : (item : ErrorItem) → error_text item ≡ child_text (error_tree item)
unfolding error_text error_tree
error_is item =
    parent_is (codes "Error") _ _ _ _ (error_start_is item)
    (rw (child_is (codes "Description") item.description, child_is (codes "ErrorDetail") item.detail) (sym (flat_map-append child_text _ _)))

pull_is : (mpc : List ℕ) → pull_text mpc ≡ flat_map child_text (body_trees (Pull mpc))
unfolding pull_text prefix_of
pull_is mpc =
    parent_is (codes "PullRequest") _ [] _ [] (sym (append-nil (attribute (codes "mpc") mpc))) refl ∙ sym (append-nil _)

copy_is : (copy : Option UserHeader) → receipt_text copy ≡ flat_map child_text (body_trees (Receipt copy))
unfolding receipt_text
copy_is None = parent_is (codes "Receipt") [] [] [] [] refl refl ∙ sym (append-nil _)
copy_is (Some header) =
    parent_is (codes "Receipt") [] (user_tree header ∷ []) [] (user_message header) refl (user_is header ∙ sym (append-nil (child_text (user_tree header)))) ∙ sym (append-nil _)

body_is : (body : SignalBody) → body_text body ≡ flat_map child_text (body_trees body)
body_is (Pull mpc) = pull_is mpc
body_is (Receipt copy) = copy_is copy
body_is (Errors items) = each_is error_text error_tree error_is items

signal_is : (signal : Signal) → signal_message signal ≡ child_text (signal_tree signal)
unfolding signal_message signal_tree
signal_is signal =
    parent_is (codes "SignalMessage") [] _ [] _ refl (rw (info_is signal.stamp signal.id signal.ref_to, body_is signal.body) refl)

unit_is : (u : MessageUnit) → unit_text u ≡ flat_map child_text (unit_trees u)
unfolding pair_text
unit_is (unit.User header) = user_is header ∙ sym (append-nil _)
unit_is (unit.Signal signal) = signal_is signal ∙ sym (append-nil _)
unit_is (unit.Pair pair) = rw (signal_is pair.receipt, signal_is pair.pull) (simp append-nil)

-- the envelope around a unit
soap_is : (local : List ℕ) (children : List Element) (a : List ℕ) → a ≡ flat_map child_text children → element (codes "S:" ++ local) [] a ≡ child_text (node soap local [] [] children)
unfolding child_text escaped prefix_of
soap_is local children a is = rw is (sym (node_text soap local [] [] children []))

messaging : List ℕ → List ℕ
messaging unit = element (codes "eb:Messaging") (attribute (codes "S:mustUnderstand") (codes "true")) unit

messaging_is : (units : List Element) → messaging (flat_map child_text units) ≡ child_text (parent (codes "Messaging") (attribute_of soap (codes "mustUnderstand") (codes "true") ∷ []) units)
unfolding messaging prefix_of
messaging_is units = parent_is (codes "Messaging") _ units _ _ (sym (append-nil _)) refl

regroup : (unit a b c d : List ℕ) → unit ++ (a ++ (b ++ (c ++ d))) ≡ (((unit ++ a) ++ b) ++ c) ++ d
regroup unit a b c d = sym (append_assoc ((unit ++ a) ++ b) c d ∙ append_assoc (unit ++ a) b (c ++ d) ∙ append_assoc unit a (b ++ (c ++ d)))

spelled_is : (unit : List ℕ) → envelope_text unit ≡ element (codes "S:Envelope") declarations (element (codes "S:Header") [] (messaging unit) ++ element (codes "S:Body") [] [])
unfolding envelope_start envelope_end messaging declarations attribute escaped tag_start tag_end end_tag
spelled_is unit =
    append_assoc envelope_start unit envelope_end
    ∙ ap (λ xs. envelope_start ++ xs) (regroup unit (end_tag (codes "eb:Messaging")) (end_tag (codes "S:Header")) (element (codes "S:Body") [] []) (end_tag (codes "S:Envelope")))

root_is : (children : List Element) (a : List ℕ) → a ≡ flat_map child_text children → element (codes "S:Envelope") declarations a ≡ tree_text (node soap (codes "Envelope") [] [] children)
unfolding escaped prefix_of
root_is children a is =
    rw is (ap (λ d. element (codes "S:Envelope") d (flat_map child_text children)) (sym (append-nil declarations)) ∙ sym (node_text soap (codes "Envelope") [] [] children declarations))

envelope_is : (units : List Element) → envelope_text (flat_map child_text units) ≡ tree_text (envelope_tree units)
envelope_is units =
    let held : Element = parent (codes "Messaging") (attribute_of soap (codes "mustUnderstand") (codes "true") ∷ []) units in
    let header : Element = node soap (codes "Header") [] [] (held ∷ []) in
    let body : Element = node soap (codes "Body") [] [] [] in
    let front : element (codes "S:Header") [] (messaging (flat_map child_text units)) ≡ child_text header = soap_is (codes "Header") (held ∷ []) _ (messaging_is units ∙ sym (append-nil (child_text held))) in
    let back : element (codes "S:Body") [] [] ≡ child_text body ++ [] = soap_is (codes "Body") [] [] refl ∙ sym (append-nil (child_text body)) in
    spelled_is (flat_map child_text units)
    ∙ root_is (header ∷ body ∷ []) (element (codes "S:Header") [] (messaging (flat_map child_text units)) ++ element (codes "S:Body") [] [])
    (ap (λ xs. xs ++ element (codes "S:Body") [] []) front ∙ ap (λ xs. child_text header ++ xs) back)

pub text_of_tree : (u : MessageUnit) → envelope_text (unit_text u) ≡ tree_text (unit_tree u)
text_of_tree u = rw (unit_is u) (envelope_is (unit_trees u))
