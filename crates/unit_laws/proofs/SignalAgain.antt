-- A written signal message is read back, and so is a written envelope.
use Rattle.std.proofs.Common.{◌≡◌, ℕ, List, [], ◌∷◌, ◌++◌, true, false, refl, ap, ◌∙◌, inl, inr}
use Rattle.std.specs.Prelude.{Option, Some, None, IfSome, codes, unwrap_or, option_map, bytes_eq}
use Rattle.std.specs.List.{find, filter}
use Rattle.std.proofs.lemmas.Bool.{false≢true, cases_Bool}
use Rattle.as4_envelope.specs.Tree.{soap, ebms}
use Rattle.as4_envelope.specs.declared.tree.Attribute.{Attribute}
use Rattle.as4_envelope.specs.declared.tree.Element.{Element}
use Rattle.as4_envelope.specs.declared.tree.Element.TheViews.{out-roll-Element}
use Rattle.as4_values.specs.SignalParts.{is_signal}
use Rattle.as4_values.specs.declared.word.Word.TheVariants.{Identifier}
use Rattle.as4_values.specs.declared.header.UserHeader.{UserHeader}
use Rattle.as4_values.specs.declared.message.Unit.{Unit as MessageUnit}
use Rattle.as4_values.specs.declared.message.Unit.TheVariants as unit
use Rattle.as4_values.specs.declared.signal.Signal.{Signal}
use Rattle.as4_values.specs.declared.signal_body.ErrorItem.{ErrorItem}
use Rattle.as4_values.specs.declared.signal_body.Severity.{Severity}
use Rattle.as4_values.specs.declared.signal_body.Severity.TheVariants.{Failure, Warning}
use Rattle.as4_values.specs.declared.signal_body.SignalBody.{SignalBody}
use Rattle.as4_values.specs.declared.signal_body.SignalBody.TheVariants.{Pull, Receipt, Errors}
use Rattle.message_model.specs.UnitText.{severity_text}
use Rattle.message_model.specs.UnitTree.{node, attribute_of as attribute_node, envelope_tree, parent, plain_attribute, optional_attributes, optional_leaves, message_info_tree, user_tree, error_attributes, error_tree, copies, body_trees, signal_tree, unit_tree}
use Rattle.unit_laws.proofs.AgainLemmas.{within_node, named_node, stands_node, holds_node, leaf_node, child_node, optional_node, children_node, value_node, optional_again, each_again, named_all, named_none, all_pass}
use Rattle.header_reader.proofs.MadeLemmas.{signal_made, pair_made}
use Rattle.unit_laws.proofs.UserAgain.{maybe_again}
use Rattle.unit_laws.specs.Again.{TextAgain, IdAgain, BodyAgain, UnitAgain}
use Rattle.header_reader.specs.Elements.{children_of, is_named, may_stand, is_plain, holds_only, optional_value, optional_attribute, attribute, child, optional_child}
use Rattle.header_reader.specs.Envelope.{first_of, is_soap, is_soap_named, is_unit, blocks_in, blocks_of, asks_for_more, elements_among, unit_elements, meaning_of, one_unit_of, both_of, unit_of, SpellsUnit}
use Rattle.header_reader.specs.Names.{element_name, attribute_name}
use Rattle.header_reader.specs.Signals.{pull_of, receipt_of, severity_of, error_of, body_of, signal_of}
use Rattle.header_reader.specs.User.{info_of, maybe_text, user_of}
use Rattle.header_reader.specs.Values.{is_word, text_of, id_of, code_of}
use Rattle.header_reader.specs.declared.names.AttributeName.{AttributeName}
use Rattle.header_reader.specs.declared.names.AttributeName.TheVariants as attr
use Rattle.header_reader.specs.declared.names.ElementName.TheVariants as name

no_empty_id : is_word Identifier [] ≡ false
unfolding is_word
no_empty_id = refl

text_value : (text : Option (List ℕ)) → IfSome text TextAgain → optional_value text_of text ≡ Some text
text_value None is = refl
text_value (Some text) is = maybe_again text is

id_value : (id : Option (List ℕ)) → IfSome id IdAgain → optional_value id_of id ≡ Some id
id_value None is = refl
id_value (Some id) is = optional_again (is_word Identifier) id no_empty_id is

-- attributes, one after another

abbrev value_in : AttributeName → List Attribute → Option (List ℕ)
value_in label attributes = option_map (λ a. a.value) (find (is_plain label) attributes)

value_behind : (label : AttributeName) (front back : List Attribute) → value_in label (front ++ back) ≡ first_of (value_in label front) (value_in label back)
value_behind label [] back = refl
value_behind label (a ∷ front) back =
    elim (cases_Bool (is_plain label a)) [
      | inl here ↦ rw here refl
      | inr past ↦ rw past (value_behind label front back)
    ]

value_same : (label : AttributeName) (value : Option (List ℕ)) → (bytes_eq (attribute_name label) (attribute_name label) ≡ true) → value_in label (optional_attributes (attribute_name label) value) ≡ value
unfolding optional_attributes
value_same label None is = refl
value_same label (Some value) is = rw is refl

value_other : (label : AttributeName) (local : List ℕ) (value : Option (List ℕ)) → bytes_eq local (attribute_name label) ≡ false → value_in label (optional_attributes local value) ≡ None
unfolding optional_attributes
value_other label local None is = refl
value_other label local (Some value) is = rw is refl

four : (label : AttributeName) (a b c d : List Attribute) → value_in label (a ++ b ++ c ++ d)
    ≡ first_of (first_of (first_of (value_in label a) (value_in label b)) (value_in label c)) (value_in label d)
four label a b c d =
    value_behind label (a ++ b ++ c) d ∙ ap (λ x. first_of x (value_in label d)) (value_behind label (a ++ b) c
    ∙ ap (λ x. first_of x (value_in label c)) (value_behind label a b))

pick_first : {X : Type 0} (x : Option X) → first_of (first_of (first_of x None) None) None ≡ x
pick_first None = refl
pick_first (Some x) = refl

pick_second : {X : Type 0} (x : Option X) → first_of (first_of x None) None ≡ x
pick_second None = refl
pick_second (Some x) = refl

pick_third : {X : Type 0} (x : Option X) → first_of x None ≡ x
pick_third None = refl
pick_third (Some x) = refl

abbrev listed : Option (List ℕ) → Option (List ℕ) → Option (List ℕ) → Option (List ℕ) → List Attribute
listed origin category about short =
    optional_attributes (codes "origin") origin ++ optional_attributes (codes "category") category
    ++ optional_attributes (codes "refToMessageInError") about ++ optional_attributes (codes "shortDescription") short

origin_there : (origin category about short : Option (List ℕ)) → value_in attr.Origin (listed origin category about short) ≡ origin
unfolding attribute_name
origin_there origin category about short =
    four attr.Origin (optional_attributes (codes "origin") origin) (optional_attributes (codes "category") category)
    (optional_attributes (codes "refToMessageInError") about) (optional_attributes (codes "shortDescription") short)
    ∙ rw (
      value_same attr.Origin origin refl,
      value_other attr.Origin (codes "category") category refl,
      value_other attr.Origin (codes "refToMessageInError") about refl,
      value_other attr.Origin (codes "shortDescription") short refl,
    ) (pick_first origin)

category_there : (origin category about short : Option (List ℕ)) → value_in attr.Category (listed origin category about short) ≡ category
unfolding attribute_name
category_there origin category about short =
    four attr.Category (optional_attributes (codes "origin") origin) (optional_attributes (codes "category") category)
    (optional_attributes (codes "refToMessageInError") about) (optional_attributes (codes "shortDescription") short)
    ∙ rw (
      value_other attr.Category (codes "origin") origin refl,
      value_same attr.Category category refl,
      value_other attr.Category (codes "refToMessageInError") about refl,
      value_other attr.Category (codes "shortDescription") short refl,
    ) (pick_second category)

about_there : (origin category about short : Option (List ℕ)) → value_in attr.RefToMessageInError (listed origin category about short) ≡ about
unfolding attribute_name
about_there origin category about short =
    four attr.RefToMessageInError (optional_attributes (codes "origin") origin) (optional_attributes (codes "category") category)
    (optional_attributes (codes "refToMessageInError") about) (optional_attributes (codes "shortDescription") short)
    ∙ rw (
      value_other attr.RefToMessageInError (codes "origin") origin refl,
      value_other attr.RefToMessageInError (codes "category") category refl,
      value_same attr.RefToMessageInError about refl,
      value_other attr.RefToMessageInError (codes "shortDescription") short refl,
    ) (pick_third about)

short_there : (origin category about short : Option (List ℕ)) → value_in attr.ShortDescription (listed origin category about short) ≡ short
unfolding attribute_name
short_there origin category about short =
    four attr.ShortDescription (optional_attributes (codes "origin") origin) (optional_attributes (codes "category") category)
    (optional_attributes (codes "refToMessageInError") about) (optional_attributes (codes "shortDescription") short)
    ∙ rw (
      value_other attr.ShortDescription (codes "origin") origin refl,
      value_other attr.ShortDescription (codes "category") category refl,
      value_other attr.ShortDescription (codes "refToMessageInError") about refl,
      value_same attr.ShortDescription short refl,
    ) refl

-- an error

severity_again : (severity : Severity) → severity_of (severity_text severity) ≡ Some severity
unfolding severity_of
severity_again Failure = refl
severity_again Warning = refl

-- the value that is read for an optional text, which is written as an element
pub leaves_again : (value : Option (List ℕ)) → Option (Option (List ℕ))
leaves_again None = None
leaves_again (Some text) = Some (Some text)

error_texts : (attributes : List Attribute) (description detail : Option (List ℕ)) → IfSome description TextAgain → IfSome detail TextAgain
    → (holds_only (name.Description ∷ name.ErrorDetail ∷ []) (parent (codes "Error") attributes (optional_leaves (codes "Description") description ++ optional_leaves (codes "ErrorDetail") detail)) ≡ true)
    × (optional_child maybe_text name.Description (parent (codes "Error") attributes (optional_leaves (codes "Description") description ++ optional_leaves (codes "ErrorDetail") detail)) ≡ Some (leaves_again description))
    × (optional_child maybe_text name.ErrorDetail (parent (codes "Error") attributes (optional_leaves (codes "Description") description ++ optional_leaves (codes "ErrorDetail") detail)) ≡ Some (leaves_again detail))
unfolding element_name optional_leaves leaves_again
error_texts attributes None None a b = (simp holds_node, simp optional_node, simp optional_node)
error_texts attributes None (Some detail) a b =
    (simp (holds_node, stands_node), simp (optional_node, named_node), simp (optional_node, named_node, leaf_node, maybe_again detail b))
error_texts attributes (Some description) None a b =
    (simp (holds_node, stands_node), simp (optional_node, named_node, leaf_node, maybe_again description a), simp (optional_node, named_node))
error_texts attributes (Some description) (Some detail) a b = (
  simp (holds_node, stands_node),
  simp (optional_node, named_node, leaf_node, maybe_again description a),
  simp (optional_node, named_node, leaf_node, maybe_again detail b),
)

leaves_whole : (value : Option (List ℕ)) → unwrap_or (leaves_again value) None ≡ value
unfolding leaves_again
leaves_whole None = refl
leaves_whole (Some text) = refl

-- the values of an error, each of which is read back
pub record ErrorAgain (item : ErrorItem) : Type 0 where
  pub code : code_of item.code ≡ Some item.code
  pub origin : IfSome item.origin TextAgain
  pub category : IfSome item.category TextAgain
  pub about : IfSome item.about IdAgain
  pub short : IfSome item.short TextAgain
  pub description : IfSome item.description TextAgain
  pub detail : IfSome item.detail TextAgain

pub error_again : (item : ErrorItem) → ErrorAgain item → error_of (error_tree item) ≡ Some item
unfolding error_of attribute optional_attribute attribute_name error_tree error_attributes
error_again item is =
    let texts = error_texts (error_attributes item) item.description item.detail is.description is.detail in
    simp (
      texts.0,
      value_node,
      is.code,
      severity_again item.severity,
      origin_there item.origin item.category item.about item.short,
      text_value item.origin is.origin,
      category_there item.origin item.category item.about item.short,
      text_value item.category is.category,
      about_there item.origin item.category item.about item.short,
      id_value item.about is.about,
      short_there item.origin item.category item.about item.short,
      text_value item.short is.short,
      texts.1,
      texts.2,
      leaves_whole item.description,
      leaves_whole item.detail,
    )

-- the bodies of signals

pub pull_again : (mpc : List ℕ) → TextAgain mpc → pull_of (parent (codes "PullRequest") (plain_attribute (codes "mpc") mpc ∷ []) []) ≡ Some (record { mpc = mpc })
unfolding pull_of optional_attribute attribute_name
pull_again mpc is = simp (holds_node, value_node, maybe_again mpc is)

pub receipt_again : (copy : Option UserHeader) → IfSome copy (λ h. user_of (user_tree h) ≡ Some h) → receipt_of (parent (codes "Receipt") [] (copies copy)) ≡ Some (record { copy = copy })
unfolding receipt_of element_name user_tree
receipt_again None is = simp optional_node
receipt_again (Some header) is = simp (optional_node, named_node, is)

error_is_named : (item : ErrorItem) → is_named name.Error (error_tree item) ≡ true
unfolding element_name error_tree
error_is_named item = simp named_node

error_is_no_pull : (item : ErrorItem) → is_named name.PullRequest (error_tree item) ≡ false
unfolding element_name error_tree
error_is_no_pull item = simp named_node

error_is_no_receipt : (item : ErrorItem) → is_named name.Receipt (error_tree item) ≡ false
unfolding element_name error_tree
error_is_no_receipt item = simp named_node

error_is_no_info : (item : ErrorItem) → is_named name.MessageInfo (error_tree item) ≡ false
unfolding element_name error_tree
error_is_no_info item = simp named_node

error_may_stand : (item : ErrorItem) → may_stand (name.MessageInfo ∷ name.PullRequest ∷ name.Receipt ∷ name.Error ∷ []) (error_tree item) ≡ true
unfolding element_name error_tree
error_may_stand item = simp stands_node

-- the elements of a signal
abbrev signal_node : List ℕ → List ℕ → Option (List ℕ) → SignalBody → Element
signal_node stamp id ref_to body = parent (codes "SignalMessage") [] (message_info_tree stamp id ref_to ∷ body_trees body)

signal_holds : (stamp id : List ℕ) (ref_to : Option (List ℕ)) (body : SignalBody)
    → holds_only (name.MessageInfo ∷ name.PullRequest ∷ name.Receipt ∷ name.Error ∷ []) (signal_node stamp id ref_to body) ≡ true
unfolding element_name message_info_tree
signal_holds stamp id ref_to (Pull mpc) = simp (holds_node, stands_node)
signal_holds stamp id ref_to (Receipt copy) = simp (holds_node, stands_node)
signal_holds stamp id ref_to (Errors items) =
    simp (holds_node, stands_node, all_pass (may_stand (name.MessageInfo ∷ name.PullRequest ∷ name.Receipt ∷ name.Error ∷ [])) error_tree items error_may_stand)

signal_info : (stamp id : List ℕ) (ref_to : Option (List ℕ)) (body : SignalBody)
    → child info_of name.MessageInfo (signal_node stamp id ref_to body) ≡ info_of (message_info_tree stamp id ref_to)
unfolding element_name message_info_tree
signal_info stamp id ref_to (Pull mpc) = simp (child_node, named_node)
signal_info stamp id ref_to (Receipt copy) = simp (child_node, named_node)
signal_info stamp id ref_to (Errors items) = simp (child_node, named_node, named_none name.MessageInfo error_tree items error_is_no_info)

signal_body : (stamp id : List ℕ) (ref_to : Option (List ℕ)) (body : SignalBody) → is_signal ref_to body ≡ true → BodyAgain body
    → body_of (signal_node stamp id ref_to body) ≡ Some body
unfolding body_of element_name message_info_tree
signal_body stamp id ref_to (Pull mpc) whole is = simp (optional_node, children_node, named_node, pull_again mpc is)
signal_body stamp id ref_to (Receipt copy) whole is = simp (optional_node, children_node, named_node, receipt_again copy is)
signal_body stamp id ref_to (Errors []) whole is = absurd (false≢true whole)
signal_body stamp id ref_to (Errors (item ∷ items)) whole is =
    simp (
      optional_node,
      children_node,
      named_node,
      named_none name.PullRequest error_tree (item ∷ items) error_is_no_pull,
      named_none name.Receipt error_tree (item ∷ items) error_is_no_receipt,
      named_all name.Error error_tree (item ∷ items) error_is_named,
      each_again error_of error_tree (item ∷ items) is,
    )

pub signal_again : (s : Signal) → info_of (message_info_tree s.stamp s.id s.ref_to) ≡ Some (record { stamp = s.stamp; id = s.id; ref_to = s.ref_to })
    → BodyAgain s.body → signal_of (signal_tree s) ≡ Some s
unfolding signal_of signal_tree
signal_again s info body =
    simp (signal_holds s.stamp s.id s.ref_to s.body, signal_info s.stamp s.id s.ref_to s.body, info, signal_body s.stamp s.id s.ref_to s.body s.whole body) (signal_made s)

-- envelopes

soap_named_node : (name local text : List ℕ) (attributes : List Attribute) (within : List Element)
    → is_soap_named name (node soap local attributes text within) ≡ bytes_eq local name
unfolding is_soap_named
soap_named_node name local text attributes within = rw out-roll-Element refl

abbrev messaging_node : List Element → Element
messaging_node units = parent (codes "Messaging") (attribute_node soap (codes "mustUnderstand") (codes "true") ∷ []) units

abbrev header_node : List Element → Element
header_node units = node soap (codes "Header") [] [] (messaging_node units ∷ [])

abbrev body_node : Element
body_node = node soap (codes "Body") [] [] []

soap_parts : (units : List Element) → filter is_soap (header_node units ∷ body_node ∷ []) ≡ header_node units ∷ body_node ∷ []
soap_parts units = simp out-roll-Element

blocks_there : (units : List Element) → blocks_of (envelope_tree units) ≡ Some (messaging_node units ∷ [])
unfolding blocks_of
blocks_there units =
    let inside : blocks_in (header_node units ∷ body_node ∷ []) ≡ Some (children_of (header_node units)) = simp soap_named_node in
    simp soap_named_node (ap (λ es. blocks_in (filter is_soap es)) (within_node soap (codes "Envelope") [] [] (header_node units ∷ body_node ∷ []))
    ∙ ap blocks_in (soap_parts units) ∙ inside ∙ ap Some (within_node soap (codes "Header") [] [] (messaging_node units ∷ [])))

units_there : (units : List Element) → unit_of (envelope_tree units) ≡ meaning_of (elements_among (filter is_unit units))
unfolding unit_of unit_elements asks_for_more element_name
units_there units =
    simp (blocks_there units, named_node) (ap (λ es. meaning_of (elements_among (filter is_unit es)))
    (within_node ebms (codes "Messaging") [] (attribute_node soap (codes "mustUnderstand") (codes "true") ∷ []) units))

pub unit_again : (u : MessageUnit) → UnitAgain u → SpellsUnit (unit_tree u) u
unfolding element_name one_unit_of both_of user_tree signal_tree
unit_again (unit.User header) is = units_there (user_tree header ∷ []) ∙ simp (named_node, is)
unit_again (unit.Signal signal) is = units_there (signal_tree signal ∷ []) ∙ simp (named_node, is)
unit_again (unit.Pair pair) is =
    units_there (signal_tree pair.receipt ∷ signal_tree pair.pull ∷ []) ∙ simp (named_node, is.0, is.1, pair_made pair)
