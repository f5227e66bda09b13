-- The trees of a signal message and of an envelope are kept by their text.
use Rattle.std.proofs.Common.{◌≡◌, ℕ, suc, List, [], ◌∷◌, true, Option, Some, None, arith, refl}
use Rattle.std.specs.Prelude.{IfSome, codes}
use Rattle.std.specs.List.{AllByRecursion}
use Rattle.as4_envelope.specs.Tree.{soap}
use Rattle.as4_envelope.specs.Writable.{has_prefix, is_attribute}
use Rattle.as4_envelope.specs.declared.tree.Element.{Element}
use Rattle.as4_values.specs.declared.header.UserHeader.{UserHeader}
use Rattle.as4_values.specs.declared.message.Pair.{Pair}
use Rattle.as4_values.specs.declared.message.Unit.TheVariants as unit
use Rattle.as4_values.specs.declared.signal.Signal.{Signal}
use Rattle.as4_values.specs.declared.signal_body.ErrorItem.{ErrorItem}
use Rattle.as4_values.specs.declared.signal_body.Severity.{Severity}
use Rattle.as4_values.specs.declared.signal_body.Severity.TheVariants.{Failure, Warning}
use Rattle.as4_values.specs.declared.signal_body.SignalBody.TheVariants.{Pull, Receipt, Errors}
use Rattle.message_model.specs.UnitText.{severity_text}
use Rattle.message_model.specs.UnitTree.{node, attribute_of, optional_attributes, optional_leaves, message_info_tree, user_tree, error_attributes, error_tree, copies, signal_tree, envelope_tree}
use Rattle.tree_reader.specs.Readable.{is_named_attribute}
use Rattle.unit_laws.specs.Kept.{IsXmlText, IsKept, BodyKept, UnitKept}
use Rattle.unit_laws.proofs.XmlLemmas.{is_plain_name, plain_name, graphic_is_xml}
use Rattle.unit_laws.proofs.KeptLemmas.{AttributesKept, attributes_kept, no_attributes, node_kept, parent_kept, deeper, all_deeper, behind_kept, each_kept, leaves_kept}

-- the severity of an error
severity_is_xml : (severity : Severity) → IsXmlText (severity_text severity)
severity_is_xml Failure = graphic_is_xml (codes "failure") refl
severity_is_xml Warning = graphic_is_xml (codes "warning") refl

-- the values of an error, which are characters of XML
pub record ErrorKept (item : ErrorItem) : Type 0 where
  pub code : IsXmlText item.code
  pub origin : IfSome item.origin IsXmlText
  pub category : IfSome item.category IsXmlText
  pub about : IfSome item.about IsXmlText
  pub short : IfSome item.short IsXmlText
  pub description : IfSome item.description IsXmlText
  pub detail : IfSome item.detail IsXmlText

-- an error
pub error_kept : (item : ErrorItem) → ErrorKept item → IsKept 2 (error_tree item)
unfolding error_tree error_attributes optional_attributes
error_kept item is =
    let attributes : AttributesKept (error_attributes item) = attributes_kept
    ((codes "errorCode", Some item.code) ∷ (codes "severity", Some (severity_text item.severity)) ∷ (codes "origin", item.origin)
    ∷ (codes "category", item.category) ∷ (codes "refToMessageInError", item.about) ∷ (codes "shortDescription", item.short) ∷ [])
    refl (is.code, (severity_is_xml item.severity, (is.origin, (is.category, (is.about, (is.short, tt)))))) in
    parent_kept 1 (codes "Error") (error_attributes item) _ refl attributes
    (behind_kept 1 (optional_leaves (codes "Description") item.description) _ (leaves_kept 0 (codes "Description") item.description refl is.description)
    (leaves_kept 0 (codes "ErrorDetail") item.detail refl is.detail))

-- the bodies of signals
pub pull_kept : (mpc : List ℕ) → IsXmlText mpc → BodyKept (Pull mpc)
unfolding BodyKept optional_attributes
pull_kept mpc is = (parent_kept 5 (codes "PullRequest") _ [] refl (attributes_kept ((codes "mpc", Some mpc) ∷ []) refl (is, tt)) tt, tt)

copies_kept : (copy : Option UserHeader) → IfSome copy (λ h. IsKept 5 (user_tree h)) → AllByRecursion (IsKept 5) (copies copy)
copies_kept None is = tt
copies_kept (Some header) is = (is, tt)

pub receipt_kept : (copy : Option UserHeader) → IfSome copy (λ h. IsKept 5 (user_tree h)) → BodyKept (Receipt copy)
unfolding BodyKept
receipt_kept copy is = (parent_kept 5 (codes "Receipt") [] (copies copy) refl no_attributes (copies_kept copy is), tt)

pub errors_kept : (items : List ErrorItem) → AllByRecursion (λ item. IsKept 2 (error_tree item)) items → BodyKept (Errors items)
unfolding BodyKept
errors_kept items each = all_deeper 2 6 _ (omega arith) (each_kept 2 error_tree items each)

-- a signal message
pub signal_kept : (s : Signal) → IsKept 2 (message_info_tree s.stamp s.id s.ref_to) → BodyKept s.body → IsKept 7 (signal_tree s)
unfolding BodyKept signal_tree
signal_kept s info body = parent_kept 6 (codes "SignalMessage") [] _ refl no_attributes (deeper 2 6 _ (omega arith) info, body)

-- units

-- each unit, from its messages
pub user_unit : (header : UserHeader) → IsKept 5 (user_tree header) → UnitKept (unit.User header)
unfolding UnitKept
user_unit header is = (deeper 5 7 (user_tree header) (omega arith) is, tt)

pub signal_unit : (signal : Signal) → IsKept 7 (signal_tree signal) → UnitKept (unit.Signal signal)
unfolding UnitKept
signal_unit signal is = (is, tt)

pub pair_unit : (pair : Pair) → IsKept 7 (signal_tree pair.receipt) → IsKept 7 (signal_tree pair.pull) → UnitKept (unit.Pair pair)
unfolding UnitKept
pair_unit pair one other = (one, (other, tt))

-- envelopes

-- the namespace of SOAP has a prefix
soap_prefix : has_prefix soap ≡ true
unfolding has_prefix
soap_prefix = refl

-- the attribute of `eb:Messaging`
must_understand : AttributesKept (attribute_of soap (codes "mustUnderstand") (codes "true") ∷ [])
unfolding is_attribute is_named_attribute
must_understand =
    let value = graphic_is_xml (codes "true") refl in
    let name = (plain_name (codes "mustUnderstand") refl).is in
    record { sound = rw (soap_prefix, value) refl; differ = refl; named = rw name refl }

-- an element of SOAP
soap_kept : (deep : ℕ) (local : List ℕ) (within : List Element) → is_plain_name local ≡ true → AllByRecursion (IsKept deep) within
    → IsKept (suc deep) (node soap local [] [] within)
soap_kept deep local within plain each = node_kept deep soap local [] [] within soap_prefix plain no_attributes (graphic_is_xml [] refl) each

-- the envelope
pub envelope_kept : (units : List Element) → AllByRecursion (IsKept 7) units → IsKept 10 (envelope_tree units)
envelope_kept units each =
    let messaging = parent_kept 7 (codes "Messaging") _ units refl must_understand each in
    soap_kept 9 (codes "Envelope") _ refl (soap_kept 8 (codes "Header") _ refl (messaging, tt), (soap_kept 8 (codes "Body") [] refl tt, tt))
