-- Each reading gives the same for elements that are read alike.
use Rattle.std.proofs.Common.{◌≡◌, ℕ, List, [], ◌∷◌, refl}
use Rattle.std.specs.Prelude.{Option, Some, None}
use Rattle.byte_forms.specs.Cuts.{◌>>=◌}
use Rattle.header_reader.specs.Elements.{leaf}
use Rattle.header_reader.specs.Envelope.{one_unit_of}
use Rattle.header_reader.specs.Signals.{body_of, error_of, pull_of, receipt_of, severity_of, signal_of}
use Rattle.header_reader.specs.User.{agreement_of, agreement_with, business_in, collaboration_of, info_of, lists_in, maybe_text, part_of, parties_of, party_of, payload_of, properties_of, property_of, service_of, side_of, text_element, user_of}
use Rattle.header_reader.specs.Values.{code_of, id_of, optional, stamp_of, text_of}
use Rattle.header_reader.specs.declared.names.AttributeName.TheVariants as attr
use Rattle.header_reader.specs.declared.names.ElementName.TheVariants as name
use Rattle.unit_laws.proofs.AlikeLemmas.{Respects, attribute_same, child_same, children_same, holds_same, leaf_same, opened, optional_attribute_same, optional_child_same, same_named}

text_same : Respects text_element
text_same = leaf_same text_of

maybe_text_same : Respects maybe_text
maybe_text_same = leaf_same (optional text_of)

-- user messages

info_same : Respects info_of
unfolding info_of
info_same levels a b read =
    rw (
      holds_same (name.Timestamp ∷ name.MessageId ∷ name.RefToMessageId ∷ []) levels a b read,
      child_same (leaf stamp_of) name.Timestamp (leaf_same stamp_of) levels a b read,
      child_same (leaf id_of) name.MessageId (leaf_same id_of) levels a b read,
      optional_child_same (leaf id_of) name.RefToMessageId (leaf_same id_of) levels a b read,
    ) refl

party_same : Respects party_of
unfolding party_of
party_same levels a b read = rw (text_same levels a b read, optional_attribute_same text_of attr.Type levels a b read) refl

side_same : Respects side_of
unfolding side_of
side_same levels a b read =
    rw (
      holds_same (name.PartyId ∷ name.Role ∷ []) levels a b read,
      children_same party_of name.PartyId party_same levels a b read,
      child_same text_element name.Role text_same levels a b read,
    ) refl

parties_same : Respects parties_of
unfolding parties_of
parties_same levels a b read =
    rw (
      holds_same (name.From ∷ name.To ∷ []) levels a b read,
      child_same side_of name.From side_same levels a b read,
      child_same side_of name.To side_same levels a b read,
    ) refl

agreement_same : Respects agreement_of
unfolding agreement_of
agreement_same levels a b read = rw (maybe_text_same levels a b read) (by_value (maybe_text b))
  where
    by_value : (o : Option (Option (List ℕ))) → (o >>= agreement_with a) ≡ (o >>= agreement_with b)
    by_value None = refl
    by_value (Some None) = refl
    by_value (Some (Some value)) =
        rw (optional_attribute_same text_of attr.Type levels a b read, optional_attribute_same text_of attr.Pmode levels a b read) refl

service_same : Respects service_of
unfolding service_of
service_same levels a b read = rw (text_same levels a b read, optional_attribute_same text_of attr.Type levels a b read) refl

collaboration_same : Respects collaboration_of
unfolding collaboration_of
collaboration_same levels a b read =
    rw (
      holds_same (name.AgreementRef ∷ name.Service ∷ name.Action ∷ name.ConversationId ∷ []) levels a b read,
      optional_child_same agreement_of name.AgreementRef agreement_same levels a b read,
      child_same service_of name.Service service_same levels a b read,
      child_same text_element name.Action text_same levels a b read,
      child_same maybe_text name.ConversationId maybe_text_same levels a b read,
    ) refl

property_same : Respects property_of
unfolding property_of
property_same levels a b read =
    rw (
      attribute_same text_of attr.Name levels a b read,
      optional_attribute_same text_of attr.Type levels a b read,
      maybe_text_same levels a b read,
    ) refl

properties_same : Respects properties_of
unfolding properties_of
properties_same levels a b read =
    rw (holds_same (name.Property ∷ []) levels a b read, children_same property_of name.Property property_same levels a b read) refl

part_same : Respects part_of
unfolding part_of
part_same levels a b read =
    rw (
      optional_attribute_same text_of attr.Href levels a b read,
      optional_child_same properties_of name.PartProperties properties_same levels a b read,
    ) refl

payload_same : Respects payload_of
unfolding payload_of
payload_same levels a b read =
    rw (holds_same (name.PartInfo ∷ []) levels a b read, children_same part_of name.PartInfo part_same levels a b read) refl

business_same : Respects business_in
unfolding business_in
business_same levels a b read =
    rw (
      child_same parties_of name.PartyInfo parties_same levels a b read,
      child_same collaboration_of name.CollaborationInfo collaboration_same levels a b read,
    ) refl

lists_same : Respects lists_in
unfolding lists_in
lists_same levels a b read =
    rw (
      optional_child_same properties_of name.MessageProperties properties_same levels a b read,
      optional_child_same payload_of name.PayloadInfo payload_same levels a b read,
    ) refl

pub user_same : Respects user_of
unfolding user_of
user_same levels a b read =
    rw (
      holds_same (name.MessageInfo ∷ name.PartyInfo ∷ name.CollaborationInfo ∷ name.MessageProperties ∷ name.PayloadInfo ∷ []) levels a b read,
      optional_attribute_same text_of attr.Mpc levels a b read,
      child_same info_of name.MessageInfo info_same levels a b read,
      business_same levels a b read,
      lists_same levels a b read,
    ) refl

-- signal messages

pull_same : Respects pull_of
unfolding pull_of
pull_same levels a b read = rw (holds_same [] levels a b read, optional_attribute_same text_of attr.Mpc levels a b read) refl

receipt_same : Respects receipt_of
unfolding receipt_of
receipt_same levels a b read = rw (optional_child_same user_of name.UserMessage user_same levels a b read) refl

error_same : Respects error_of
unfolding error_of
error_same levels a b read =
    rw (
      holds_same (name.Description ∷ name.ErrorDetail ∷ []) levels a b read,
      attribute_same code_of attr.ErrorCode levels a b read,
      attribute_same severity_of attr.Severity levels a b read,
      optional_attribute_same text_of attr.Origin levels a b read,
      optional_attribute_same text_of attr.Category levels a b read,
      optional_attribute_same id_of attr.RefToMessageInError levels a b read,
      optional_attribute_same text_of attr.ShortDescription levels a b read,
      optional_child_same maybe_text name.Description maybe_text_same levels a b read,
      optional_child_same maybe_text name.ErrorDetail maybe_text_same levels a b read,
    ) refl

body_same : Respects body_of
unfolding body_of
body_same levels a b read =
    rw (
      optional_child_same pull_of name.PullRequest pull_same levels a b read,
      optional_child_same receipt_of name.Receipt receipt_same levels a b read,
      children_same error_of name.Error error_same levels a b read,
    ) refl

pub signal_same : Respects signal_of
unfolding signal_of
signal_same levels a b read =
    rw (
      holds_same (name.MessageInfo ∷ name.PullRequest ∷ name.Receipt ∷ name.Error ∷ []) levels a b read,
      child_same info_of name.MessageInfo info_same levels a b read,
      body_same levels a b read,
    ) refl

-- a unit

pub one_unit_same : Respects one_unit_of
unfolding one_unit_of
one_unit_same levels a b read =
    let same = (opened levels a b read.alike).name in
    rw (same_named name.UserMessage a b same, user_same levels a b read, signal_same levels a b read) refl
