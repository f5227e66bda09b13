-- The header of a user message is at most 24 times as long as its element is large, and 1,000,000 bytes more.
use Rattle.std.proofs.Common.{◌≡◌, ℕ, ◌+◌, ◌*◌, ◌≤◌, Bool, true, false, List, [], Option, Some, None, length, length-append, arith, refl, ap, sym}
use Rattle.std.specs.Prelude.{IfSome, unwrap_or}
use Rattle.std.specs.List.{sum_by, flat_map}
use Rattle.std.proofs.lemmas.Option.{same_Some}
use Rattle.as4_effects.specs.Bodies.{number_body, text_body, option_body, list_body, party_body, side_body, agreement_body, service_body, property_body, part_body, header_body}
use Rattle.as4_envelope.specs.declared.tree.Element.{Element}
use Rattle.as4_values.specs.declared.header.Party.{Party}
use Rattle.as4_values.specs.declared.header.Side.{Side}
use Rattle.as4_values.specs.declared.header.Agreement.{Agreement}
use Rattle.as4_values.specs.declared.header.Service.{Service}
use Rattle.as4_values.specs.declared.header.Property.{Property}
use Rattle.as4_values.specs.declared.header.PartInfo.{PartInfo}
use Rattle.as4_values.specs.declared.header.UserHeader.{UserHeader}
use Rattle.as4_values.specs.declared.word.Word.TheVariants.{Identifier}
use Rattle.byte_forms.proofs.CutLemmas.{bind_some}
use Rattle.header_reader.specs.Elements.{optional_attribute, attribute, child, optional_child, children, holding, leaf, holds_only}
use Rattle.header_reader.specs.Made.{made, side_from, part_from, header_from}
use Rattle.header_reader.specs.User.{text_element, maybe_text, info_of, party_of, side_of, parties_of, agreement_with, agreement_of, service_of, collaboration_of, property_of, properties_of, part_of, payload_of, business_in, lists_in, user_of}
use Rattle.header_reader.specs.Values.{is_text, is_word, is_stamp, read_by, text_of, id_of, stamp_of}
use Rattle.header_reader.specs.declared.names.AttributeName.TheVariants as attr
use Rattle.header_reader.specs.declared.names.ElementName.{ElementName}
use Rattle.header_reader.specs.declared.names.ElementName.TheVariants as name
use Rattle.header_reader.specs.declared.parts.MessageInfo.{MessageInfo}
use Rattle.header_reader.specs.declared.parts.PartyInfo.{PartyInfo}
use Rattle.header_reader.specs.declared.parts.CollaborationInfo.{CollaborationInfo}
use Rattle.coming_laws.specs.Sizes.{size}
use Rattle.coming_laws.proofs.ChoiceLemmas.{only_first}
use Rattle.coming_laws.proofs.ElementSizes.{option_length, list_length, leaf_size, optional_leaf_size, attribute_size, optional_attribute_size, Within, child_within, optional_child_within, IsWithin, children_within}

-- a value that was made from a test
made_from : {X P : Type 0} (test : Bool) (value : test ≡ true → X) (x : X) → made test value ≡ Some x → ((is : test ≡ true) → value is ≡ x → P) → P
made_from true value x e k = k refl (same_Some (value refl) x e)
made_from false value x e k = absurd cc

held : {X : Type 0} (names : List ElementName) (e : Element) (read : Option X) (x : X) → holding names e read ≡ Some x → read ≡ Some x
held names e read x is = only_first (holds_only names e) read x is

-- the texts of children

text_child : (test : List ℕ → Bool) (called : ElementName) (e : Element) (text : List ℕ) → child (leaf (read_by test)) called e ≡ Some text → length (text_body text) ≤ size e + 4
text_child test called e text is =
    let w = child_within (leaf (read_by test)) called e text is in omega (arith, w.smaller, leaf_size test w.inner text w.read)

maybe_child : (called : ElementName) (e : Element) (text : Option (List ℕ)) → child maybe_text called e ≡ Some text → option_length text ≤ size e + 5
maybe_child called e text is =
    let w = child_within maybe_text called e text is in omega (arith, w.smaller, optional_leaf_size is_text w.inner text w.read)

text_if_any : (test : List ℕ → Bool) (e : Element) (text : Option (List ℕ)) → IfSome text (Within e (leaf (read_by test))) → option_length text ≤ size e + 5
text_if_any test e None within = omega arith
text_if_any test e (Some text) within = omega (arith, within.smaller, leaf_size test within.inner text within.read)

-- `eb:MessageInfo`

record InfoWithin (e : Element) (info : MessageInfo) : Type 0 where
  stamp : length (text_body info.stamp) ≤ size e + 4
  id : length (text_body info.id) ≤ size e + 4
  ref_to : option_length info.ref_to ≤ size e + 5

info_size : (e : Element) (info : MessageInfo) → info_of e ≡ Some info → InfoWithin e info
unfolding info_of
info_size e info is =
    bind_some (child (leaf stamp_of) name.Timestamp e) _ info (held _ e _ info is) λ stamp stamped rest.
    bind_some (child (leaf id_of) name.MessageId e) _ info rest λ id named others.
    bind_some (optional_child (leaf id_of) name.RefToMessageId e) _ info others λ ref_to refers made.
    let same = same_Some (record { stamp = stamp; id = id; ref_to = ref_to }) info made in
    rw (← same) (record {
      stamp = text_child is_stamp name.Timestamp e stamp stamped;
      id = text_child (is_word Identifier) name.MessageId e id named;
      ref_to = text_if_any (is_word Identifier) e ref_to (optional_child_within (leaf id_of) name.RefToMessageId e ref_to refers);
    })

-- `eb:PartyInfo`

party_size : IsWithin party_of (λ p. length (party_body p)) 2 9
unfolding party_of party_body
party_size e p is =
    bind_some (text_element e) _ p is λ id here rest.
    bind_some (optional_attribute text_of attr.Type e) _ p rest λ kind found made.
    let same = same_Some (record { id = id; kind = kind }) p made in
    rw (← same)
    (omega (
      arith,
      length-append (text_body id) (option_body text_body kind),
      leaf_size is_text e id here,
      optional_attribute_size is_text attr.Type e kind found,
    ))

side_made : (parties : List Party) (role : List ℕ) (s : Side) → side_from parties role ≡ Some s → (s.parties ≡ parties) × (s.role ≡ role)
unfolding side_from
side_made parties role s is = made_from _ _ s is λ test same. (sym (ap (λ (x : Side). x.parties) same), sym (ap (λ (x : Side). x.role) same))

side_size : IsWithin side_of (λ s. length (side_body s)) 3 152
unfolding side_of side_body
side_size e s is =
    bind_some (children party_of name.PartyId e) _ s (held _ e _ s is) λ parties them rest.
    bind_some (child text_element name.Role e) _ s rest λ role played made.
    let same = side_made parties role s made in
    let few : length s.parties ≤ 16 = s.counted.1 in
    omega (
      arith,
      length-append (list_body party_body s.parties) (text_body s.role),
      list_length party_body s.parties,
      ap (λ (l : List Party). sum_by (λ p. length (party_body p)) l) same.0,
      ap (λ (l : List Party). length l) same.0,
      ap (λ (l : List ℕ). length (text_body l)) same.1,
      children_within party_of (λ p. length (party_body p)) 2 9 party_size name.PartyId e parties them,
      text_child is_text name.Role e role played,
    )

record PartiesWithin (e : Element) (sides : PartyInfo) : Type 0 where
  from : length (side_body sides.from) ≤ 3 * size e + 152
  to : length (side_body sides.to) ≤ 3 * size e + 152

side_child : (called : ElementName) (e : Element) (s : Side) → child side_of called e ≡ Some s → length (side_body s) ≤ 3 * size e + 152
side_child called e s is = let w = child_within side_of called e s is in omega (arith, w.smaller, side_size w.inner s w.read)

parties_size : (e : Element) (sides : PartyInfo) → parties_of e ≡ Some sides → PartiesWithin e sides
unfolding parties_of
parties_size e sides is =
    bind_some (child side_of name.From e) _ sides (held _ e _ sides is) λ from sends rest.
    bind_some (child side_of name.To e) _ sides rest λ to receives made.
    let same = same_Some (record { from = from; to = to }) sides made in
    rw (← same) (record { from = side_child name.From e from sends; to = side_child name.To e to receives })

-- `eb:CollaborationInfo`

agreement_by : (e : Element) (value : Option (List ℕ)) (a : Option Agreement) → option_length value ≤ size e + 5 → agreement_with e value ≡ Some a
    → length (option_body agreement_body a) ≤ 3 * size e + 15
unfolding agreement_body
agreement_by e None a within is = let same = same_Some None a is in rw (← same) (omega arith)
agreement_by e (Some value) a within is =
    bind_some (optional_attribute text_of attr.Type e) _ a is λ kind typed rest.
    bind_some (optional_attribute text_of attr.Pmode e) _ a rest λ pmode moded made.
    let same = same_Some (Some (record { value = value; kind = kind; pmode = pmode })) a made in
    rw (← same)
    (simp length-append (omega (
      arith,
      optional_attribute_size is_text attr.Type e kind typed,
      optional_attribute_size is_text attr.Pmode e pmode moded,
    )))

agreement_size : (e : Element) (a : Option Agreement) → agreement_of e ≡ Some a → length (option_body agreement_body a) ≤ 3 * size e + 15
unfolding agreement_of
agreement_size e a is =
    bind_some (maybe_text e) _ a is λ value here made. agreement_by e value a (optional_leaf_size is_text e value here) made

agreement_if_any : (e : Element) (a : Option (Option Agreement)) → IfSome a (Within e agreement_of) → length (option_body agreement_body (unwrap_or a None)) ≤ 3 * size e + 15
agreement_if_any e None within = omega arith
agreement_if_any e (Some a) within = omega (arith, within.smaller, agreement_size within.inner a within.read)

service_size : IsWithin service_of (λ s. length (service_body s)) 2 9
unfolding service_of service_body
service_size e s is =
    bind_some (text_element e) _ s is λ value here rest.
    bind_some (optional_attribute text_of attr.Type e) _ s rest λ kind found made.
    let same = same_Some (record { value = value; kind = kind }) s made in
    rw (← same)
    (omega (
      arith,
      length-append (text_body value) (option_body text_body kind),
      leaf_size is_text e value here,
      optional_attribute_size is_text attr.Type e kind found,
    ))

record BusinessWithin (e : Element) (business : CollaborationInfo) : Type 0 where
  agreement : length (option_body agreement_body business.agreement) ≤ 3 * size e + 15
  service : length (service_body business.service) ≤ 2 * size e + 9
  action : length (text_body business.action) ≤ size e + 4
  conversation : option_length business.conversation ≤ size e + 5

service_child : (e : Element) (s : Service) → child service_of name.Service e ≡ Some s → length (service_body s) ≤ 2 * size e + 9
service_child e s is = let w = child_within service_of name.Service e s is in omega (arith, w.smaller, service_size w.inner s w.read)

collaboration_size : (e : Element) (business : CollaborationInfo) → collaboration_of e ≡ Some business → BusinessWithin e business
unfolding collaboration_of
collaboration_size e business is =
    bind_some (optional_child agreement_of name.AgreementRef e) _ business (held _ e _ business is) λ agreement agreed rest.
    bind_some (child service_of name.Service e) _ business rest λ service served others.
    bind_some (child text_element name.Action e) _ business others λ action acts more.
    bind_some (child maybe_text name.ConversationId e) _ business more λ conversation talks made.
    let same = same_Some (record { agreement = unwrap_or agreement None; service = service; action = action; conversation = conversation }) business made in
    rw (← same) (record {
      agreement = agreement_if_any e agreement (optional_child_within agreement_of name.AgreementRef e agreement agreed);
      service = service_child e service served;
      action = text_child is_text name.Action e action acts;
      conversation = maybe_child name.ConversationId e conversation talks;
    })

-- properties and part infos

abbrev properties_sum : List Property → ℕ
properties_sum properties = sum_by (λ p. length (property_body p)) properties

abbrev parts_sum : List PartInfo → ℕ
parts_sum parts = sum_by (λ p. length (part_body p)) parts

property_size : IsWithin property_of (λ p. length (property_body p)) 3 14
unfolding property_of property_body
property_size e p is =
    bind_some (attribute text_of attr.Name e) _ p is λ called named rest.
    bind_some (optional_attribute text_of attr.Type e) _ p rest λ kind typed others.
    bind_some (maybe_text e) _ p others λ value here made.
    let same = same_Some (record { name = called; kind = kind; value = value }) p made in
    rw (← same)
    (simp length-append (omega (
      arith,
      attribute_size is_text attr.Name e called named,
      optional_attribute_size is_text attr.Type e kind typed,
      optional_leaf_size is_text e value here,
    )))

properties_size : (e : Element) (properties : List Property) → properties_of e ≡ Some properties → properties_sum properties ≤ 3 * size e + length properties * 14
unfolding properties_of
properties_size e properties is =
    children_within property_of (λ p. length (property_body p)) 3 14 property_size name.Property e properties (held _ e _ properties is)

properties_if_any : (e : Element) (properties : Option (List Property)) → IfSome properties (Within e properties_of)
    → properties_sum (unwrap_or properties []) ≤ 3 * size e + length (unwrap_or properties []) * 14
properties_if_any e None within = omega arith
properties_if_any e (Some properties) within = omega (arith, within.smaller, properties_size within.inner properties within.read)

part_made : (href : Option (List ℕ)) (properties : List Property) (p : PartInfo) → part_from href properties ≡ Some p → (p.href ≡ href) × (p.properties ≡ properties)
unfolding part_from
part_made href properties p is = made_from _ _ p is λ test same. (sym (ap (λ (x : PartInfo). x.href) same), sym (ap (λ (x : PartInfo). x.properties) same))

part_size : IsWithin part_of (λ p. length (part_body p)) 4 3593
unfolding part_of part_body
part_size e p is =
    bind_some (optional_attribute text_of attr.Href e) _ p is λ href refers rest.
    bind_some (optional_child properties_of name.PartProperties e) _ p rest λ properties them made.
    let same = part_made href (unwrap_or properties []) p made in
    let few : length p.properties ≤ 256 = p.counted in
    omega (
      arith,
      length-append (option_body text_body p.href) (list_body property_body p.properties),
      list_length property_body p.properties,
      ap properties_sum same.1,
      ap (λ (l : List Property). length l) same.1,
      ap option_length same.0,
      optional_attribute_size is_text attr.Href e href refers,
      properties_if_any e properties (optional_child_within properties_of name.PartProperties e properties them),
    )

payload_size : (e : Element) (parts : List PartInfo) → payload_of e ≡ Some parts → parts_sum parts ≤ 4 * size e + length parts * 3593
unfolding payload_of
payload_size e parts is =
    children_within part_of (λ p. length (part_body p)) 4 3593 part_size name.PartInfo e parts (held _ e _ parts is)

parts_if_any : (e : Element) (parts : Option (List PartInfo)) → IfSome parts (Within e payload_of)
    → parts_sum (unwrap_or parts []) ≤ 4 * size e + length (unwrap_or parts []) * 3593
parts_if_any e None within = omega arith
parts_if_any e (Some parts) within = omega (arith, within.smaller, payload_size within.inner parts within.read)

record ListsWithin (e : Element) (properties : List Property) (parts : List PartInfo) : Type 0 where
  described : properties_sum properties ≤ 3 * size e + length properties * 14
  listed : parts_sum parts ≤ 4 * size e + length parts * 3593

lists_size : (e : Element) (lists : List Property × List PartInfo) → lists_in e ≡ Some lists → ListsWithin e lists.0 lists.1
unfolding lists_in
lists_size e lists is =
    bind_some (optional_child properties_of name.MessageProperties e) _ lists is λ properties them rest.
    bind_some (optional_child payload_of name.PayloadInfo e) _ lists rest λ parts those made.
    let same = same_Some (unwrap_or properties [], unwrap_or parts []) lists made in
    rw (← same) (record {
      described = properties_if_any e properties (optional_child_within properties_of name.MessageProperties e properties them);
      listed = parts_if_any e parts (optional_child_within payload_of name.PayloadInfo e parts those);
    })

-- `eb:UserMessage`

business_size : (e : Element) (both : PartyInfo × CollaborationInfo) → business_in e ≡ Some both → PartiesWithin e both.0 × BusinessWithin e both.1
unfolding business_in
business_size e both is =
    bind_some (child parties_of name.PartyInfo e) _ both is λ sides here rest.
    bind_some (child collaboration_of name.CollaborationInfo e) _ both rest λ business there made.
    let same = same_Some (sides, business) both made in
    let one = child_within parties_of name.PartyInfo e sides here in
    let other = child_within collaboration_of name.CollaborationInfo e business there in
    let parties = parties_size one.inner sides one.read in
    let collaboration = collaboration_size other.inner business other.read in
    rw (← same) (
      record { from = omega (arith, parties.from, one.smaller); to = omega (arith, parties.to, one.smaller) },
      record {
        agreement = omega (arith, collaboration.agreement, other.smaller);
        service = omega (arith, collaboration.service, other.smaller);
        action = omega (arith, collaboration.action, other.smaller);
        conversation = omega (arith, collaboration.conversation, other.smaller);
      },
    )

info_child : (e : Element) (info : MessageInfo) → child info_of name.MessageInfo e ≡ Some info → InfoWithin e info
info_child e info is =
    let w = child_within info_of name.MessageInfo e info is in
    let within = info_size w.inner info w.read in
    record {
      stamp = omega (arith, within.stamp, w.smaller);
      id = omega (arith, within.id, w.smaller);
      ref_to = omega (arith, within.ref_to, w.smaller);
    }

header_size : (e : Element) (mpc : Option (List ℕ)) (info : MessageInfo) (sides : PartyInfo) (business : CollaborationInfo) (properties : List Property) (parts : List PartInfo) (h : UserHeader)
    → header_from mpc info sides business properties parts ≡ Some h → option_length mpc ≤ size e + 5 → InfoWithin e info → PartiesWithin e sides → BusinessWithin e business
    → ListsWithin e properties parts → length (header_body h) ≤ 24 * size e + 1000000
unfolding header_from header_body
header_size e mpc info sides business properties parts h is channel informed partied collaborated listed =
    made_from _ _ h is λ test same.
    let few_properties : length properties ≤ 256 = let counted : length h.properties ≤ 256 = h.properties_counted in omega (arith, ap (λ (x : UserHeader). length x.properties) same) in
    let few_parts : length parts ≤ 255 = let counted : length h.parts ≤ 255 = h.parts_counted in omega (arith, ap (λ (x : UserHeader). length x.parts) same) in
    rw (← same)
    (simp length-append (omega (
      arith,
      list_length property_body properties,
      list_length part_body parts,
      length-append (number_body 4 (length properties)) (flat_map property_body properties),
      length-append (number_body 4 (length parts)) (flat_map part_body parts),
    )))

pub user_size : IsWithin user_of (λ h. length (header_body h)) 24 1000000
unfolding user_of
user_size e h is =
    bind_some (optional_attribute text_of attr.Mpc e) _ h (held _ e _ h is) λ mpc channel rest.
    bind_some (child info_of name.MessageInfo e) _ h rest λ info informed others.
    bind_some (business_in e) _ h others λ business partied more.
    bind_some (lists_in e) _ h more λ lists listed made.
    let both = business_size e business partied in
    header_size e mpc info business.0 business.1 lists.0 lists.1 h made (optional_attribute_size is_text attr.Mpc e mpc channel) (info_child e info informed) both.0 both.1
    (lists_size e lists listed)
