-- A header whose texts are texts is read back from its tree, and its tree is kept by its text.
use Rattle.std.proofs.Common.{◌≡◌, ℕ, List, [], ◌∷◌, Option, Some, None, refl, true}
use Rattle.std.specs.Prelude.{IfSome, codes}
use Rattle.std.specs.List.{AllByRecursion}
use Rattle.as4_values.specs.Texts.{IsText}
use Rattle.as4_values.specs.Word.{IsWord}
use Rattle.as4_values.specs.declared.word.Word.TheVariants.{Identifier}
use Rattle.as4_values.specs.declared.header.Agreement.{Agreement}
use Rattle.as4_values.specs.declared.header.PartInfo.{PartInfo}
use Rattle.as4_values.specs.declared.header.Party.{Party}
use Rattle.as4_values.specs.declared.header.Property.{Property}
use Rattle.as4_values.specs.declared.header.Service.{Service}
use Rattle.as4_values.specs.declared.header.Side.{Side}
use Rattle.as4_values.specs.declared.header.UserHeader.{UserHeader}
use Rattle.byte_forms.specs.Forms.{Each}
use Rattle.event_code.specs.Spelled.{IsSpelledAgreement, IsSpelledHeader, IsSpelledPart, IsSpelledParty, IsSpelledProperty, IsSpelledService, IsSpelledSide, IsSpelledStamp}
use Rattle.header_reader.specs.User.{part_of, party_of, property_of, service_of, side_of, user_of}
use Rattle.message_model.specs.UnitTree.{part_tree, party_tree, property_tree, service_tree, side_tree, user_tree}
use Rattle.unit_laws.proofs.AgainLemmas.{stamp_again, text_again, word_again}
use Rattle.unit_laws.proofs.UserAgain.{agreement_again, collaboration_again, info_again, part_again, parties_again, party_again, property_again, service_again, side_again, user_again}
use Rattle.unit_laws.proofs.UserKept.{agreement_kept, business_kept, info_kept, part_kept, party_kept, property_kept, service_kept, side_kept, sides_kept, user_kept}
use Rattle.unit_laws.proofs.XmlLemmas.{id_is_xml, is_plain_name, stamp_is_xml, text_is_xml}
use Rattle.unit_laws.specs.Again.{AgreementAgain, IdAgain, TextAgain}
use Rattle.unit_laws.specs.Kept.{AgreementKept, IsKept, IsXmlText}

-- values with one property have another
each_told : {X : Type 0} (P Q : X → Type 0) → ((x : X) → P x → Q x) → (xs : List X) → Each P xs → AllByRecursion Q xs
each_told P Q told [] each = tt
each_told P Q told (x ∷ xs) each = (told x each.0, each_told P Q told xs each.1)

some_told : {X : Type 0} (P Q : X → Type 0) → ((x : X) → P x → Q x) → (value : Option X) → IfSome value P → IfSome value Q
some_told P Q told None is = tt
some_told P Q told (Some x) is = told x is

texts_again : (value : Option (List ℕ)) → IfSome value IsText → IfSome value TextAgain
texts_again value is = some_told IsText TextAgain text_again value is

texts_kept : (value : Option (List ℕ)) → IfSome value IsText → IfSome value IsXmlText
texts_kept value is = some_told IsText IsXmlText text_is_xml value is

id_again : (id : List ℕ) → IsWord Identifier id → IdAgain id
id_again id is = word_again Identifier id is

ids_again : (value : Option (List ℕ)) → IfSome value (IsWord Identifier) → IfSome value IdAgain
ids_again value is = some_told (IsWord Identifier) IdAgain id_again value is

ids_kept : (value : Option (List ℕ)) → IfSome value (IsWord Identifier) → IfSome value IsXmlText
ids_kept value is = some_told (IsWord Identifier) IsXmlText id_is_xml value is

-- parties and sides

parties_told : (p : Party) → IsSpelledParty p → party_of (party_tree p) ≡ Some p
unfolding IsSpelledParty
parties_told p is = party_again p (text_again p.id is.0) (texts_again p.kind is.1)

parties_kept : (p : Party) → IsSpelledParty p → IsKept 1 (party_tree p)
unfolding IsSpelledParty
parties_kept p is = party_kept p (text_is_xml p.id is.0) (texts_kept p.kind is.1)

side_told : (local : List ℕ) (s : Side) → IsSpelledSide s → side_of (side_tree local s) ≡ Some s
unfolding IsSpelledSide
side_told local s is =
    side_again local s (each_told IsSpelledParty (λ p. party_of (party_tree p) ≡ Some p) parties_told s.parties is.0) (text_again s.role is.1)

side_stays : (local : List ℕ) (s : Side) → is_plain_name local ≡ true → IsSpelledSide s → IsKept 2 (side_tree local s)
unfolding IsSpelledSide
side_stays local s plain is =
    side_kept local s plain (each_told IsSpelledParty (λ p. IsKept 1 (party_tree p)) parties_kept s.parties is.0) (text_is_xml s.role is.1)

-- the collaboration

agreement_told : (a : Agreement) → IsSpelledAgreement a → AgreementAgain a
unfolding IsSpelledAgreement
agreement_told a is = agreement_again a.value a.kind a.pmode (text_again a.value is.0) (texts_again a.kind is.1) (texts_again a.pmode is.2)

agreement_stays : (a : Agreement) → IsSpelledAgreement a → AgreementKept a
unfolding IsSpelledAgreement
agreement_stays a is = agreement_kept a (text_is_xml a.value is.0) (texts_kept a.kind is.1) (texts_kept a.pmode is.2)

service_told : (s : Service) → IsSpelledService s → service_of (service_tree s) ≡ Some s
unfolding IsSpelledService
service_told s is = service_again s (text_again s.value is.0) (texts_again s.kind is.1)

service_stays : (s : Service) → IsSpelledService s → IsKept 1 (service_tree s)
unfolding IsSpelledService
service_stays s is = service_kept s (text_is_xml s.value is.0) (texts_kept s.kind is.1)

-- properties and part infos

property_told : (p : Property) → IsSpelledProperty p → property_of (property_tree p) ≡ Some p
unfolding IsSpelledProperty
property_told p is = property_again p (text_again p.name is.0) (texts_again p.kind is.1) (texts_again p.value is.2)

property_stays : (p : Property) → IsSpelledProperty p → IsKept 1 (property_tree p)
unfolding IsSpelledProperty
property_stays p is = property_kept p (text_is_xml p.name is.0) (texts_kept p.kind is.1) (texts_kept p.value is.2)

part_told : (p : PartInfo) → IsSpelledPart p → part_of (part_tree p) ≡ Some p
unfolding IsSpelledPart
part_told p is =
    part_again p (texts_again p.href is.0) (each_told IsSpelledProperty (λ q. property_of (property_tree q) ≡ Some q) property_told p.properties is.1)

part_stays : (p : PartInfo) → IsSpelledPart p → IsKept 3 (part_tree p)
unfolding IsSpelledPart
part_stays p is =
    part_kept p (texts_kept p.href is.0) (each_told IsSpelledProperty (λ q. IsKept 1 (property_tree q)) property_stays p.properties is.1)

-- the header

pub header_told : (h : UserHeader) → IsSpelledHeader h → user_of (user_tree h) ≡ Some h
unfolding IsSpelledStamp
header_told h is = user_again h (record {
  mpc = texts_again h.mpc is.mpc;
  info = info_again h.stamp h.id h.ref_to (stamp_again h.stamp is.stamp) (id_again h.id is.id) (ids_again h.ref_to is.ref_to);
  sides = parties_again h.from h.to (side_told (codes "From") h.from is.from) (side_told (codes "To") h.to is.to);
  business = collaboration_again h.agreement h.service h.action h.conversation
      (some_told IsSpelledAgreement AgreementAgain agreement_told h.agreement is.agreement) (service_told h.service is.service)
      (text_again h.action is.action) (texts_again h.conversation is.conversation);
  properties = each_told IsSpelledProperty (λ p. property_of (property_tree p) ≡ Some p) property_told h.properties is.properties;
  parts = each_told IsSpelledPart (λ p. part_of (part_tree p) ≡ Some p) part_told h.parts is.parts;
})

pub header_stays : (h : UserHeader) → IsSpelledHeader h → IsKept 5 (user_tree h)
unfolding IsSpelledStamp
header_stays h is = user_kept h (record {
  mpc = texts_kept h.mpc is.mpc;
  info = info_kept h.stamp h.id h.ref_to (stamp_is_xml h.stamp is.stamp) (id_is_xml h.id is.id) (ids_kept h.ref_to is.ref_to);
  sides = sides_kept h.from h.to (side_stays (codes "From") h.from refl is.from) (side_stays (codes "To") h.to refl is.to);
  business = business_kept h.agreement h.service h.action h.conversation
      (some_told IsSpelledAgreement AgreementKept agreement_stays h.agreement is.agreement) (service_stays h.service is.service)
      (text_is_xml h.action is.action) (texts_kept h.conversation is.conversation);
  properties = each_told IsSpelledProperty (λ p. IsKept 1 (property_tree p)) property_stays h.properties is.properties;
  parts = each_told IsSpelledPart (λ p. IsKept 3 (part_tree p)) part_stays h.parts is.parts;
})
