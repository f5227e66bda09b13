-- Its parts determine a value.
use Rattle.std.proofs.Common.{◌≡◌, ℕ, ◌≤◌, List, refl, ap}
use Rattle.std.specs.Prelude.{Option, IsTrue}
use Rattle.std.proofs.Props.{props}
use Rattle.byte_forms.proofs.OnceLemmas.{told_by}
use Rattle.as4_values.specs.Counts.{IsPartyCount, IsPropertyCount, IsPartCount}
use Rattle.as4_values.specs.Payload.{IsContentId, is_media_text}
use Rattle.as4_values.specs.declared.header.Party.{Party}
use Rattle.as4_values.specs.declared.header.Side.{Side}
use Rattle.as4_values.specs.declared.header.Agreement.{Agreement}
use Rattle.as4_values.specs.declared.header.Service.{Service}
use Rattle.as4_values.specs.declared.header.Property.{Property}
use Rattle.as4_values.specs.declared.header.PartInfo.{PartInfo}
use Rattle.as4_values.specs.declared.header.UserHeader.{UserHeader}
use Rattle.as4_values.specs.declared.payload.Payload.{Payload}
use Rattle.as4_values.specs.declared.moment.TheConstants.{MAX_MOMENT}
use Rattle.as4_effects.specs.Parts.{party_parts, service_parts, agreement_parts, property_parts, side_parts, part_parts, Header, header_parts, payload_parts, Sent, submission_parts, delivery_parts, carried_parts}
use Rattle.as4_effects.specs.Sound.{kept_body, fits_an_effect}
use Rattle.as4_effects.specs.Whole.{IsSubmission, IsDelivery}
use Rattle.as4_effects.specs.declared.carried.Carried.{Carried}
use Rattle.as4_effects.specs.declared.delivery.Delivery.{Delivery}
use Rattle.as4_effects.specs.declared.effect.Tick.{Tick}
use Rattle.as4_effects.specs.declared.kept.Kept.{Kept}
use Rattle.as4_effects.specs.declared.mark.Mark.{Mark}
use Rattle.as4_effects.specs.declared.submission.Submission.{Submission}

pub party_told : (a b : Party) → party_parts a ≡ party_parts b → a ≡ b
party_told a b e =
    let of : List ℕ × Option (List ℕ) → Party = λ t. record { id = t.0; kind = t.1 } in ap of e

pub service_told : (a b : Service) → service_parts a ≡ service_parts b → a ≡ b
service_told a b e =
    let of : List ℕ × Option (List ℕ) → Service = λ t. record { value = t.0; kind = t.1 } in ap of e

pub agreement_told : (a b : Agreement) → agreement_parts a ≡ agreement_parts b → a ≡ b
agreement_told a b e =
    let of : (List ℕ × Option (List ℕ)) × Option (List ℕ) → Agreement = λ t. record { value = t.0.0; kind = t.0.1; pmode = t.1 } in ap of e

pub property_told : (a b : Property) → property_parts a ≡ property_parts b → a ≡ b
property_told a b e =
    let of : (List ℕ × Option (List ℕ)) × Option (List ℕ) → Property = λ t. record { name = t.0.0; kind = t.0.1; value = t.1 } in ap of e

pub side_told : (a b : Side) → side_parts a ≡ side_parts b → a ≡ b
side_told =
    told_by side_parts (λ t. IsPartyCount t.0) (λ t is. record { parties = t.0; role = t.1; counted = is })
    (λ t. hlevel props) (λ s. s.counted) (λ s. refl)

pub part_told : (a b : PartInfo) → part_parts a ≡ part_parts b → a ≡ b
part_told =
    told_by part_parts (λ t. IsPropertyCount t.1) (λ t is. record { href = t.0; properties = t.1; counted = is })
    (λ t. hlevel props) (λ p. p.counted) (λ p. refl)

abbrev pub IsHeader : Header → Type 0
IsHeader t = IsPropertyCount t.1.1.1.0 × IsPartCount t.1.1.1.1

header_of : (t : Header) → IsHeader t → UserHeader
header_of t is = record {
  mpc = t.0.0.0;
  stamp = t.0.0.1;
  id = t.0.1.0;
  ref_to = t.0.1.1;
  from = t.1.0.0.0;
  to = t.1.0.0.1;
  agreement = t.1.0.1.0;
  service = t.1.0.1.1;
  action = t.1.1.0.0;
  conversation = t.1.1.0.1;
  properties = t.1.1.1.0;
  parts = t.1.1.1.1;
  properties_counted = is.0;
  parts_counted = is.1;
}

pub header_told : (a b : UserHeader) → header_parts a ≡ header_parts b → a ≡ b
unfolding header_of
header_told = told_by header_parts IsHeader header_of (λ t. hlevel props) (λ h. (h.properties_counted, h.parts_counted)) (λ h. refl)

pub payload_told : (a b : Payload) → payload_parts a ≡ payload_parts b → a ≡ b
payload_told =
    told_by payload_parts (λ t. IsContentId t.0.0 × IsTrue (is_media_text t.0.1))
    (λ t is. record { cid = t.0.0; media = t.0.1; content = t.1; named = is.0; typed = is.1 })
    (λ t. hlevel props) (λ p. (p.named, p.typed)) (λ p. refl)

-- the fields are those of a submission
abbrev pub IsSent : Sent → Type 0
IsSent t = IsSubmission t.0.0.0 t.0.0.1 t.0.1.0 t.0.1.1 t.1.0 t.1.1.0 t.1.1.1

submission_of : (t : Sent) → IsSent t → Submission
submission_of t is = record {
  number = t.0.0.0;
  header = t.0.0.1;
  payloads = t.0.1.0;
  route = t.0.1.1;
  retries = t.1.0;
  period = t.1.1.0;
  moment = t.1.1.1;
  numbered = is.numbers.0;
  identified = is.matched.identified;
  paired = is.matched.paired;
  routed = is.matched.routed;
  limited = is.numbers.1;
  timed = is.numbers.2;
  dated = is.numbers.3;
  fits = is.fits;
}

pub whole_submission : (s : Submission) → IsSent (submission_parts s)
whole_submission s = record {
  numbers = (s.numbered, s.limited, s.timed, s.dated);
  matched = record { identified = s.identified; paired = s.paired; routed = s.routed };
  fits = s.fits;
}

pub submission_told : (a b : Submission) → submission_parts a ≡ submission_parts b → a ≡ b
unfolding submission_of whole_submission
submission_told = told_by submission_parts IsSent submission_of (λ t. hlevel props) whole_submission (λ s. refl)

pub whole_delivery : (d : Delivery) → IsDelivery d.header d.payloads
whole_delivery d = record { paired = d.paired; fits = d.fits }

pub delivery_told : (a b : Delivery) → delivery_parts a ≡ delivery_parts b → a ≡ b
unfolding whole_delivery
delivery_told =
    told_by delivery_parts (λ t. IsDelivery t.0 t.1) (λ t is. record { header = t.0; payloads = t.1; paired = is.paired; fits = is.fits })
    (λ t. hlevel props) whole_delivery (λ d. refl)

pub tick_told : (a b : Tick) → a.moment ≡ b.moment → a ≡ b
tick_told = told_by (λ t. t.moment) (λ m. m ≤ MAX_MOMENT) (λ m is. record { moment = m; dated = is }) (λ m. hlevel props) (λ t. t.dated) (λ t. refl)

pub carried_told : (a b : Carried) → carried_parts a ≡ carried_parts b → a ≡ b
carried_told a b e =
    let of : Submission × (ℕ × (Tick × Mark)) → Carried =
    λ t. record { submission = t.0; tries = t.1.0; last = t.1.1.0.moment; standing = t.1.1.1; dated = t.1.1.0.dated } in
    ap of e

pub carried_same : (a b : Carried) → a.submission ≡ b.submission → a.tries ≡ b.tries → a.last ≡ b.last → a.standing ≡ b.standing → a ≡ b
carried_same a b submission tries last standing =
    told_by {X = (Submission × ℕ) × (ℕ × Mark)} (λ c. ((c.submission, c.tries), (c.last, c.standing))) (λ t. t.1.0 ≤ MAX_MOMENT)
    (λ t is. record { submission = t.0.0; tries = t.0.1; last = t.1.0; standing = t.1.1; dated = is })
    (λ t. hlevel props) (λ c. c.dated) (λ c. refl) a b cc

pub kept_told : (a b : Kept) → a.header ≡ b.header → a ≡ b
kept_told = told_by (λ k. k.header) (λ h. IsTrue (fits_an_effect (kept_body h))) (λ h is. record { header = h; fits = is }) (λ h. hlevel props) (λ k. k.fits) (λ k. refl)
