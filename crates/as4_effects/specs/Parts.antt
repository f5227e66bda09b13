-- Values as pairs of their parts, in the order of their bytes.
use Rattle.std.specs.Prelude.{ℕ, List, Option}
use Rattle.as4_values.specs.declared.header.Party.{Party}
use Rattle.as4_values.specs.declared.header.Side.{Side}
use Rattle.as4_values.specs.declared.header.Agreement.{Agreement}
use Rattle.as4_values.specs.declared.header.Service.{Service}
use Rattle.as4_values.specs.declared.header.Property.{Property}
use Rattle.as4_values.specs.declared.header.PartInfo.{PartInfo}
use Rattle.as4_values.specs.declared.header.UserHeader.{UserHeader}
use Rattle.as4_values.specs.declared.payload.Payload.{Payload}
use Rattle.as4_values.specs.declared.route.Route.{Route}
use Rattle.as4_effects.specs.declared.carried.Carried.{Carried}
use Rattle.as4_effects.specs.declared.delivery.Delivery.{Delivery}
use Rattle.as4_effects.specs.declared.effect.Tick.{Tick}
use Rattle.as4_effects.specs.declared.mark.Mark.{Mark}
use Rattle.as4_effects.specs.declared.submission.Submission.{Submission}

abbrev pub party_parts : Party → List ℕ × Option (List ℕ)
party_parts p = (p.id, p.kind)

abbrev pub service_parts : Service → List ℕ × Option (List ℕ)
service_parts s = (s.value, s.kind)

abbrev pub agreement_parts : Agreement → (List ℕ × Option (List ℕ)) × Option (List ℕ)
agreement_parts a = ((a.value, a.kind), a.pmode)

abbrev pub property_parts : Property → (List ℕ × Option (List ℕ)) × Option (List ℕ)
property_parts p = ((p.name, p.kind), p.value)

abbrev pub side_parts : Side → List Party × List ℕ
side_parts s = (s.parties, s.role)

abbrev pub part_parts : PartInfo → Option (List ℕ) × List Property
part_parts p = (p.href, p.properties)

abbrev pub Header : Type 0
Header =
    ((Option (List ℕ) × List ℕ) × (List ℕ × Option (List ℕ)))
    × (((Side × Side) × (Option Agreement × Service)) × ((List ℕ × Option (List ℕ)) × (List Property × List PartInfo)))

abbrev pub header_parts : UserHeader → Header
header_parts h = (((h.mpc, h.stamp), (h.id, h.ref_to)), (((h.from, h.to), (h.agreement, h.service)), ((h.action, h.conversation), (h.properties, h.parts))))

abbrev pub payload_parts : Payload → (List ℕ × List ℕ) × List ℕ
payload_parts p = ((p.cid, p.media), p.content)

abbrev pub Sent : Type 0
Sent = ((ℕ × UserHeader) × (List Payload × Route)) × (ℕ × (ℕ × ℕ))

abbrev pub submission_parts : Submission → Sent
submission_parts s = (((s.number, s.header), (s.payloads, s.route)), (s.retries, (s.period, s.moment)))

abbrev pub delivery_parts : Delivery → UserHeader × List Payload
delivery_parts d = (d.header, d.payloads)

abbrev pub carried_parts : Carried → Submission × (ℕ × (Tick × Mark))
carried_parts c = (c.submission, (c.tries, (record { moment = c.last; dated = c.dated }, c.standing)))
