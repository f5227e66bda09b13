-- The bytes of effects, in this handler's own format. Numbers are big endian.
--
--     body     count of effects, 2 bytes, 1 to 1,024; then the effects
--     effect   its kind, 1 byte; then its fields
--     list     count, 4 bytes; then its items
--     text     length, 4 bytes; then its bytes: texts, identifiers, codes, stamps and octets alike
--     option   0, or 1 and then the value
--     number   4 bytes for retries and tries, 8 bytes for others
use Rattle.std.specs.Prelude.{ℕ, List, ◌∷◌, ◌++◌}
unfoldable pub use Rattle.byte_forms.specs.Bytes.{number_body, text_body}
pub use Rattle.byte_forms.specs.Bytes.{option_body, list_body}
use Rattle.as4_values.specs.declared.header.Party.{Party}
use Rattle.as4_values.specs.declared.header.Side.{Side}
use Rattle.as4_values.specs.declared.header.Agreement.{Agreement}
use Rattle.as4_values.specs.declared.header.Service.{Service}
use Rattle.as4_values.specs.declared.header.Property.{Property}
use Rattle.as4_values.specs.declared.header.PartInfo.{PartInfo}
use Rattle.as4_values.specs.declared.header.UserHeader.{UserHeader}
use Rattle.as4_values.specs.declared.payload.Payload.{Payload}
use Rattle.as4_values.specs.declared.route.Route.{Route}
use Rattle.as4_values.specs.declared.route.Route.TheVariants.{Push, Pull}

unfoldable pub party_body : Party → List ℕ
party_body party = text_body party.id ++ option_body text_body party.kind

unfoldable pub side_body : Side → List ℕ
side_body side = list_body party_body side.parties ++ text_body side.role

unfoldable pub agreement_body : Agreement → List ℕ
agreement_body a = text_body a.value ++ option_body text_body a.kind ++ option_body text_body a.pmode

unfoldable pub service_body : Service → List ℕ
service_body s = text_body s.value ++ option_body text_body s.kind

unfoldable pub property_body : Property → List ℕ
property_body p = text_body p.name ++ option_body text_body p.kind ++ option_body text_body p.value

unfoldable pub part_body : PartInfo → List ℕ
part_body part = option_body text_body part.href ++ list_body property_body part.properties

unfoldable pub header_body : UserHeader → List ℕ
header_body h =
    option_body text_body h.mpc ++ text_body h.stamp ++ text_body h.id ++ option_body text_body h.ref_to
    ++ side_body h.from ++ side_body h.to ++ option_body agreement_body h.agreement ++ service_body h.service
    ++ text_body h.action ++ option_body text_body h.conversation ++ list_body property_body h.properties
    ++ list_body part_body h.parts

unfoldable pub payload_body : Payload → List ℕ
payload_body p = text_body p.cid ++ text_body p.media ++ text_body p.content

unfoldable pub route_body : Route → List ℕ
route_body (Push address) = 0 ∷ text_body address
route_body (Pull mpc address) = 1 ∷ text_body mpc ++ text_body address
