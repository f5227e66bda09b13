-- The most bytes of what a header takes from a mode.
use Rattle.std.proofs.Common.{◌≡◌, ℕ, ◌+◌, ◌*◌, ◌≤◌, List, [], ◌++◌, Bool, true, length, get_or, length-append, arith, refl}
use Rattle.std.specs.Prelude.{Option, Some, None, IsTrue, is_some, not, ◌&&◌, codes}
use Rattle.std.specs.List.{list_all, flat_map}
use Rattle.std.proofs.lemmas.Bool.Decides.{nat_tests}
use Rattle.std.proofs.lemmas.List.Sums.{AllPass-from_list_all}
use Rattle.as4_envelope.specs.Markup.{escaped, text_element, optional_attribute}
use Rattle.as4_values.specs.declared.header.Party.{Party}
use Rattle.as4_values.specs.declared.header.Side.{Side}
use Rattle.as4_values.specs.declared.header.Agreement.{Agreement}
use Rattle.as4_values.specs.declared.header.Service.{Service}
use Rattle.as4_values.specs.declared.route.Route.{Route}
use Rattle.as4_values.specs.declared.route.Route.TheVariants.{Push, Pull}
use Rattle.exchange_model.specs.Submitting.{channel_of}
use Rattle.message_model.specs.UnitText.{party_text, side_text, party_info, agreement_text, service_text}
use Rattle.mode_values.specs.ModeRanges.{is_short, is_short_if_some, is_short_party, is_short_side, is_short_service, is_mode_agreement, is_mode_route}
use Rattle.as4_values.specs.Address.{is_address}
use Rattle.submitted_laws.proofs.MarkupLengths.{IsWithin, length-element, escaped_within, text_element_within, optional_attribute_within, items_within}

pub short_text : (text : List ℕ) → IsTrue (is_short text) → length text ≤ 255
unfolding is_short
short_text text short = grind (arith, nat_tests)

short_option : (text : Option (List ℕ)) → IsTrue (is_short_if_some text) → IsWithin 255 text
short_option None short = tt
short_option (Some text) short = short_text text short

and_first : (a b : Bool) → IsTrue (a && b) → IsTrue a
and_first a b both = grind arith

and_second : (a b : Bool) → IsTrue (a && b) → IsTrue b
and_second a b both = grind arith

-- an identifier and a type: 255 bytes each
party_within : (p : Party) → IsTrue (is_short_party p) → length (party_text p) ≤ 3093
unfolding is_short_party party_text
party_within p short =
    let id : length p.id ≤ 255 = short_text p.id (and_first (is_short p.id) (is_short_if_some p.kind) short) in
    let kind : IsWithin 255 p.kind = short_option p.kind (and_second (is_short p.id) (is_short_if_some p.kind) short) in
    omega (
      arith,
      length-element (codes "eb:PartyId") (optional_attribute (codes "type") p.kind) (escaped p.id),
      optional_attribute_within (codes "type") p.kind 255 kind,
      escaped_within p.id,
    )

-- 16 parties and a role
side_within : (name : List ℕ) (s : Side) → IsTrue (is_short_side s.parties s.role) → length (side_text name s) ≤ 2 * length name + 51042
unfolding is_short_side side_text
side_within name s short =
    let role : length s.role ≤ 255 = short_text s.role (and_first (is_short s.role) (list_all is_short_party s.parties) short) in
    let each : list_all is_short_party s.parties ≡ true = and_second (is_short s.role) (list_all is_short_party s.parties) short in
    let few : length s.parties ≤ 16 = s.counted.1 in
    let parties : length (flat_map party_text s.parties) ≤ length s.parties * 3093 =
    items_within party_text s.parties 3093 (λ k d within. party_within (get_or s.parties k d) (AllPass-from_list_all is_short_party s.parties each k d within)) in
    omega (
      arith,
      length-element name [] (flat_map party_text s.parties ++ text_element (codes "eb:Role") s.role),
      length-append (flat_map party_text s.parties) (text_element (codes "eb:Role") s.role),
      text_element_within (codes "eb:Role") s.role,
    )

pub parties_within : (from to : Side) → IsTrue (is_short_side from.parties from.role) → IsTrue (is_short_side to.parties to.role)
    → length (party_info from to) ≤ 102137
unfolding party_info
parties_within from to from_short to_short =
    omega (
      arith,
      length-element (codes "eb:PartyInfo") [] (side_text (codes "eb:From") from ++ side_text (codes "eb:To") to),
      length-append (side_text (codes "eb:From") from) (side_text (codes "eb:To") to),
      side_within (codes "eb:From") from from_short,
      side_within (codes "eb:To") to to_short,
    )

pub service_within : (s : Service) → IsTrue (is_short_service s) → length (service_text s) ≤ 3093
unfolding is_short_service service_text
service_within s short =
    let value : length s.value ≤ 255 = short_text s.value (and_first (is_short s.value) (is_short_if_some s.kind) short) in
    let kind : IsWithin 255 s.kind = short_option s.kind (and_second (is_short s.value) (is_short_if_some s.kind) short) in
    omega (
      arith,
      length-element (codes "eb:Service") (optional_attribute (codes "type") s.kind) (escaped s.value),
      optional_attribute_within (codes "type") s.kind 255 kind,
      escaped_within s.value,
    )

-- a mode's agreement has no `pmode`
no_value : (name : List ℕ) (value : Option (List ℕ)) → IsTrue (not (is_some value)) → length (optional_attribute name value) ≡ 0
unfolding optional_attribute
no_value name None none = refl
no_value name (Some value) none = absurd cc

pub agreement_within : (a : Option Agreement) → IsTrue (is_mode_agreement a) → length (agreement_text a) ≤ 3103
unfolding is_mode_agreement agreement_text
agreement_within None short = omega arith
agreement_within (Some a) short =
    let front = and_first (is_short a.value && is_short_if_some a.kind) (not (is_some a.pmode)) short in
    let none = and_second (is_short a.value && is_short_if_some a.kind) (not (is_some a.pmode)) short in
    let value : length a.value ≤ 255 = short_text a.value (and_first (is_short a.value) (is_short_if_some a.kind) front) in
    let kind : IsWithin 255 a.kind = short_option a.kind (and_second (is_short a.value) (is_short_if_some a.kind) front) in
    omega (
      arith,
      length-element (codes "eb:AgreementRef") (optional_attribute (codes "type") a.kind ++ optional_attribute (codes "pmode") a.pmode) (escaped a.value),
      length-append (optional_attribute (codes "type") a.kind) (optional_attribute (codes "pmode") a.pmode),
      optional_attribute_within (codes "type") a.kind 255 kind,
      no_value (codes "pmode") a.pmode none,
      escaped_within a.value,
    )

-- the channel of a pull
pub channel_within : (r : Route) → IsTrue (is_mode_route r) → IsWithin 255 (channel_of r)
unfolding is_mode_route
channel_within (Push address) routed = tt
channel_within (Pull mpc address) routed = short_text mpc (and_first (is_short mpc) (is_address address) routed)
