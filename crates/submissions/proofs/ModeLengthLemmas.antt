-- The most bytes that texts and the parts of a mode have in an effect.
use Rattle.std.proofs.Common.{◌≡◌, ℕ, ◌+◌, ◌*◌, ◌≤◌, List, ◌++◌, Bool, true, length, length-append, arith, ◌∙◌}
use Rattle.std.specs.Prelude.{Option, Some, None, IsTrue, IfSome, is_some, not, ◌&&◌}
use Rattle.std.specs.List.{All, list_all, flat_map}
use Rattle.std.proofs.lemmas.Bool.Decides.{nat_tests}
use Rattle.std.proofs.lemmas.List.Concat.{length-flat_map}
use Rattle.std.proofs.lemmas.List.Sums.{AllPass-from_list_all, sum_by-le}
use Rattle.as4_values.specs.Address.{is_address}
use Rattle.mode_values.specs.ModeRanges.{is_short, is_short_if_some, is_short_party, is_short_side, is_short_service, is_mode_agreement, is_mode_route}
use Rattle.as4_values.specs.declared.header.Party.{Party}
use Rattle.as4_values.specs.declared.header.Side.{Side}
use Rattle.as4_values.specs.declared.header.Agreement.{Agreement}
use Rattle.as4_values.specs.declared.header.Service.{Service}
use Rattle.as4_values.specs.declared.route.Route.{Route}
use Rattle.as4_values.specs.declared.route.Route.TheVariants.{Push, Pull}
use Rattle.as4_effects.proofs.LengthLemmas.{number_length}
use Rattle.as4_effects.specs.Bodies.{number_body, text_body, option_body, list_body, party_body, side_body, agreement_body, service_body, route_body}
use Rattle.exchange_model.specs.Submitting.{channel_of}

pub text_length : (bytes : List ℕ) → length (text_body bytes) ≡ length bytes + 4
unfolding text_body
text_length bytes = length-append (number_body 4 (length bytes)) bytes ∙ omega (arith, number_length 4 (length bytes))

pub text_within : (bytes : List ℕ) (most : ℕ) → length bytes ≤ most → length (text_body bytes) ≤ most + 4
text_within bytes most within = omega (arith, text_length bytes)

pub option_within : (text : Option (List ℕ)) (most : ℕ) → IfSome text (λ bytes. length bytes ≤ most) → length (option_body text_body text) ≤ most + 5
option_within None most within = omega arith
option_within (Some bytes) most within = omega (arith, text_length bytes)

short_is : (text : List ℕ) → IsTrue (is_short text) → length text ≤ 255
unfolding is_short
short_is text short = grind (arith, nat_tests)

pub short_text : (text : List ℕ) → IsTrue (is_short text) → length (text_body text) ≤ 259
short_text text short = text_within text 255 (short_is text short)

short_option : (text : Option (List ℕ)) → IsTrue (is_short_if_some text) → length (option_body text_body text) ≤ 260
short_option None short = omega arith
short_option (Some bytes) short = omega (arith, text_length bytes, short_is bytes short)

and_first : (a b : Bool) → IsTrue (a && b) → IsTrue a
and_first a b both = grind arith

and_second : (a b : Bool) → IsTrue (a && b) → IsTrue b
and_second a b both = grind arith

party_length : (p : Party) → IsTrue (is_short_party p) → length (party_body p) ≤ 519
unfolding is_short_party party_body
party_length p short =
    rw (length-append (text_body p.id) (option_body text_body p.kind))
    (omega (
      arith,
      short_text p.id (and_first (is_short p.id) (is_short_if_some p.kind) short),
      short_option p.kind (and_second (is_short p.id) (is_short_if_some p.kind) short),
    ))

-- items that each have a limit
pub list_within : {X : Type 0} (body : X → List ℕ) (xs : List X) (count most : ℕ) → length xs ≤ count → All (λ x. length (body x) ≤ most) xs
    → length (list_body body xs) ≤ length xs * most + 4
list_within body xs count most few each =
    rw (length-append (number_body 4 (length xs)) (flat_map body xs), number_length 4 (length xs), length-flat_map body xs)
    (omega (arith, sum_by-le (λ x. length (body x)) most xs each))

pub side_length : (s : Side) → IsTrue (is_short_side s.parties s.role) → length (side_body s) ≤ 8567
unfolding is_short_side side_body
side_length s short =
    let each : list_all is_short_party s.parties ≡ true = and_second (is_short s.role) (list_all is_short_party s.parties) short in
    let parties : length (list_body party_body s.parties) ≤ length s.parties * 519 + 4 =
    list_within party_body s.parties 16 519 (s.counted.1) (λ k d within. party_length _ (AllPass-from_list_all is_short_party s.parties each k d within)) in
    let few : length s.parties ≤ 16 = s.counted.1 in
    rw (length-append (list_body party_body s.parties) (text_body s.role))
    (omega (arith, short_text s.role (and_first (is_short s.role) (list_all is_short_party s.parties) short)))

pub service_length : (s : Service) → IsTrue (is_short_service s) → length (service_body s) ≤ 519
unfolding is_short_service service_body
service_length s short =
    rw (length-append (text_body s.value) (option_body text_body s.kind))
    (omega (
      arith,
      short_text s.value (and_first (is_short s.value) (is_short_if_some s.kind) short),
      short_option s.kind (and_second (is_short s.value) (is_short_if_some s.kind) short),
    ))

no_value : (o : Option (List ℕ)) → IsTrue (not (is_some o)) → length (option_body text_body o) ≤ 1
no_value None none = omega arith
no_value (Some text) none = absurd cc

pub agreement_length : (a : Option Agreement) → IsTrue (is_mode_agreement a) → length (option_body agreement_body a) ≤ 521
unfolding is_mode_agreement agreement_body
agreement_length None short = omega arith
agreement_length (Some a) short =
    let front = and_first (is_short a.value && is_short_if_some a.kind) (not (is_some a.pmode)) short in
    simp length-append
    (omega (
      arith,
      short_text a.value (and_first (is_short a.value) (is_short_if_some a.kind) front),
      short_option a.kind (and_second (is_short a.value) (is_short_if_some a.kind) front),
      no_value a.pmode (and_second (is_short a.value && is_short_if_some a.kind) (not (is_some a.pmode)) short),
    ))

pub mpc_length : (r : Route) → IsTrue (is_mode_route r) → length (option_body text_body (channel_of r)) ≤ 260
unfolding is_mode_route
mpc_length (Push address) short = omega arith
mpc_length (Pull mpc address) short = omega (arith, short_text mpc (and_first (is_short mpc) (is_address address) short))

address_is : (address : List ℕ) → IsTrue (is_address address) → length address ≤ 255
unfolding is_address
address_is address is = grind (arith, nat_tests)

pub route_length : (r : Route) → IsTrue (is_mode_route r) → length (route_body r) ≤ 519
unfolding is_mode_route route_body
route_length (Push address) short = omega (arith, text_length address, address_is address short)
route_length (Pull mpc address) short =
    let sum : length (text_body mpc ++ text_body address) ≡ length (text_body mpc) + length (text_body address) = length-append (text_body mpc) (text_body address) in
    omega (
      arith,
      short_text mpc (and_first (is_short mpc) (is_address address) short),
      text_length address,
      address_is address (and_second (is_short mpc) (is_address address) short),
    )
