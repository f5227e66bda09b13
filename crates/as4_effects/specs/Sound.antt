-- Which fields make a submission or a delivery: relations between them, and the limit of their length.
use Rattle.std.specs.Prelude.{ℕ, ◌+◌, ◌-◌, ◌*◌, ◌^◌, List, [], ◌∷◌, ◌++◌, Bool, ◌&&◌, ◌==◌, nat_le, nat_lt, if◌then◌else◌, length, take, drop, bytes_eq}
use Rattle.std.specs.Fmt.{decimal}
use Rattle.as4_values.specs.Address.{is_address}
use Rattle.as4_values.specs.Identifiers.{submission_id}
use Rattle.as4_values.specs.declared.header.UserHeader.{UserHeader}
use Rattle.as4_values.specs.declared.payload.Payload.{Payload}
use Rattle.as4_values.specs.declared.route.Route.{Route}
use Rattle.as4_values.specs.declared.route.Route.TheVariants.{Push, Pull}
use Rattle.as4_effects.specs.Bodies.{number_body, list_body, header_body, payload_body, route_body}

-- the most bytes of an effect that an event makes, including the byte of its kind: a body with this effect alone begins
-- with a count of two bytes and has at most 536,870,912
abbrev pub effect_limit : ℕ
effect_limit = 536870910

-- the value of a lower-case hexadecimal digit
abbrev pub digit_of : ℕ → ℕ
digit_of b = if nat_le 97 b then b - 87 else b - 48

-- the number that the digits of a UUID's text write; its hyphens are skipped
unfoldable pub number_in : ℕ → List ℕ → ℕ
number_in n [] = n
number_in n (b ∷ text) = if b == 45 then number_in n text else number_in (n * 16 + digit_of b) text

-- the nonce of the UUID that follows the number and the point; the last four bytes aren't part of it
abbrev pub nonce_in : ℕ → List ℕ → ℕ
nonce_in number id = number_in 0 (take 36 (drop (length (decimal number) + 1) id))

-- the identifier is that of a submission of this number, with some nonce
unfoldable pub is_id_of : ℕ → List ℕ → Bool
is_id_of number id = nat_lt (nonce_in number id) (2 ^ 128) && bytes_eq id (submission_id number (nonce_in number id))

-- a route whose address is well-formed
unfoldable pub is_route : Route → Bool
is_route (Push address) = is_address address
is_route (Pull mpc address) = is_address address

-- the fields of a submission, in their order
abbrev pub sent_body : ℕ → UserHeader → List Payload → Route → ℕ → ℕ → ℕ → List ℕ
sent_body number header payloads route retries period moment =
    number_body 8 number ++ header_body header ++ list_body payload_body payloads ++ route_body route
    ++ number_body 4 retries ++ number_body 8 period ++ number_body 8 moment

-- a submission, a delivery and a kept header, each after the byte of its kind
abbrev pub submitted_body : ℕ → UserHeader → List Payload → Route → ℕ → ℕ → ℕ → List ℕ
submitted_body number header payloads route retries period moment =
    1 ∷ sent_body number header payloads route retries period moment

abbrev pub delivered_body : UserHeader → List Payload → List ℕ
delivered_body header payloads = 4 ∷ header_body header ++ list_body payload_body payloads

abbrev pub kept_body : UserHeader → List ℕ
kept_body header = 9 ∷ header_body header

-- the bytes are at most as many as an effect may have
unfoldable pub fits_an_effect : List ℕ → Bool
fits_an_effect body = nat_le (length body) effect_limit
