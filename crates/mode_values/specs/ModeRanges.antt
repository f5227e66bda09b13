-- The values that a processing mode may hold (P-Modes, ebMS 3.0 Core, section 4); the limits are this handler's own.
use Rattle.std.specs.Prelude.{ℕ, ◌≤◌, List, Bool, true, not, ◌&&◌, ◌||◌, ◌==◌, nat_le, Option, Some, None, is_some, length}
use Rattle.std.specs.List.{list_all}
use Rattle.as4_values.specs.Address.{is_address}
use Rattle.as4_values.specs.declared.header.Party.{Party}
use Rattle.as4_values.specs.declared.header.Agreement.{Agreement}
use Rattle.as4_values.specs.declared.header.Service.{Service}
use Rattle.as4_values.specs.declared.route.Route.{Route}
use Rattle.as4_values.specs.declared.route.Route.TheVariants.{Push, Pull}

-- a letter, a digit, `-`, `_` or `.`
abbrev pub is_name_byte : ℕ → Bool
is_name_byte b =
    (nat_le 65 b && nat_le b 90) || (nat_le 97 b && nat_le b 122) || (nat_le 48 b && nat_le b 57)
    || (b == 45) || (b == 95) || (b == 46)

-- the name of a mode: 1 to 64 of these bytes
unfoldable pub is_mode_name : List ℕ → Bool
is_mode_name name = nat_le 1 (length name) && nat_le (length name) 64 && list_all is_name_byte name

-- a text of a mode: shorter than other texts
unfoldable pub is_short : List ℕ → Bool
is_short text = nat_le (length text) 255

abbrev pub is_short_if_some : Option (List ℕ) → Bool
is_short_if_some None = true
is_short_if_some (Some text) = is_short text

unfoldable pub is_short_party : Party → Bool
is_short_party party = is_short party.id && is_short_if_some party.kind

-- the parties and the role of a side
unfoldable pub is_short_side : List Party → List ℕ → Bool
is_short_side parties role = is_short role && list_all is_short_party parties

unfoldable pub is_short_service : Service → Bool
is_short_service service = is_short service.value && is_short_if_some service.kind

-- the agreement of a mode has no `pmode`
unfoldable pub is_mode_agreement : Option Agreement → Bool
is_mode_agreement None = true
is_mode_agreement (Some agreement) =
    is_short agreement.value && is_short_if_some agreement.kind && not (is_some agreement.pmode)

unfoldable pub is_mode_route : Route → Bool
is_mode_route (Push address) = is_address address
is_mode_route (Pull mpc address) = is_short mpc && is_address address

-- only a mode that is pulled may be collected
unfoldable pub may_collect : Route → Bool → Bool
may_collect (Push address) collect = not collect
may_collect (Pull mpc address) collect = true

-- how often a message is sent again
abbrev pub IsRetries : ℕ → Type 0
IsRetries retries = retries ≤ 1000

-- the time between two tries, in milliseconds
abbrev pub IsPeriod : ℕ → Type 0
IsPeriod period = (1 ≤ period) × (period ≤ 1000000000)
