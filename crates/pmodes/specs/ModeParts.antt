-- The parts of a mode's table, each with its keys in order.
use Rattle.std.specs.Prelude.{ℕ, List, [], ◌∷◌, Bool, false, ◌&&◌, nat_le, Option, Some, None, is_some, option_map, option_and_then, unwrap_or, Result, Ok, Err, length, codes}
use Rattle.std.specs.List.{list_all}
use Rattle.toml.specs.Data.{Data, Items, Members, item, no_items, as_array, as_bool, as_table, get_member}
use Rattle.mode_values.specs.ModeFields.{SideFields}
use Rattle.mode_values.specs.ModeRanges.{may_collect}
use Rattle.as4_values.specs.declared.header.Party.{Party}
use Rattle.as4_values.specs.declared.header.Agreement.{Agreement as AgreementRef}
use Rattle.as4_values.specs.declared.header.Service.{Service as ServiceOf}
use Rattle.as4_values.specs.declared.route.Route.{Route}
use Rattle.as4_values.specs.declared.route.Route.TheVariants as route
use Rattle.pmodes.specs.Values.{keep, text_of, address_of}
use Rattle.pmodes.specs.Verdicts.{and_then, in_range, needed, optional, needed_text, optional_text}
use Rattle.pmodes.specs.declared.fault.Fault.{Fault}
use Rattle.pmodes.specs.declared.fault.Fault.TheVariants.{Missing, Range}
use Rattle.pmodes.specs.declared.refusal.Key.{Key}
use Rattle.pmodes.specs.declared.refusal.Key.TheVariants as key

-- the data of an array
abbrev pub list_of : Items → List Data
list_of no_items = []
list_of (item d ds) = d ∷ list_of ds

abbrev pub is_table : Data → Bool
is_table d = is_some (as_table d)

-- `low` to `high` tables
unfoldable pub are_tables : ℕ → ℕ → List Data → Bool
are_tables low high ds = nat_le low (length ds) && (nat_le (length ds) high && list_all is_table ds)

-- an array of them
unfoldable pub array_of_tables : ℕ → ℕ → Data → Option (List Data)
array_of_tables low high d = option_and_then (keep (are_tables low high)) (option_map list_of (as_array d))

-- `id`, `type`
unfoldable pub party_in : Members → Result Party Fault
party_in t =
    and_then (needed_text key.PartyKey (codes "id") t) (λ id.
    and_then (optional_text key.PartyKey (codes "type") t) (λ kind.
    Ok (record { id = id; kind = kind })))

-- a party of the array: it must be a table
unfoldable pub party_of : Data → Result Party Fault
party_of d = and_then (in_range key.Party (as_table d)) party_in

unfoldable pub parties_in : List Data → Result (List Party) Fault
parties_in [] = Ok []
parties_in (d ∷ ds) = and_then (party_of d) (λ party. and_then (parties_in ds) (λ parties. Ok (party ∷ parties)))

-- `role`, `party`
unfoldable pub side_fields_in : Members → Result SideFields Fault
side_fields_in t =
    and_then (needed_text key.Role (codes "role") t) (λ role.
    and_then (needed key.Party (array_of_tables 1 16) (get_member (codes "party") t)) (λ items.
    and_then (parties_in items) (λ parties.
    Ok (record { parties = parties; role = role }))))

-- a side, at its key
unfoldable pub side_in : Key → Option Data → Result SideFields Fault
side_in side found = and_then (needed side as_table found) side_fields_in

-- `service`, `service_type`
unfoldable pub service_in : Members → Result ServiceOf Fault
service_in t =
    and_then (needed_text key.Service (codes "service") t) (λ value.
    and_then (optional_text key.ServiceType (codes "service_type") t) (λ kind.
    Ok (record { value = value; kind = kind })))

-- a type without an agreement is an error, whatever its value is
abbrev pub no_agreement : Option Data → Result (Option AgreementRef) Fault
no_agreement None = Ok None
no_agreement (Some d) = Err (Range key.AgreementType)

unfoldable pub agreement_with : Members → Option (List ℕ) → Result (Option AgreementRef) Fault
agreement_with t None = no_agreement (get_member (codes "agreement_type") t)
agreement_with t (Some value) =
    and_then (optional_text key.AgreementType (codes "agreement_type") t) (λ kind.
    Ok (Some (record { value = value; kind = kind; pmode = None })))

-- `agreement`, `agreement_type`
unfoldable pub agreement_in : Members → Result (Option AgreementRef) Fault
agreement_in t = and_then (optional_text key.Agreement (codes "agreement") t) (agreement_with t)

-- either a push or a pull; `address` belongs to a pull
unfoldable pub route_with : Option Data → Option Data → Option Data → Result Route Fault
route_with None None address = Err (Missing key.Push)
route_with (Some push) (Some pull) address = Err (Range key.Pull)
route_with (Some push) None address = and_then (in_range key.Push (address_of push)) (λ to. Ok (route.Push to))
route_with None (Some pull) address =
    and_then (in_range key.Pull (text_of pull)) (λ mpc.
    and_then (needed key.Address address_of address) (λ to.
    Ok (route.Pull mpc to)))

-- `push` or `pull`, `address`
unfoldable pub route_in : Members → Result Route Fault
route_in t =
    route_with (get_member (codes "push") t) (get_member (codes "pull") t) (get_member (codes "address") t)

-- `collect`, false where it is missing; true only where the mode pulls
unfoldable pub collect_in : Route → Members → Result Bool Fault
collect_in to t =
    and_then (optional key.Collect as_bool (get_member (codes "collect") t)) (λ found.
    in_range key.Collect (keep (may_collect to) (unwrap_or found false)))
