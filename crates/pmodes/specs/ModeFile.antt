-- Modes files, a format of this handler's own: TOML with an array of tables `mode`.
use Rattle.std.specs.Prelude.{ℕ, ◌+◌, List, [], ◌∷◌, if◌then◌else◌, Option, Some, None, Result, Ok, Err, codes}
use Rattle.std.specs.Str.{is_utf8}
use Rattle.toml.specs.Data.{Data, Members, as_table, get_member}
use Rattle.toml.specs.Parse.{parse_document}
use Rattle.mode_values.specs.ModeFields.{SideFields, ModeFields, side_fields}
use Rattle.pmodes.specs.ModeList.{list_refusal}
use Rattle.pmodes.specs.ModeParts.{array_of_tables, side_in, service_in, agreement_in, route_in, collect_in}
use Rattle.pmodes.specs.Values.{name_of, number_of}
use Rattle.pmodes.specs.Verdicts.{and_then, in_range, needed, needed_text}
use Rattle.pmodes.specs.declared.fault.Fault.{Fault}
use Rattle.pmodes.specs.declared.fault.Fault.TheVariants as fault
use Rattle.pmodes.specs.declared.parts.Partners.{Partners}
use Rattle.pmodes.specs.declared.parts.Business.{Business}
use Rattle.pmodes.specs.declared.parts.Sending.{Sending}
use Rattle.pmodes.specs.declared.refusal.Key.TheVariants as key
use Rattle.pmodes.specs.declared.refusal.ModeRefusal.{ModeRefusal}
use Rattle.pmodes.specs.declared.refusal.ModeRefusal.TheVariants as refusal

-- a name and two sides, without the facts that their types keep
pub record PartnerFields : Type 0 where
  pub name : List ℕ
  pub from : SideFields
  pub to : SideFields

abbrev pub partner_fields : Partners → PartnerFields
partner_fields partners = record { name = partners.name; from = side_fields partners.from; to = side_fields partners.to }

-- `name`, `from`, `to`
unfoldable pub partners_in : Members → Result PartnerFields Fault
partners_in t =
    and_then (needed key.Name name_of (get_member (codes "name") t)) (λ name.
    and_then (side_in key.From (get_member (codes "from") t)) (λ from.
    and_then (side_in key.To (get_member (codes "to") t)) (λ to.
    Ok (record { name = name; from = from; to = to }))))

-- `service`, `action`, `agreement`
unfoldable pub business_in : Members → Result Business Fault
business_in t =
    and_then (service_in t) (λ service.
    and_then (needed_text key.Action (codes "action") t) (λ action.
    and_then (agreement_in t) (λ agreement.
    Ok (record { service = service; action = action; agreement = agreement }))))

-- `push` or `pull`, `retries`, `period`, `collect`
unfoldable pub sending_in : Members → Result Sending Fault
sending_in t =
    and_then (route_in t) (λ route.
    and_then (needed key.Retries (number_of 0 1000) (get_member (codes "retries") t)) (λ retries.
    and_then (needed key.Period (number_of 1 1000000000) (get_member (codes "period") t)) (λ period.
    and_then (collect_in route t) (λ collect.
    Ok (record { route = route; retries = retries; period = period; collect = collect })))))

-- the mode of a table: all keys in order
unfoldable pub mode_in : Members → Result ModeFields Fault
mode_in t =
    and_then (partners_in t) (λ partners.
    and_then (business_in t) (λ business.
    and_then (sending_in t) (λ sending.
    Ok (record {
      name = partners.name;
      from = partners.from;
      to = partners.to;
      service = business.service;
      action = business.action;
      agreement = business.agreement;
      route = sending.route;
      retries = sending.retries;
      period = sending.period;
      collect = sending.collect;
    }))))

-- a fault of the mode at a place
abbrev pub at_place : ℕ → Fault → ModeRefusal
at_place place (fault.Missing k) = refusal.Missing place k
at_place place (fault.Range k) = refusal.Range place k
at_place place fault.NoMemory = refusal.NoMemory

abbrev pub placed : {A : Type 0} → ℕ → Result A Fault → Result A ModeRefusal
placed place (Ok a) = Ok a
placed place (Err e) = Err (at_place place e)

-- a mode of the array: it must be a table
unfoldable pub mode_of_item : Data → Result ModeFields Fault
mode_of_item d = and_then (in_range key.Mode (as_table d)) mode_in

-- the modes of some tables; the first table is at this place
unfoldable pub modes_from : ℕ → List Data → Result (List ModeFields) ModeRefusal
modes_from place [] = Ok []
modes_from place (d ∷ ds) =
    and_then (placed place (mode_of_item d)) (λ mode. and_then (modes_from (place + 1) ds) (λ modes. Ok (mode ∷ modes)))

-- the modes of an array of at most 1,024 tables
abbrev pub modes_of_items : Option (List Data) → Result (List ModeFields) ModeRefusal
modes_of_items None = Err (refusal.Range 0 key.Mode)
modes_of_items (Some items) = modes_from 0 items

-- none where the key is missing
abbrev pub modes_at : Option Data → Result (List ModeFields) ModeRefusal
modes_at None = Ok []
modes_at (Some d) = modes_of_items (array_of_tables 0 1024 d)

-- the array `mode`
unfoldable pub listed_in : Members → Result (List ModeFields) ModeRefusal
listed_in t = modes_at (get_member (codes "mode") t)

-- the modes, unless they are refused as a list
abbrev pub unless_refused : List ModeFields → Option ModeRefusal → Result (List ModeFields) ModeRefusal
unless_refused modes None = Ok modes
unless_refused modes (Some e) = Err e

-- the modes of a document
unfoldable pub modes_of_table : Members → Result (List ModeFields) ModeRefusal
modes_of_table t = and_then (listed_in t) (λ modes. unless_refused modes (list_refusal modes))

abbrev pub modes_of_document : Option Members → Result (List ModeFields) ModeRefusal
modes_of_document None = Err refusal.Toml
modes_of_document (Some t) = modes_of_table t

-- the modes of a file, or why it is refused
unfoldable pub modes_of_file : List ℕ → Result (List ModeFields) ModeRefusal
modes_of_file bytes = modes_of_document (if is_utf8 bytes then parse_document bytes else None)
