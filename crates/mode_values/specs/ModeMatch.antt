-- Which mode a user message belongs to (P-Modes, ebMS 3.0 Core, section 4 and appendix D.3).
use Rattle.std.specs.Prelude.{◌≡◌, ℕ, List, Bool, true, false, ◌&&◌, Option, Some, None}
use Rattle.std.specs.Cmp.Lexicographic.{pointwise}
use Rattle.std.specs.List.{find}
use Rattle.std.specs.Str.{bytes_eq}
use Rattle.mode_values.specs.ModeFields.{SideFields, ModeFields, side_fields, mode_fields}
use Rattle.as4_values.specs.declared.header.Party.{Party}
use Rattle.as4_values.specs.declared.header.Agreement.{Agreement}
use Rattle.as4_values.specs.declared.header.Service.{Service}
use Rattle.as4_values.specs.declared.header.UserHeader.{UserHeader}
use Rattle.mode_values.specs.declared.mode.Mode.{Mode}
use Rattle.as4_values.specs.declared.route.Route.{Route}
use Rattle.as4_values.specs.declared.route.Route.TheVariants.{Push, Pull}

-- the fields of an agreement that are matched
pub record Agreed : Type 0 where
  pub value : List ℕ
  pub kind : Option (List ℕ)

-- the fields by which a mode and a header are matched
pub record Terms : Type 0 where
  pub from : SideFields
  pub to : SideFields
  pub service : Service
  pub action : List ℕ
  pub agreement : Option Agreed

abbrev pub agreed_of : Option Agreement → Option Agreed
agreed_of None = None
agreed_of (Some agreement) = Some (record { value = agreement.value; kind = agreement.kind })

abbrev pub terms_of : ModeFields → Terms
terms_of mode = record {
  from = mode.from;
  to = mode.to;
  service = mode.service;
  action = mode.action;
  agreement = agreed_of mode.agreement;
}

abbrev pub mode_terms : Mode → Terms
mode_terms mode = terms_of (mode_fields mode)

abbrev pub header_terms : UserHeader → Terms
header_terms header = record {
  from = side_fields header.from;
  to = side_fields header.to;
  service = header.service;
  action = header.action;
  agreement = agreed_of header.agreement;
}

-- the message belongs to the mode
abbrev pub Matches : Mode → UserHeader → Type 0
Matches mode header = mode_terms mode ≡ header_terms header

-- equality, as a Boolean test
abbrev pub is_same_kind : Option (List ℕ) → Option (List ℕ) → Bool
is_same_kind None None = true
is_same_kind (Some a) (Some b) = bytes_eq a b
is_same_kind a b = false

abbrev pub is_same_party : Party → Party → Bool
is_same_party a b = bytes_eq a.id b.id && is_same_kind a.kind b.kind

unfoldable pub are_same_parties : List Party → List Party → Bool
are_same_parties a b = pointwise is_same_party a b

unfoldable pub is_same_side : SideFields → SideFields → Bool
is_same_side a b = are_same_parties a.parties b.parties && bytes_eq a.role b.role

unfoldable pub is_same_service : Service → Service → Bool
is_same_service a b = bytes_eq a.value b.value && is_same_kind a.kind b.kind

unfoldable pub is_same_agreed : Option Agreed → Option Agreed → Bool
is_same_agreed None None = true
is_same_agreed (Some a) (Some b) = bytes_eq a.value b.value && is_same_kind a.kind b.kind
is_same_agreed a b = false

unfoldable pub are_same_terms : Terms → Terms → Bool
are_same_terms a b =
    bytes_eq a.action b.action && (is_same_service a.service b.service && (is_same_side a.from b.from
    && (is_same_side a.to b.to && is_same_agreed a.agreement b.agreement)))

-- the first mode of the list that a message belongs to
unfoldable pub mode_of : List Mode → UserHeader → Option Mode
mode_of modes header = find (λ mode. are_same_terms (mode_terms mode) (header_terms header)) modes

-- the first mode of the list with this name
unfoldable pub mode_named : List Mode → List ℕ → Option Mode
mode_named modes name = find (λ mode. bytes_eq mode.name name) modes

-- whether a route pulls from this channel
abbrev pub is_pulled_from : List ℕ → Route → Bool
is_pulled_from mpc (Push address) = false
is_pulled_from mpc (Pull channel address) = bytes_eq channel mpc

-- the first mode of the list that pulls from this channel
unfoldable pub channel_mode : List Mode → List ℕ → Option Mode
channel_mode modes mpc = find (λ mode. is_pulled_from mpc mode.route) modes
