use Rattle.std.proofs.Common.{◌≡◌, ℕ, List, [], ◌∷◌, None, false, true, refl, arith}
use Rattle.std.specs.Prelude.{codes}
use Rattle.as4_values.specs.Address.{is_address, has_address_form, is_behind_scheme, is_behind_host}
use Rattle.as4_values.specs.declared.header.Side.{Side}
use Rattle.as4_values.specs.declared.route.Route.TheVariants as route
use Rattle.mode_values.specs.ModeRanges.{is_mode_agreement, is_mode_name, is_mode_route, is_short, is_short_party, is_short_service, is_short_side, may_collect}
use Rattle.mode_values.specs.declared.mode.Mode.{Mode}
use Rattle.hub_laws.proofs.SomeChain.{comes_through}
use Rattle.hub_laws.proofs.laws.some_chain_delivers.Goals as goal

text : List ℕ
text = 97 ∷ []

side : Side
side = record { parties = record { id = text; kind = None } ∷ []; role = text; counted = (omega arith, omega arith) }

address : List ℕ
address = codes "http://a"

is_url : is_address address ≡ true
unfolding is_address has_address_form is_behind_scheme is_behind_host address
is_url = refl

mode : Mode
unfolding is_mode_name is_short_side is_short_party is_short is_short_service is_mode_agreement is_mode_route may_collect text side
mode = record {
  name = text;
  from = side;
  to = side;
  service = record { value = text; kind = None };
  action = text;
  agreement = None;
  route = route.Push address;
  retries = 0;
  period = 1;
  collect = false;
  named = refl;
  from_short = refl;
  to_short = refl;
  service_short = refl;
  action_short = refl;
  agreed = refl;
  routed = is_url;
  limited = omega arith;
  timed = (omega arith, omega arith);
  collects = refl;
}

pushes : mode.route ≡ route.Push address
unfolding mode
pushes = refl

pub returns : goal.returns
returns c = comes_through mode address pushes
