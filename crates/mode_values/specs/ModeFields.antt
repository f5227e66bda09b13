-- The fields of a side and of a mode, without the facts that their types keep: values with the same fields are equal.
use Rattle.std.specs.Prelude.{ℕ, List, Bool, Option}
use Rattle.as4_values.specs.declared.header.Party.{Party}
use Rattle.as4_values.specs.declared.header.Side.{Side}
use Rattle.as4_values.specs.declared.header.Agreement.{Agreement}
use Rattle.as4_values.specs.declared.header.Service.{Service}
use Rattle.mode_values.specs.declared.mode.Mode.{Mode}
use Rattle.as4_values.specs.declared.route.Route.{Route}

pub record SideFields : Type 0 where
  pub parties : List Party
  pub role : List ℕ

pub record ModeFields : Type 0 where
  pub name : List ℕ
  pub from : SideFields
  pub to : SideFields
  pub service : Service
  pub action : List ℕ
  pub agreement : Option Agreement
  pub route : Route
  pub retries : ℕ
  pub period : ℕ
  pub collect : Bool

abbrev pub side_fields : Side → SideFields
side_fields side = record { parties = side.parties; role = side.role }

abbrev pub mode_fields : Mode → ModeFields
mode_fields mode = record {
  name = mode.name;
  from = side_fields mode.from;
  to = side_fields mode.to;
  service = mode.service;
  action = mode.action;
  agreement = mode.agreement;
  route = mode.route;
  retries = mode.retries;
  period = mode.period;
  collect = mode.collect;
}
