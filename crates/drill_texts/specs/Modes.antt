-- The processing modes of a drill, which all its endpoints have.
use Rattle.std.specs.Prelude.{◌≡◌, ◌≢◌, ℕ, ◌≤◌, List, [], ◌∷◌, ◌++◌, false, Option, None, Some, length, codes}
use Rattle.std.specs.List.{All, AllPairs}
use Rattle.as4_values.specs.declared.header.Side.{Side}
use Rattle.mode_values.specs.declared.mode.Mode.{Mode}
use Rattle.as4_values.specs.declared.route.Route.{Route}
use Rattle.as4_values.specs.declared.route.Route.TheVariants as route
use Rattle.drill_script.specs.declared.line.LinkName.{LinkName}
use Rattle.drill_script.specs.declared.line.LinkName.TheVariants.{Front, Rear}
use Rattle.drill_script.specs.declared.line.Way.{Way}
use Rattle.drill_script.specs.declared.line.Way.TheVariants.{Push, Pull}

-- one party, with a role
pub record IsDrillSide (id role : List ℕ) (side : Side) : Type 0 where
  pub party : side.parties ≡ record { id = id; kind = None } ∷ []
  pub plays : side.role ≡ role

abbrev pub drill_address : List ℕ
drill_address = codes "http://drill/"

abbrev pub route_of : List ℕ → Way → Route
route_of name Push = route.Push drill_address
route_of name Pull = route.Pull (codes "drill-" ++ name) drill_address

-- the party that sends: in a pair, or on a link of a chain
abbrev pub sender_of : Option LinkName → List ℕ
sender_of None = codes "drill-a"
sender_of (Some Front) = codes "drill-f"
sender_of (Some Rear) = codes "drill-h"

-- the party that receives
abbrev pub receiver_of : Option LinkName → List ℕ
receiver_of None = codes "drill-b"
receiver_of (Some Front) = codes "drill-h"
receiver_of (Some Rear) = codes "drill-l"

pub record IsDrillMode (link : Option LinkName) (name : List ℕ) (way : Way) (times wait : ℕ) (mode : Mode) : Type 0 where
  pub named : mode.name ≡ name
  pub from : IsDrillSide (sender_of link) (codes "sender") mode.from
  pub to : IsDrillSide (receiver_of link) (codes "receiver") mode.to
  pub service : mode.service ≡ record { value = codes "drill"; kind = None }
  pub action : mode.action ≡ name
  pub agreement : mode.agreement ≡ None
  pub route : mode.route ≡ route_of name way
  pub retries : mode.retries ≡ times
  pub period : mode.period ≡ wait
  pub collect : mode.collect ≡ false

-- made from some line of a script
abbrev pub IsSomeDrillMode : Mode → Type 0
IsSomeDrillMode mode =
    (link : Option LinkName) × (name : List ℕ) × (way : Way) × (times : ℕ) × (wait : ℕ) × IsDrillMode link name way times wait mode

-- the modes of a script, with distinct names
pub record AreDrillModes (modes : List Mode) : Type 0 where
  pub counted : length modes ≤ 1024
  pub made : All IsSomeDrillMode modes
  pub named : AllPairs (λ (a b : Mode). a.name ≢ b.name) modes
