-- The program as a command of `clap`, which says how words are read.
use Rattle.std.specs.Prelude.{◌≡◌, List, [], ◌∷◌, Some, true, false, codes}
use Rattle.clap.specs.Simple.{App, Shape, new_rule, new_shape}
use Rattle.clap.specs.Walk.{Row, Rule, Text}
use Rattle.clap.specs.Simple.{subcommand_of}
use Rattle.clap.specs.Faults.{fault_of}
use Rattle.clap.specs.declared.builder.action.ArgAction.TheVariants.{SetTrue}

-- a value that is required
abbrev pub value : Text → Rule
value id = record (new_rule id) { required = true }

-- an option with a value
abbrev pub option : Text → Rule
option name = record (new_rule name) { long = Some name }

-- an option with two values
abbrev pub option_of_two : Text → Rule
option_of_two name = record (option name) { range = Some (record { start_inclusive = 2; end_inclusive = 2 }) }

-- an option without a value
abbrev pub flag : Text → Rule
flag name = record (option name) { action = Some SetTrue }

abbrev pub command : Text → List Rule → Shape
command name rules = record (new_shape name) { rules = rules }

abbrev pub answer_command : Shape
answer_command = command (codes "answer") (value (codes "STAMP") ∷ value (codes "NONCE") ∷ [])

abbrev pub check_command : Shape
check_command = command (codes "check") []

abbrev pub drill_command : Shape
drill_command = command (codes "drill") (option_of_two (codes "generate") ∷ flag (codes "draw") ∷ flag (codes "hub") ∷ [])

abbrev pub handler_command : Shape
handler_command = command (codes "handler") (value (codes "MODES") ∷ value (codes "JOURNAL") ∷ value (codes "PEER")
    ∷ value (codes "LOCAL") ∷ option (codes "workers") ∷ option (codes "turns") ∷ option (codes "keep") ∷ [])

abbrev pub submit_command : Shape
submit_command = command (codes "submit") (value (codes "LOCAL") ∷ value (codes "MODE") ∷ value (codes "CONVERSATION")
    ∷ value (codes "MEDIA") ∷ [])

abbrev pub collect_command : Shape
collect_command = command (codes "collect") (value (codes "LOCAL") ∷ value (codes "FIRST") ∷ value (codes "COUNT")
    ∷ value (codes "FOLDER") ∷ [])

abbrev pub audit_command : Shape
audit_command = command (codes "audit") (value (codes "MODES") ∷ value (codes "JOURNAL") ∷ flag (codes "draw") ∷ [])

abbrev pub relay_command : Shape
relay_command = command (codes "relay") (value (codes "MODES") ∷ value (codes "JOURNAL") ∷ value (codes "MODE")
    ∷ value (codes "COUNT") ∷ [])

abbrev pub suite_command : Shape
suite_command = command (codes "suite") (flag (codes "verify") ∷ flag (codes "list") ∷ [])

-- the program: its name isn't among the words, it has a version, and one of its commands is required
abbrev pub program : Shape
program = record (new_shape (codes "as4")) {
  has_version = true;
  no_binary_name = true;
  subcommand_required = true;
  disable_help_subcommand = true;
}

abbrev pub as4 : App
as4 = record {
  top = record program { is_leaf = false };
  subs = answer_command ∷ check_command ∷ drill_command ∷ handler_command ∷ submit_command ∷ collect_command ∷ audit_command
      ∷ relay_command ∷ suite_command ∷ [];
}

-- the words are those of the command of this name, and its values are in these rows
pub record Names (words : List Text) (name : Text) (rows : List Row) : Type 0 where
  pub right : fault_of as4 words ≡ []
  pub named : subcommand_of as4 words ≡ Some (name, rows)
