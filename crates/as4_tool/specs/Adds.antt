-- Commands of `clap` that are made of parts.
use Rattle.std.specs.Prelude.{◌≡◌, [], false}
use Rattle.clap.specs.Simple.{App, Shape, app_of, with_rule, with_subcommand}
use Rattle.clap.specs.Walk.{Rule}
use Rattle.clap.specs.declared.builder.command.Command.{Command}
use Rattle.clap.specs.declared.builder.command.Command.TheViews.{out-Command as fields_of}

-- the command has this form, and no global argument
pub record IsApp (app : App) (command : Command) : Type 0 where
  pub form : app_of command ≡ app
  pub local : (fields_of command).has_globals ≡ false

-- a command without commands of its own
abbrev pub alone : Shape → App
alone shape = record { top = shape; subs = [] }

-- whatever form the old command has, the new one has one argument more
abbrev pub AddsRule : Rule → Command → Command → Type 0
AddsRule rule old new = (app : App) → IsApp app old → IsApp (with_rule app rule) new

-- whatever form the old command has, the new one has one command more
abbrev pub AddsShape : Shape → Command → Command → Type 0
AddsShape shape old new = (app : App) → IsApp app old → IsApp (with_subcommand app shape) new
