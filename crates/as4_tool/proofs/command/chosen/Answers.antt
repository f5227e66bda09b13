use Rattle.std.proofs.Common.{rules, ◌≡◌, List, subst}
use Rattle.clap.specs.Matches.{found_of}
use Rattle.clap.specs.Walk.{Row, rows_of}
use Rattle.as4_tool.specs.Command.{Gives, name_of}
use Rattle.as4_tool.proofs.command.chosen.Goals as goal

pub returns-clause-only : goal.returns-clause-only
returns-clause-only c task rows entered gives =
    let name : name_of task ≡ c.in_ok-name.name.now = search rules in
    let same : rows ≡ rows_of (found_of c.in_ok-name.found.now) = search rules in
    c.named.ensures.only task name (subst (λ (r : List Row). Gives r task) same gives)
