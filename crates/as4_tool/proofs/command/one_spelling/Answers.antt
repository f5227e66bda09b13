use Rattle.as4_tool.proofs.TaskLemmas.{spells_once}
use Rattle.as4_tool.proofs.command.one_spelling.Goals as goal

pub returns : goal.returns
returns c = spells_once
