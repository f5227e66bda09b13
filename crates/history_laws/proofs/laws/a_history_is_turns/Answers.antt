use Rattle.history_laws.proofs.TurnLemmas.{turns}
use Rattle.history_laws.proofs.laws.a_history_is_turns.Goals as goal

pub returns : goal.returns
returns c = turns
