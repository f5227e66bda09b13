use Rattle.history_laws.proofs.FollowingLemmas.{split, stop_both}
use Rattle.history_laws.proofs.laws.calls_split.Goals as goal

pub returns-clause-stop : goal.returns-clause-stop
returns-clause-stop c = stop_both

pub returns-clause-split : goal.returns-clause-split
returns-clause-split c = split
