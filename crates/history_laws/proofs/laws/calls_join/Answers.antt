use Rattle.history_laws.proofs.FollowingLemmas.{join}
use Rattle.history_laws.proofs.laws.calls_join.Goals as goal

pub returns : goal.returns
returns c = join
