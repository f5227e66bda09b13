use Rattle.history_laws.proofs.FollowingLemmas.{stopped}
use Rattle.history_laws.proofs.laws.after_a_stop_only_refusals_follow.Goals as goal

pub returns : goal.returns
returns c = stopped
