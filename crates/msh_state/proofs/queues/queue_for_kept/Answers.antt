use Rattle.msh_state.proofs.KeptLemmas.{kept_queue}
use Rattle.msh_state.proofs.queues.queue_for_kept.Goals as goal

pub returns : goal.returns
returns c = kept_queue
