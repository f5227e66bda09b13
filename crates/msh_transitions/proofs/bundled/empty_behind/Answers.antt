use Rattle.msh_transitions.proofs.ComingRows.{code_6_is_known}
use Rattle.msh_transitions.proofs.bundled.empty_behind.Goals as goal

pub error_signal-requires-clause-known : goal.error_signal-requires-clause-known
error_signal-requires-clause-known c = code_6_is_known
