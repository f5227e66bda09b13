use Rattle.as4_audit.proofs.LawLemmas.{step_made}
use Rattle.as4_audit.proofs.laws.what_a_step_gives_is_made.Goals as goal

pub returns : goal.returns
returns c modes end event outcome reached step some = step_made modes end event outcome reached step some
