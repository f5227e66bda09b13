use Rattle.message_laws.proofs.FileLemmas.{file_again, file_is_joined}
use Rattle.message_laws.proofs.laws.a_file_is_its_parts.Goals as goal

pub returns-clause-joined : goal.returns-clause-joined
returns-clause-joined c = file_again

pub returns-clause-cut : goal.returns-clause-cut
returns-clause-cut c = file_is_joined
