use Rattle.message_laws.proofs.FileLemmas.{file_is_cut}
use Rattle.message_laws.proofs.laws.file_is_cut_again.Goals as goal

pub returns : goal.returns
returns c = file_is_cut
