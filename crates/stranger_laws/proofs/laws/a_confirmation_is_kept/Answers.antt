use Rattle.stranger_laws.proofs.ConfirmLemmas.{confirms_one}
use Rattle.stranger_laws.proofs.laws.a_confirmation_is_kept.Goals as goal

pub returns : goal.returns
returns c = confirms_one
