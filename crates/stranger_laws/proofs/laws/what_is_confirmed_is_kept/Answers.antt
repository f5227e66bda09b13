use Rattle.exchange_model.specs.End.{empty_end}
use Rattle.exchange_model.specs.World.{acts_of}
use Rattle.exchange_model.proofs.NumberedLemmas.{none_numbered}
use Rattle.exchange_laws.proofs.ListLemmas.{has_contained}
use Rattle.stranger_laws.proofs.ConfirmLemmas.{confirmed_all}
use Rattle.stranger_laws.proofs.laws.what_is_confirmed_is_kept.Goals as goal

pub returns : goal.returns
returns c all act upto may there told =
    confirmed_all all empty_end act upto none_numbered may (has_contained (acts_of all) act there) told
