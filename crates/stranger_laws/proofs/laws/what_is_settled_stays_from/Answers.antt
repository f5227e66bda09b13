use Rattle.exchange_model.specs.Alone.{end_after}
use Rattle.exchange_laws.proofs.AloneLemmas.{stays_settled}
use Rattle.exchange_laws.proofs.ListLemmas.{has_contained, contains_had}
use Rattle.stranger_laws.proofs.laws.what_is_settled_stays_from.Goals as goal

pub returns : goal.returns
returns c all end s numbered may there settled =
    contains_had (end_after all end).sent s (stays_settled all end s numbered may (has_contained end.sent s there) settled)
