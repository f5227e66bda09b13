use Rattle.exchange_laws.proofs.ListLemmas.{has_contained}
use Rattle.fold_laws.proofs.Sound.{reached_sound}
use Rattle.fold_laws.proofs.laws.no_reached_one_is_spent.Goals as goal

pub returns : goal.returns
returns c end reached s there = ((reached_sound end reached).sent.each s (has_contained end.sent s there)).unspent
