use Rattle.handler.proofs.WholeLemmas.{becomes_whole}
use Rattle.handler.specs.Stores.{AreModesOf}
use Rattle.handler.proofs.laws.a_whole_store_is_left_whole.Goals as goal

pub returns : goal.returns
returns c file = becomes_whole (AreModesOf file)
