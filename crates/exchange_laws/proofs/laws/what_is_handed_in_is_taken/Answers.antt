use Rattle.std.proofs.Common.{inr}
use Rattle.exchange_laws.proofs.AskedLemmas.{taken_in}
use Rattle.exchange_laws.proofs.laws.what_is_handed_in_is_taken.Goals as goal

pub returns : goal.returns
returns c modes end event outcome name conversation loads step asked mode below small room =
    taken_in modes end event outcome name conversation loads step asked mode below small (inr room)
