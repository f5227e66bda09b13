use Rattle.std.proofs.Common.{[], None, refl, ap}
use Rattle.channels.proofs.ViewLemmas.{new_kept, none_waits}
use Rattle.channels.proofs.channels.Channels.new.Goals as goal

pub invariant_of-result : goal.invariant_of-result
invariant_of-result c = rw (c.new.ensures, c.new-2.ensures) new_kept

pub returns : goal.returns
returns c =
    rw (c.new.ensures, c.new-2.ensures)
    (ap (λ waiting. record { waiting = waiting; room = None }) (none_waits [] (record { count = 0; places = []; room = None }) refl))
