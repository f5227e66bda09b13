use Rattle.outbox.proofs.CountingLemmas.{none_counted}
use Rattle.outbox.proofs.KeptLemmas.{no_room, none_watched}
use Rattle.outbox.proofs.StandLemmas.{none_stand}
use Rattle.outbox.proofs.outbox.Outbox.new.Goals as goal

pub invariant_of-result : goal.invariant_of-result
invariant_of-result c = rw c.new.ensures.items (
  none_stand,
  c.new-2.ensures.none,
  none_watched c.new-3.result c.new-3.ensures,
  rw c.none.ensures none_counted,
  λ some. absurd (no_room c.new-2.result.room c.new-2.ensures.room some),
)
