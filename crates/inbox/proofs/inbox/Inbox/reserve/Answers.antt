use Rattle.std.proofs.Common.{◌∙◌, map, arith}
use Rattle.inbox.specs.Entries.{entry_of}
use Rattle.inbox.specs.Holding.{AreOf}
use Rattle.inbox.proofs.inbox.Inbox.reserve.Goals as goal

pub invariant_of-self-2 : goal.invariant_of-self-2
invariant_of-self-2 c =
    let are : AreOf c.reserve-2.new.self (map entry_of c.self.inside.entries.items) =
    record { held = λ id. c.reserve-2.ensures.held id ∙ c.self.invariant.2.held id; place = c.reserve-2.ensures.place } in (
      omega (arith, c.self.invariant.0, c.reserve.ensures.len),
      λ some. omega (arith, c.in_ok-reserve.ensures.ok),
      rw c.reserve.ensures.items are,
    )
