use Rattle.std.proofs.Common.{◌≡◌, ◌++◌, ◌∷◌, [], Some, map, ap, ◌∙◌, arith}
use Rattle.inbox.specs.Deliveries.{Deliveries}
use Rattle.inbox.specs.Entries.{entry_of}
use Rattle.inbox.specs.Holding.{AreOf}
use Rattle.inbox.proofs.HoldingLemmas.{held_push, no_room}
use Rattle.inbox.proofs.inbox.Inbox.push.Goals as goal

pub invariant_of-self : goal.invariant_of-self
invariant_of-self c =
    let room : c.self.inside.identifiers.room ≡ Some c.args.entry.header.id =
    ap (λ (d : Deliveries). d.room) c.self.view_is ∙ c.requires in
    let are : AreOf c.hold.new.self (map entry_of (c.self.inside.entries.items ++ c.args.entry ∷ [])) =
    held_push c.self.inside.identifiers c.hold.new.self c.self.inside.entries.items c.args.entry c.self.invariant.2
    (λ id. c.hold.ensures.held c.args.entry.header.id id room) c.hold.ensures.place in (
      omega (arith, c.self.invariant.0, c.push_reserved.ensures.len),
      λ some. absurd (no_room c.hold.new.self.room c.hold.ensures.room some),
      rw c.push_reserved.ensures.items are,
    )
