use Rattle.std.proofs.Common.{None, ap, sym, ◌∙◌}
use Rattle.inbox.specs.Holding.{is_held}
use Rattle.inbox.proofs.HoldingLemmas.{same_held}
use Rattle.inbox.proofs.identifiers.Identifiers.end_room.Goals as goal
use Rattle.inbox.proofs.identifiers.Identifiers.end_room.Goals.{then-not-contains, else-not-contains}

pub returns-clause-held : goal.returns-clause-held
returns-clause-held c = λ id. elim c.if-not-contains.branch [
  | then-not-contains w ↦
      ap (is_held id) w.self-is
      ∙ same_held c.args.self.now.holds w.remove.new.self c.in-Some.id None w.remove.ensures.updates
      (sym w.if-not-contains.true ∙ c.contains.ensures) id
  | else-not-contains w ↦ ap (is_held id) w.self-is
]
