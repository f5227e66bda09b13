use Rattle.std.proofs.Common.{sym, ◌∙◌}
use Rattle.header_reader.proofs.MadeLemmas.{side_made, no_side}
use Rattle.header_reader.proofs.made.side_from.Goals as goal

pub returns-then-may_be_side : goal.returns-then-may_be_side
returns-then-may_be_side c = sym (side_made _)

pub returns-else-may_be_side : goal.returns-else-may_be_side
returns-else-may_be_side c = no_side c.args.parties c.args.role (sym c.may_be_side.ensures ∙ c.if-may_be_side.false)
