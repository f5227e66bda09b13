use Rattle.std.proofs.Common.{sym, ◌∙◌}
use Rattle.header_reader.proofs.MadeLemmas.{part_made, no_part}
use Rattle.header_reader.proofs.made.part_from.Goals as goal

pub returns-then-may_be_part : goal.returns-then-may_be_part
returns-then-may_be_part c = sym (part_made _)

pub returns-else-may_be_part : goal.returns-else-may_be_part
returns-else-may_be_part c = no_part c.args.href c.args.properties (sym c.may_be_part.ensures ∙ c.if-may_be_part.false)
