use Rattle.std.proofs.Common.{sym, ◌∙◌}
use Rattle.header_reader.proofs.MadeLemmas.{pair_made, no_pair}
use Rattle.header_reader.proofs.envelope.pair_from.Goals as goal

pub returns-then-may_be_pair-clause-pair : goal.returns-then-may_be_pair-clause-pair
returns-then-may_be_pair-clause-pair c = sym (pair_made _)

pub returns-else-may_be_pair-clause-pair : goal.returns-else-may_be_pair-clause-pair
returns-else-may_be_pair-clause-pair c = no_pair c.args.receipt c.args.pull (sym c.may_be_pair.ensures ∙ c.if-may_be_pair.false)
