use Rattle.std.proofs.Common.{sym, ◌∙◌}
use Rattle.header_reader.proofs.MadeLemmas.{signal_made, no_signal}
use Rattle.header_reader.proofs.made.signal_from.Goals as goal

pub returns-then-not-may_be_signal : goal.returns-then-not-may_be_signal
returns-then-not-may_be_signal c = no_signal c.args.info c.args.body (sym c.may_be_signal.ensures ∙ c.if-not-may_be_signal.true)

pub returns : goal.returns
returns c = sym (signal_made _)
