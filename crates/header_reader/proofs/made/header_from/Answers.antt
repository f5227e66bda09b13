use Rattle.std.proofs.Common.{sym, ◌∙◌}
use Rattle.header_reader.proofs.MadeLemmas.{header_made, no_header}
use Rattle.header_reader.proofs.made.header_from.Goals as goal

pub returns-then-not-may_be_header : goal.returns-then-not-may_be_header
returns-then-not-may_be_header c =
    no_header c.args.mpc c.args.info c.args.sides c.args.business c.args.properties c.args.parts (sym c.may_be_header.ensures ∙ c.if-not-may_be_header.true)

pub returns : goal.returns
returns c = sym (header_made _)
