use Rattle.as4_tool.proofs.values.drill_of.Goals as goal
use Rattle.std.proofs.Common.{false}

pub returns-in_err-drawn-clause-only : goal.returns-in_err-drawn-clause-only
returns-in_err-drawn-clause-only c seed count gives = cc (c.in_err-drawn.ensures.only false gives.0.1)

pub returns-in_err-hub-clause-only : goal.returns-in_err-hub-clause-only
returns-in_err-hub-clause-only c seed count gives = cc (c.in_err-hub.ensures.only false gives.0.2)
