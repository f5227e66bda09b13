use Rattle.std.proofs.Common.{arith}
use Rattle.exchange_model.specs.Alone.{end_after}
use Rattle.exchange_model.specs.End.{empty_end}
use Rattle.outcome_laws.proofs.SomeOutcome.{some_outcome, dated_after}
use Rattle.outcome_laws.proofs.laws.an_event_has_an_outcome.Goals as goal

pub returns : goal.returns
returns c all modes event may held =
    some_outcome modes (end_after all empty_end) event held (dated_after all empty_end (omega arith))
