use Rattle.submitted_laws.proofs.AnswerLemmas.{answer_is_short}
use Rattle.submitted_laws.proofs.SubmittedLengths.{receipt_is_short, error_signal_is_short, pull_is_short, pair_is_short}
use Rattle.submitted_laws.proofs.laws.its_signals_are_short.Goals as goal

pub returns-clause-receipt : goal.returns-clause-receipt
returns-clause-receipt c = receipt_is_short

pub returns-clause-error_signal : goal.returns-clause-error_signal
returns-clause-error_signal c = error_signal_is_short

pub returns-clause-answer : goal.returns-clause-answer
returns-clause-answer c = answer_is_short

pub returns-clause-pair : goal.returns-clause-pair
returns-clause-pair c = pair_is_short

pub returns-clause-pull_request : goal.returns-clause-pull_request
returns-clause-pull_request c = pull_is_short
