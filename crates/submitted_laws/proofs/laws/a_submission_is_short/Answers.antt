use Rattle.submitted_laws.proofs.SubmittedLengths.{submission_is_short, submission_is_paired}
use Rattle.submitted_laws.proofs.laws.a_submission_is_short.Goals as goal

pub returns-clause-short : goal.returns-clause-short
returns-clause-short c = submission_is_short

pub returns-clause-paired : goal.returns-clause-paired
returns-clause-paired c = submission_is_paired
