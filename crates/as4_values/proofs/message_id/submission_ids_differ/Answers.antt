use Rattle.as4_values.proofs.IdentifierLemmas.{submission_number}
use Rattle.as4_values.proofs.message_id.submission_ids_differ.Goals as goal

pub returns : goal.returns
returns c = submission_number
