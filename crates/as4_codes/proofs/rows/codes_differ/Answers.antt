use Rattle.as4_codes.proofs.RowLemmas.{codes_of_rows_differ, found_by_code}
use Rattle.as4_codes.proofs.rows.codes_differ.Goals as goal

pub returns-clause-differ : goal.returns-clause-differ
returns-clause-differ c = codes_of_rows_differ

pub returns-clause-found : goal.returns-clause-found
returns-clause-found c = found_by_code
