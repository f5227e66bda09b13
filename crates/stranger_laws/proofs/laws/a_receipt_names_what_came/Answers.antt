use Rattle.exchange_model.specs.Alone.{end_after}
use Rattle.exchange_model.specs.End.{empty_end}
use Rattle.exchange_model.specs.World.{acts_of}
use Rattle.exchange_model.proofs.NumberedLemmas.{none_numbered}
use Rattle.exchange_laws.proofs.InboxLemmas.{has_known}
use Rattle.exchange_laws.proofs.ListLemmas.{has_contained}
use Rattle.stranger_laws.proofs.ReceiptLemmas.{receipts_name}
use Rattle.stranger_laws.proofs.laws.a_receipt_names_what_came.Goals as goal

pub returns : goal.returns
returns c all act receipt may there sent =
    let names = receipts_name all empty_end act receipt none_numbered may (has_contained (acts_of all) act there) sent in
    (names.0, names.1, has_known names.0 (end_after all empty_end).inbox names.2)
