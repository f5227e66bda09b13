use Rattle.std.proofs.Common.{◌≡◌, true}
use Rattle.exchange_model.specs.Apply.{is_one}
use Rattle.exchange_model.specs.Questions.{is_pending, sent_at}
use Rattle.msh_transitions.proofs.ComingRows.{receipt_fits, settles}
use Rattle.msh_transitions.proofs.StandLemmas.{gives_stands}
use Rattle.msh_transitions.proofs.coming.settle.Goals as goal

pub returns-clause-row : goal.returns-clause-row
returns-clause-row c =
    let pending : is_one is_pending (sent_at c.args.number c.args.tables.now.end.sent) ≡ true = cc in
    settles c.args.number c.args.tables.now.end.sent _ pending c.gives.ensures

pub returns-clause-stands : goal.returns-clause-stands
returns-clause-stands c =
    let pending : is_one is_pending (sent_at c.args.number c.args.tables.now.end.sent) ≡ true = cc in
    gives_stands _ _ _ _ c.gives.ensures (receipt_fits c.args.number c.args.tables.now.end pending)
