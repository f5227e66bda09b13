use Rattle.std.proofs.lemmas.Result.{IfOk-weaker}
use Rattle.msh_transitions.proofs.OwnRows.{asks_pair}
use Rattle.msh_transitions.proofs.asking.ask_with_by.Goals as goal

pub returns-in-Entry-clause-row : goal.returns-in-Entry-clause-row
returns-in-Entry-clause-row c =
    let read = c.in-Entry.ensures in
    IfOk-weaker c.request_with.result _ _
    (λ outcome pair. asks_pair c.args.route.now c.args.tables.now.end c.args.event.now c.args.n c.in-Pull.mpc c.in-Pull.address
    c.in-Entry.header.now outcome c.in-Pull.is read.0 read.1 pair)
    c.request_with.ensures.row
