use Rattle.msh_transitions.proofs.ComingRows.{delivers}
use Rattle.msh_transitions.proofs.coming.deliver.Goals as goal

pub returns-in-Ok-Ok-Ok : goal.returns-in-Ok-Ok-Ok
returns-in-Ok-Ok-Ok c =
    let copies = c.in-Ok-Ok-Ok.ensures'' in
    delivers c.args.event.now c.args.header.now c.args.payloads.now _ c.in-Ok-Ok-Ok.signal _ c.gives.ensures copies.0 copies.1
    c.in-Ok-Ok-Ok.ensures'
