use Rattle.msh_transitions.proofs.OwnRows.{asks_pull}
use Rattle.msh_transitions.proofs.asking.ask_by.Goals as goal

pub returns-in_ok-signal-in-Pull-clause-row : goal.returns-in_ok-signal-in-Pull-clause-row
returns-in_ok-signal-in-Pull-clause-row c =
    asks_pull _ _ _ _ _ c.in_ok-signal-in-Pull.signal _ c.in-Pull.is c.in_ok-address-in-Pull.ensures c.in_ok-signal-in-Pull.ensures
    c.rests-in-Pull.ensures
