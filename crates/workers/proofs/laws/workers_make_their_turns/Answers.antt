use Rattle.std.proofs.Common.{◌≡◌}
use Rattle.workers.proofs.KeptLemmas.{worked_keeps}
use Rattle.workers.proofs.ServedLemmas.{worked_serves}
use Rattle.workers.proofs.SumLemmas.{worked_grows, worked_makes, worked_ticks}
use Rattle.workers.proofs.laws.workers_make_their_turns.Goals as goal

pub returns-clause-grows : goal.returns-clause-grows
returns-clause-grows g c old new worked = worked_grows g.D.Disk g.J.Opening g.W.Door g.L.Link g.C.Clock g.N.Nonces old new worked.turns

pub returns-clause-keeps : goal.returns-clause-keeps
returns-clause-keeps g c old new worked = worked_keeps g.D.Disk g.J.Opening g.W.Door g.L.Link g.C.Clock g.N.Nonces old new worked.turns

pub returns-clause-makes : goal.returns-clause-makes
returns-clause-makes g c old new worked none room = worked_makes g.D.Disk g.J.Opening g.W.Door g.L.Link g.C.Clock g.N.Nonces old new worked.turns none room

pub returns-clause-ticks : goal.returns-clause-ticks
returns-clause-ticks g c old new worked is room = worked_ticks g.D.Disk g.J.Opening g.W.Door g.L.Link g.C.Clock g.N.Nonces old new worked.turns is room

pub returns-clause-serves : goal.returns-clause-serves
returns-clause-serves g c old new kind door all worked at is told =
    let served = worked_serves g.D.Disk g.J.Opening g.W.Door g.L.Link g.C.Clock g.N.Nonces c.a_request_is_handled.ensures.shared kind all door old new worked.turns at is told in
    (served.later, served.serves.here, served.serves.took)
