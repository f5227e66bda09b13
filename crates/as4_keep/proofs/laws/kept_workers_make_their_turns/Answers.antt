use Rattle.std.proofs.Common.{◌≡◌, Option, Some, None, refl}
use Rattle.as4_doors.specs.declared.door.DoorKind.{DoorKind}
use Rattle.as4_http.specs.Limits.{the_limits}
use Rattle.workers.specs.Bounds.{door_of}
use Rattle.as4_keep.specs.KeptBounds.{GrowsKept}
use Rattle.as4_keep.proofs.ServedLemmas.{worked_serves}
use Rattle.as4_keep.proofs.TurnLemmas.{away_grows, away_worked, door_grows}
use Rattle.as4_keep.proofs.laws.kept_workers_make_their_turns.Goals as goal

pub returns-clause-grows : goal.returns-clause-grows
returns-clause-grows g c limit old new some worked = by_door (door_of old.job) refl
  where
    by_door : (o : Option DoorKind) → door_of old.job ≡ o → GrowsKept limit old.turns old new
    by_door None at = away_grows g.D.Disk g.J.Opening g.W.Door g.L.Link g.C.Clock g.N.Nonces limit old new at
        (c.workers_make_their_turns.ensures.grows old new (away_worked g.D.Disk g.J.Opening g.W.Door g.L.Link g.C.Clock g.N.Nonces limit old new at worked))
    by_door (Some kind) at = door_grows g.D.Disk g.J.Opening g.W.Door g.L.Link g.C.Clock g.N.Nonces limit some kind old new at worked.turns

pub returns-clause-away : goal.returns-clause-away
returns-clause-away g c limit old new worked at = away_worked g.D.Disk g.J.Opening g.W.Door g.L.Link g.C.Clock g.N.Nonces limit old new at worked

pub returns-clause-serves : goal.returns-clause-serves
returns-clause-serves g c limit old new kind door all some worked at is told =
    let served = worked_serves g.D.Disk g.J.Opening g.W.Door g.L.Link g.C.Clock g.N.Nonces
    (λ s a b r q first second. (c.one_request.ensures the_limits the_limits s a b r q first second).0) c.strangers_ask_nothing.ensures.asks c.refused_or_asked.ensures
    limit some kind all door old new worked.turns at is told in
    (served.later, served.serves.here, served.serves.took)
