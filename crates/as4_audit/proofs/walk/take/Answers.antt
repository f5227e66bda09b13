use Rattle.std.proofs.Common.{sym}
use Rattle.as4_audit.proofs.KindLemmas.{taken_folded, wrong_by_room}
use Rattle.as4_audit.proofs.walk.take.Goals as goal

pub returns-then-not-has_room-clause-taken : goal.returns-then-not-has_room-clause-taken
returns-then-not-has_room-clause-taken c =
    let counted = rw c.in-Some.is at c.requires.counted in
    rw c.in-Some.is (wrong_by_room c.args.modes.now c.args.folded c.args.core.now.end c.in-Some.effects counted.0 (sym c.if-not-has_room.ensures))

pub returns-then-folded-clause-taken : goal.returns-then-folded-clause-taken
returns-then-folded-clause-taken c =
    rw c.in-Some.is
    (taken_folded c.args.modes.now c.args.folded c.args.core.now.end c.replayed.new.core.end c.in-Some.effects c.in_ok-taken.taken c.if-folded.true
    (sym c.if-not-has_room.ensures) c.in_ok-taken.ensures.replayed)
