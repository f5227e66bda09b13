use Rattle.std.proofs.Common.{◌∙◌, refl, sym}
use Rattle.workers.specs.declared.turn.Turn.TheVariants as turn
use Rattle.as4_keep.proofs.TurnLemmas.{turn_of_door}
use Rattle.as4_keep.proofs.serving.kept_turn.Goals as goal

pub returns-in-Worked-clause-turn : goal.returns-in-Worked-clause-turn
returns-in-Worked-clause-turn g c =
    turn_of_door g.D.Disk g.J.Opening g.W.Door g.L.Link g.C.Clock g.N.Nonces c.args.limit c.in-Some.kind c.args.worker.now c.keep_once.new.worker _ turn.Worked
    (sym c.door_of.ensures ∙ c.in-Some.is) c.in-Worked.ensures.keeps refl

pub returns-in-Idle-clause-turn : goal.returns-in-Idle-clause-turn
returns-in-Idle-clause-turn g c =
    turn_of_door g.D.Disk g.J.Opening g.W.Door g.L.Link g.C.Clock g.N.Nonces c.args.limit c.in-Some.kind c.args.worker.now c.keep_once.new.worker _ turn.Idle
    (sym c.door_of.ensures ∙ c.in-Some.is) c.in-Idle.ensures.keeps (record { same = refl; last = c.rest.ensures.last; to_come = c.rest.ensures.stays })

pub returns-in-Starved-clause-turn : goal.returns-in-Starved-clause-turn
returns-in-Starved-clause-turn g c =
    turn_of_door g.D.Disk g.J.Opening g.W.Door g.L.Link g.C.Clock g.N.Nonces c.args.limit c.in-Some.kind c.args.worker.now c.keep_once.new.worker _ turn.Starved
    (sym c.door_of.ensures ∙ c.in-Some.is) c.in-Starved.ensures.keeps (record { same = refl; last = c.rest-in-Starved.ensures.last; to_come = c.rest-in-Starved.ensures.stays })

pub returns-in-Closed-clause-turn : goal.returns-in-Closed-clause-turn
returns-in-Closed-clause-turn g c =
    turn_of_door g.D.Disk g.J.Opening g.W.Door g.L.Link g.C.Clock g.N.Nonces c.args.limit c.in-Some.kind c.args.worker.now c.keep_once.new.worker _ turn.Closed
    (sym c.door_of.ensures ∙ c.in-Some.is) c.in-Closed.ensures.keeps refl
