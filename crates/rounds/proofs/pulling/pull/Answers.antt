use Rattle.std.proofs.Common.{Ok, Err, refl, subst}
use Rattle.rounds.specs.Rounds.{Sends, using}
use Rattle.sessions.specs.declared.rounds.RoundEnd.{RoundEnd}
use Rattle.rounds.proofs.RoundLemmas.{pulls_with}
use Rattle.rounds.proofs.pulling.pull.Goals as goal

pub returns-in-Err-clause-pulls : goal.returns-in-Err-clause-pulls
returns-in-Err-clause-pulls g c =
    let n = c.deliver-first.new in
    let middle = using n.pass n.link n.clock n.nonces in
    pulls_with g.D.Disk g.J.Opening g.L.Link g.C.Clock g.N.Nonces c.args.address.now c.in-Some.request c.args.request
    (using c.args.pass.now c.args.link.now c.args.clock.now c.args.nonces.now) middle middle (Err c.in-Err.end) c.unanswered-in-Err.result
    c.in-Some.is c.in-Err.ensures.delivers (c.unanswered-in-Err.ensures, refl)

pub returns-clause-pulls : goal.returns-clause-pulls
returns-clause-pulls g c =
    let n = c.deliver-first.new in
    let s = c.send_out-end.new in
    let middle = using n.pass n.link n.clock n.nonces in
    let new = using s.pass s.link s.clock s.nonces in
    pulls_with g.D.Disk g.J.Opening g.L.Link g.C.Clock g.N.Nonces c.args.address.now c.in-Some.request c.args.request
    (using c.args.pass.now c.args.link.now c.args.clock.now c.args.nonces.now) middle new
    (Ok c.in-Ok.sending) _ c.in-Some.is c.in-Ok.ensures.delivers (
      subst (λ (without : RoundEnd). Sends g.D.Disk g.J.Opening g.L.Link g.C.Clock g.N.Nonces c.args.address.now c.in-Ok.sending.request without middle new c.send_out-end.result)
          c.ended_by-without.ensures c.send_out-end.ensures.sends,
      c.is_some-received.ensures,
    )
