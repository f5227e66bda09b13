use Rattle.std.proofs.Common.{◌≤◌, inl, inr, length, sym, ap, subst, arith}
use Rattle.handler.specs.Handling.{Handles, OpensAndWorks}
use Rattle.handler.specs.Working.{Works}
use Rattle.handler.proofs.ModesLemmas.{few_pulled}
use Rattle.handler.proofs.handling.prepare.Goals as goal
use Rattle.handler.proofs.handling.prepare.Goals.{in-Ok, in-Err}

pub work-end-requires-clause-kit : goal.work-end-requires-clause-kit
work-end-requires-clause-kit g c κs within =
    let e = c.in-Ok-Ok.ensures in
    let pulls = ap length e.pulls in
    let few = few_pulled c.args.modes in
    let short : length c.in-Ok-Ok.kit.pulls.items ≤ 2 = omega (arith, pulls, few) in
    (short, e.crew.0, e.crew.1)

pub returns-after-open_all-clause-ends : goal.returns-after-open_all-clause-ends
returns-after-open_all-clause-ends g c =
    let M = g.H.Host in
    let G = g.H.Entrance.Door in
    let K = g.H.Dialer.Link in
    let S = g.H.Store.Disk in
    let T = g.H.Time.Clock in
    let R = g.H.Dice.Nonces in
    let told = g.E.Sink.taken c.args.errors.now in
    elim c.match-open_all.branch [
      | in-Ok w ↦
          let o = w.in-Ok.opened in
          let later = g.E.Sink.taken w.work-end.new.errors in
          let by : OpensAndWorks M G K S T R c.args.setup c.args.modes told later c.args.host.now w.work-end.new.host w.work-end.result = record {
            opened = c.open_all.new.host;
            peer = o.doors.peer;
            local = o.doors.local;
            office = o.office;
            pass = o.pass;
            opens = w.in-Ok.ensures.opens;
            works = subst (λ pulls. Works M G K S T R c.args.setup told later pulls o.doors.peer o.doors.local o.office c.open_all.new.host w.work-end.new.host w.work-end.result) c.in-Ok-Ok.ensures.pulls w.work-end.ensures.works;
          } in
          subst (λ e. Handles M G K S T R c.args.setup c.args.modes told (g.E.Sink.taken e) c.args.host.now c.match-open_all.host c.match-open_all.end) (sym w.errors-is)
          (subst (λ h. Handles M G K S T R c.args.setup c.args.modes told later c.args.host.now h c.match-open_all.end) (sym w.host-is)
          (subst (λ e. Handles M G K S T R c.args.setup c.args.modes told later c.args.host.now w.work-end.new.host e) (sym w.end-is) (inr (inr by))))
      | in-Err w ↦
          let later = g.E.Sink.taken c.match-open_all.errors in
          subst (λ h. Handles M G K S T R c.args.setup c.args.modes told later c.args.host.now h c.match-open_all.end) (sym w.host-is)
          (subst (λ e. Handles M G K S T R c.args.setup c.args.modes told later c.args.host.now c.open_all.new.host e) (sym w.end-is) (inr (inl (w.in-Err.ensures.fails, ap g.E.Sink.taken w.errors-is))))
    ]
