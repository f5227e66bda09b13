use Rattle.std.proofs.Common.{◌≡◌, ◌≤◌, [], ◌∷◌, ◌++◌, length, replicate, vec_capacity, sym, ap, subst, ◌∙◌, append-nil, append_assoc, length-append, arith}
use Rattle.handler.specs.Crews.{HiresAside}
use Rattle.workers.specs.declared.job.Job.TheVariants as job
use Rattle.handler.proofs.HiringLemmas.{as_many, hires_none, hires_one, hires_then, replicate_length, replicate_more, stands_aside}
use Rattle.handler.proofs.HostLemmas.{still_none, still_then}
use Rattle.handler.proofs.crew.share.Goals as goal

pub loop-init : goal.loop-init
loop-init g c =
    let less : vec_capacity c.args.crew.now ≤ vec_capacity c.args.crew.now = omega arith in
    (still_none g.H.Host c.args.host.now, less, ([], sym (append-nil c.args.crew.now.items), hires_none g.H.Entrance.Door c.args.turns (g.H.Entrance.Door.guests c.args.peer.now) c.args.pass.now))

pub returns-in_default-clause-host : goal.returns-in_default-clause-host
returns-in_default-clause-host g c = c.loop.invariant.0

pub returns-in_default-clause-room : goal.returns-in_default-clause-room
returns-in_default-clause-room g c = c.loop.invariant.1

pub returns-in_default-clause-crew : goal.returns-in_default-clause-crew
returns-in_default-clause-crew g c =
    let within : c.loop.counter ≤ c.args.count = omega (arith, c.loop-test.true) in
    (c.loop.counter, c.loop.invariant.2.0, c.loop.invariant.2.1, c.loop.invariant.2.2, within, λ wrong. absurd cc)

pub hire-requires-clause-stake : goal.hire-requires-clause-stake
hire-requires-clause-stake g c =
    let at = c.loop in
    let hires = at.invariant.2.2 in
    let many = as_many g.H.Entrance.Door c.args.turns (g.H.Entrance.Door.guests c.args.peer.now) c.args.pass.now at.pass (replicate at.counter job.Peer) at.invariant.2.0 hires in
    omega (arith, many, replicate_length at.counter job.Peer, hires.splits.1, c.requires.stake, c.loop-test.true)

pub hire-requires-clause-list : goal.hire-requires-clause-list
hire-requires-clause-list g c = ap (λ p. p.list) c.loop.invariant.2.2.splits.0 ∙ c.requires.list

pub put-requires : goal.put-requires
put-requires g c =
    let at = c.loop in
    let hires = at.invariant.2.2 in
    let many = as_many g.H.Entrance.Door c.args.turns (g.H.Entrance.Door.guests c.args.peer.now) c.args.pass.now at.pass (replicate at.counter job.Peer) at.invariant.2.0 hires in
    let items = ap length at.invariant.2.1 in
    let both = length-append c.args.crew.now.items at.invariant.2.0 in
    record { room = omega (arith, many, replicate_length at.counter job.Peer, items, both, at.invariant.1, c.requires.room, c.loop-test.true) }

pub loop-preserved : goal.loop-preserved
loop-preserved g c =
    let at = c.loop in
    let G = g.H.Entrance.Door in
    let peers = g.H.Entrance.Door.guests c.args.peer.now in
    let more = at.invariant.2.0 in
    let w = c.hire.result in (
      still_then g.H.Host c.args.host.now at.host c.hire.new.host at.invariant.0 c.hire.ensures.host,
      omega (arith, at.invariant.1, c.put.ensures.room),
      (
        more ++ w ∷ [],
        c.put.ensures.items ∙ ap (λ l. l ++ w ∷ []) at.invariant.2.1 ∙ append_assoc c.args.crew.now.items more (w ∷ []),
        subst (λ jobs. HiresAside G c.args.turns peers c.args.pass.now c.hire.new.pass jobs (more ++ w ∷ [])) (sym (replicate_more at.counter job.Peer))
            (hires_then G c.args.turns peers c.args.pass.now at.pass c.hire.new.pass (replicate at.counter job.Peer) (job.Peer ∷ []) more (w ∷ []) at.invariant.2.2
            (hires_one G c.args.turns peers at.pass c.hire.new.pass job.Peer w c.hire.ensures.hired c.hire.ensures.job
            (stands_aside G peers w c.in-Ok.door c.hire.ensures.job c.hire.ensures.door c.in-Ok.ensures.guests c.in-Ok.ensures.counts) c.hire.ensures.pass)),
      ),
    )

pub returns-clause-host : goal.returns-clause-host
returns-clause-host g c = c.loop.invariant.0

pub returns-clause-room : goal.returns-clause-room
returns-clause-room g c = c.loop.invariant.1

pub returns-clause-crew : goal.returns-clause-crew
returns-clause-crew g c =
    let all : c.loop.counter ≡ c.args.count = omega (arith, c.loop-test.false, c.loop.auto.counter-end) in
    let within : c.loop.counter ≤ c.args.count = omega (arith, all) in
    (c.loop.counter, c.loop.invariant.2.0, c.loop.invariant.2.1, c.loop.invariant.2.2, within, λ is. all)
