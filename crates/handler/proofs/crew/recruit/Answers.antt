use Rattle.std.proofs.Common.{◌≡◌, [], ◌∷◌, ◌++◌, None, length, replicate, refl, sym, ap, subst, ◌∙◌, arith, length-append}
use Rattle.handler.specs.Crews.{IsCrew, Splits, StandsAt, jobs_in, pulls_by}
use Rattle.as4_doors.specs.declared.door.DoorKind.TheVariants as door
use Rattle.workers.specs.Bounds.{door_of}
use Rattle.workers.specs.declared.job.Job.TheVariants as job
use Rattle.handler.proofs.HiringLemmas.{all_hired, as_many, doorless, four_more, hires_one, hires_then, jobs_append, jobs_together, pulls_length, replicate_length}
use Rattle.handler.proofs.crew.recruit.Goals as goal

pub hire-requires-clause-stake : goal.hire-requires-clause-stake
hire-requires-clause-stake g c =
    let pulled = c.pull.ensures.crew.2 None in
    let many = as_many g.H.Entrance.Door c.args.turns None c.args.pass.now c.pull.new.pass (pulls_by c.args.pulls.items) c.pull.ensures.crew.0 pulled in
    let taken = pulls_length c.args.pulls.items in
    let stake = pulled.splits.1 in
    omega (arith, many, taken, stake, c.requires.fresh.1, c.requires.few.0, c.requires.few.1, c.requires.few.2)

pub hire-requires-clause-list : goal.hire-requires-clause-list
hire-requires-clause-list g c =
    ap (λ p. p.list) (c.pull.ensures.crew.2 None).splits.0 ∙ c.requires.fresh.0

pub put-requires : goal.put-requires
put-requires g c =
    let pulled = c.pull.ensures.crew.2 None in
    let many = as_many g.H.Entrance.Door c.args.turns None c.args.pass.now c.pull.new.pass (pulls_by c.args.pulls.items) c.pull.ensures.crew.0 pulled in
    let taken = pulls_length c.args.pulls.items in
    let stake = pulled.splits.1 in
    let items = ap length c.pull.ensures.crew.1 in
    let none = ap length c.requires.none in
    let both = length-append c.args.crew.now.items c.pull.ensures.crew.0 in
    record { room = omega (arith, many, taken, stake, items, none, both, c.requires.room, c.pull.ensures.room, c.requires.few.0) }

pub hire-requires-2-clause-stake : goal.hire-requires-2-clause-stake
hire-requires-2-clause-stake g c =
    let pulled = c.pull.ensures.crew.2 None in
    let many = as_many g.H.Entrance.Door c.args.turns None c.args.pass.now c.pull.new.pass (pulls_by c.args.pulls.items) c.pull.ensures.crew.0 pulled in
    let taken = pulls_length c.args.pulls.items in
    let stake = pulled.splits.1 in
    omega (arith, many, taken, stake, c.hire.ensures.pass.1, c.requires.fresh.1, c.requires.few.0, c.requires.few.1, c.requires.few.2)

pub hire-requires-2-clause-list : goal.hire-requires-2-clause-list
hire-requires-2-clause-list g c =
    ap (λ p. p.list) c.hire.ensures.pass.0 ∙ ap (λ p. p.list) (c.pull.ensures.crew.2 None).splits.0 ∙ c.requires.fresh.0

pub put-requires-2 : goal.put-requires-2
put-requires-2 g c =
    let pulled = c.pull.ensures.crew.2 None in
    let many = as_many g.H.Entrance.Door c.args.turns None c.args.pass.now c.pull.new.pass (pulls_by c.args.pulls.items) c.pull.ensures.crew.0 pulled in
    let taken = pulls_length c.args.pulls.items in
    let stake = pulled.splits.1 in
    let items = ap length c.pull.ensures.crew.1 in
    let none = ap length c.requires.none in
    let both = length-append c.args.crew.now.items c.pull.ensures.crew.0 in
    let first = ap length c.put.ensures.items in
    let first_long = length-append c.pull.new.crew.items (c.hire.result ∷ []) in
    record { room = omega (arith, many, taken, stake, items, none, both, first, first_long, c.requires.room, c.pull.ensures.room, c.put.ensures.room, c.requires.few.0) }

pub share-is_whole-requires-clause-list : goal.share-is_whole-requires-clause-list
share-is_whole-requires-clause-list g c =
    ap (λ p. p.list) c.hire-2.ensures.pass.0 ∙ ap (λ p. p.list) c.hire.ensures.pass.0 ∙ ap (λ p. p.list) (c.pull.ensures.crew.2 None).splits.0 ∙ c.requires.fresh.0

pub share-is_whole-requires-clause-stake : goal.share-is_whole-requires-clause-stake
share-is_whole-requires-clause-stake g c =
    let pulled = c.pull.ensures.crew.2 None in
    let many = as_many g.H.Entrance.Door c.args.turns None c.args.pass.now c.pull.new.pass (pulls_by c.args.pulls.items) c.pull.ensures.crew.0 pulled in
    let taken = pulls_length c.args.pulls.items in
    let stake = pulled.splits.1 in
    omega (arith, many, taken, stake, c.hire.ensures.pass.1, c.hire-2.ensures.pass.1, c.requires.fresh.1, c.requires.few.0, c.requires.few.1, c.requires.few.2)

pub share-is_whole-requires-clause-room : goal.share-is_whole-requires-clause-room
share-is_whole-requires-clause-room g c =
    let pulled = c.pull.ensures.crew.2 None in
    let many = as_many g.H.Entrance.Door c.args.turns None c.args.pass.now c.pull.new.pass (pulls_by c.args.pulls.items) c.pull.ensures.crew.0 pulled in
    let taken = pulls_length c.args.pulls.items in
    let stake = pulled.splits.1 in
    let items = ap length c.pull.ensures.crew.1 in
    let none = ap length c.requires.none in
    let both = length-append c.args.crew.now.items c.pull.ensures.crew.0 in
    let first = ap length c.put.ensures.items in
    let first_long = length-append c.pull.new.crew.items (c.hire.result ∷ []) in
    let second = ap length c.put-2.ensures.items in
    let second_long = length-append c.put.new.crew.items (c.hire-2.result ∷ []) in
    omega (arith, many, taken, stake, items, none, both, first, first_long, second, second_long, c.requires.room, c.pull.ensures.room, c.put.ensures.room, c.put-2.ensures.room, c.requires.fresh.1, c.requires.few.0, c.requires.few.1, c.requires.few.2)

pub hire-requires-3-clause-stake : goal.hire-requires-3-clause-stake
hire-requires-3-clause-stake g c =
    let pulled = c.pull.ensures.crew.2 None in
    let many = as_many g.H.Entrance.Door c.args.turns None c.args.pass.now c.pull.new.pass (pulls_by c.args.pulls.items) c.pull.ensures.crew.0 pulled in
    let taken = pulls_length c.args.pulls.items in
    let stake = pulled.splits.1 in
    let shares = c.share-is_whole.ensures.crew in
    let peers = g.H.Entrance.Door.guests c.args.doors.peer in
    let more = as_many g.H.Entrance.Door c.args.turns peers c.hire-2.new.pass c.share-is_whole.new.pass (replicate shares.0 job.Peer) shares.1 shares.3 in
    let hired = replicate_length shares.0 job.Peer in
    omega (arith, many, taken, stake, c.hire.ensures.pass.1, c.hire-2.ensures.pass.1, more, hired, shares.3.splits.1, shares.4, c.requires.fresh.1, c.requires.few.0, c.requires.few.1, c.requires.few.2)

pub hire-requires-3-clause-list : goal.hire-requires-3-clause-list
hire-requires-3-clause-list g c =
    ap (λ p. p.list) c.share-is_whole.ensures.crew.3.splits.0 ∙ ap (λ p. p.list) c.hire-2.ensures.pass.0 ∙ ap (λ p. p.list) c.hire.ensures.pass.0 ∙ ap (λ p. p.list) (c.pull.ensures.crew.2 None).splits.0 ∙ c.requires.fresh.0

pub put-requires-3 : goal.put-requires-3
put-requires-3 g c =
    let pulled = c.pull.ensures.crew.2 None in
    let many = as_many g.H.Entrance.Door c.args.turns None c.args.pass.now c.pull.new.pass (pulls_by c.args.pulls.items) c.pull.ensures.crew.0 pulled in
    let taken = pulls_length c.args.pulls.items in
    let stake = pulled.splits.1 in
    let items = ap length c.pull.ensures.crew.1 in
    let none = ap length c.requires.none in
    let both = length-append c.args.crew.now.items c.pull.ensures.crew.0 in
    let first = ap length c.put.ensures.items in
    let first_long = length-append c.pull.new.crew.items (c.hire.result ∷ []) in
    let second = ap length c.put-2.ensures.items in
    let second_long = length-append c.put.new.crew.items (c.hire-2.result ∷ []) in
    let shares = c.share-is_whole.ensures.crew in
    let peers = g.H.Entrance.Door.guests c.args.doors.peer in
    let more = as_many g.H.Entrance.Door c.args.turns peers c.hire-2.new.pass c.share-is_whole.new.pass (replicate shares.0 job.Peer) shares.1 shares.3 in
    let hired = replicate_length shares.0 job.Peer in
    let third = ap length shares.2 in
    let third_long = length-append c.put-2.new.crew.items shares.1 in
    record { room = omega (arith, many, taken, stake, items, none, both, first, first_long, second, second_long, third, third_long, more, hired, shares.4, c.requires.room, c.pull.ensures.room, c.put.ensures.room, c.put-2.ensures.room, c.share-is_whole.ensures.room, c.requires.fresh.1, c.requires.few.0, c.requires.few.1, c.requires.few.2) }

pub hire-requires-4-clause-stake : goal.hire-requires-4-clause-stake
hire-requires-4-clause-stake g c =
    let pulled = c.pull.ensures.crew.2 None in
    let many = as_many g.H.Entrance.Door c.args.turns None c.args.pass.now c.pull.new.pass (pulls_by c.args.pulls.items) c.pull.ensures.crew.0 pulled in
    let taken = pulls_length c.args.pulls.items in
    let stake = pulled.splits.1 in
    let shares = c.share-is_whole.ensures.crew in
    let peers = g.H.Entrance.Door.guests c.args.doors.peer in
    let more = as_many g.H.Entrance.Door c.args.turns peers c.hire-2.new.pass c.share-is_whole.new.pass (replicate shares.0 job.Peer) shares.1 shares.3 in
    let hired = replicate_length shares.0 job.Peer in
    omega (arith, many, taken, stake, c.hire.ensures.pass.1, c.hire-2.ensures.pass.1, more, hired, shares.3.splits.1, shares.4, c.hire-3.ensures.pass.1, c.requires.fresh.1, c.requires.few.0, c.requires.few.1, c.requires.few.2)

pub hire-requires-4-clause-list : goal.hire-requires-4-clause-list
hire-requires-4-clause-list g c =
    ap (λ p. p.list) c.hire-3.ensures.pass.0 ∙ ap (λ p. p.list) c.share-is_whole.ensures.crew.3.splits.0 ∙ ap (λ p. p.list) c.hire-2.ensures.pass.0 ∙ ap (λ p. p.list) c.hire.ensures.pass.0 ∙ ap (λ p. p.list) (c.pull.ensures.crew.2 None).splits.0 ∙ c.requires.fresh.0

pub put-requires-4 : goal.put-requires-4
put-requires-4 g c =
    let pulled = c.pull.ensures.crew.2 None in
    let many = as_many g.H.Entrance.Door c.args.turns None c.args.pass.now c.pull.new.pass (pulls_by c.args.pulls.items) c.pull.ensures.crew.0 pulled in
    let taken = pulls_length c.args.pulls.items in
    let stake = pulled.splits.1 in
    let items = ap length c.pull.ensures.crew.1 in
    let none = ap length c.requires.none in
    let both = length-append c.args.crew.now.items c.pull.ensures.crew.0 in
    let first = ap length c.put.ensures.items in
    let first_long = length-append c.pull.new.crew.items (c.hire.result ∷ []) in
    let second = ap length c.put-2.ensures.items in
    let second_long = length-append c.put.new.crew.items (c.hire-2.result ∷ []) in
    let shares = c.share-is_whole.ensures.crew in
    let peers = g.H.Entrance.Door.guests c.args.doors.peer in
    let more = as_many g.H.Entrance.Door c.args.turns peers c.hire-2.new.pass c.share-is_whole.new.pass (replicate shares.0 job.Peer) shares.1 shares.3 in
    let hired = replicate_length shares.0 job.Peer in
    let third = ap length shares.2 in
    let third_long = length-append c.put-2.new.crew.items shares.1 in
    let fourth = ap length c.put-3.ensures.items in
    let fourth_long = length-append c.share-is_whole.new.crew.items (c.hire-3.result ∷ []) in
    record { room = omega (arith, many, taken, stake, fourth, fourth_long, c.put-3.ensures.room, items, none, both, first, first_long, second, second_long, third, third_long, more, hired, shares.4, c.requires.room, c.pull.ensures.room, c.put.ensures.room, c.put-2.ensures.room, c.share-is_whole.ensures.room, c.requires.fresh.1, c.requires.few.0, c.requires.few.1, c.requires.few.2) }

pub returns-clause-crew : goal.returns-clause-crew
returns-clause-crew g c =
    let G = g.H.Entrance.Door in
    let turns = c.args.turns in
    let peers = G.guests c.args.doors.peer in
    let locals = G.guests c.args.doors.local in
    let pulled = c.pull.ensures.crew in
    let shares = c.share-is_whole.ensures.crew in
    let push = c.hire.result in
    let tick = c.hire-2.result in
    let local = c.hire-3.result in
    let peer = c.hire-4.result in
    let first = hires_then G turns peers c.args.pass.now c.pull.new.pass c.hire.new.pass (pulls_by c.args.pulls.items) (job.Push ∷ []) pulled.0 (push ∷ []) (pulled.2 peers)
    (hires_one G turns peers c.pull.new.pass c.hire.new.pass job.Push push c.hire.ensures.hired c.hire.ensures.job (doorless G peers push job.Push c.hire.ensures.job refl c.hire.ensures.door) c.hire.ensures.pass) in
    let second = hires_then G turns peers c.args.pass.now c.hire.new.pass c.hire-2.new.pass (pulls_by c.args.pulls.items ++ job.Push ∷ []) (job.Tick ∷ []) (pulled.0 ++ push ∷ []) (tick ∷ []) first
    (hires_one G turns peers c.hire.new.pass c.hire-2.new.pass job.Tick tick c.hire-2.ensures.hired c.hire-2.ensures.job (doorless G peers tick job.Tick c.hire-2.ensures.job refl c.hire-2.ensures.door) c.hire-2.ensures.pass) in
    let third = hires_then G turns peers c.args.pass.now c.hire-2.new.pass c.share-is_whole.new.pass ((pulls_by c.args.pulls.items ++ job.Push ∷ []) ++ job.Tick ∷ []) (replicate shares.0 job.Peer)
    ((pulled.0 ++ push ∷ []) ++ tick ∷ []) shares.1 second shares.3 in
    let others = ((pulled.0 ++ push ∷ []) ++ tick ∷ []) ++ shares.1 in
    let at_local : StandsAt G door.Local locals local = record { at = ap door_of c.hire-3.ensures.job; door = c.args.doors.local; is = c.hire-3.ensures.door; guests_are = refl; is_new = c.requires.new.1 } in
    let at_peer : StandsAt G door.Peer peers peer = record { at = ap door_of c.hire-4.ensures.job; door = c.args.doors.peer; is = c.hire-4.ensures.door; guests_are = refl; is_new = c.requires.new.0 } in
    let all = all_hired G turns peers locals c.args.pass.now c.share-is_whole.new.pass c.hire-3.new.pass c.hire-4.new.pass
    (((pulls_by c.args.pulls.items ++ job.Push ∷ []) ++ job.Tick ∷ []) ++ replicate shares.0 job.Peer) others local peer third c.hire-3.ensures.hired c.hire-4.ensures.hired c.hire-3.ensures.pass c.hire-4.ensures.pass at_local at_peer in
    let pulled_are : c.pull.new.crew.items ≡ pulled.0 = pulled.1 ∙ ap (λ l. l ++ pulled.0) c.requires.none in
    let are : c.put-4.new.crew.items ≡ others ++ local ∷ peer ∷ [] =
    four_more pulled.0 shares.1 c.pull.new.crew.items c.put.new.crew.items c.put-2.new.crew.items c.share-is_whole.new.crew.items c.put-3.new.crew.items c.put-4.new.crew.items push tick local peer
    pulled_are c.put.ensures.items c.put-2.ensures.items shares.2 c.put-3.ensures.items c.put-4.ensures.items in
    subst (λ l. IsCrew G c.args.pass.now.book turns peers locals l) (sym are) all.0

pub returns-clause-whole : goal.returns-clause-whole
returns-clause-whole g c =
    let G = g.H.Entrance.Door in
    let turns = c.args.turns in
    let peers = G.guests c.args.doors.peer in
    let locals = G.guests c.args.doors.local in
    let pulled = c.pull.ensures.crew in
    let shares = c.share-is_whole.ensures.crew in
    let push = c.hire.result in
    let tick = c.hire-2.result in
    let local = c.hire-3.result in
    let peer = c.hire-4.result in
    let first = hires_then G turns peers c.args.pass.now c.pull.new.pass c.hire.new.pass (pulls_by c.args.pulls.items) (job.Push ∷ []) pulled.0 (push ∷ []) (pulled.2 peers)
    (hires_one G turns peers c.pull.new.pass c.hire.new.pass job.Push push c.hire.ensures.hired c.hire.ensures.job (doorless G peers push job.Push c.hire.ensures.job refl c.hire.ensures.door) c.hire.ensures.pass) in
    let second = hires_then G turns peers c.args.pass.now c.hire.new.pass c.hire-2.new.pass (pulls_by c.args.pulls.items ++ job.Push ∷ []) (job.Tick ∷ []) (pulled.0 ++ push ∷ []) (tick ∷ []) first
    (hires_one G turns peers c.hire.new.pass c.hire-2.new.pass job.Tick tick c.hire-2.ensures.hired c.hire-2.ensures.job (doorless G peers tick job.Tick c.hire-2.ensures.job refl c.hire-2.ensures.door) c.hire-2.ensures.pass) in
    let third = hires_then G turns peers c.args.pass.now c.hire-2.new.pass c.share-is_whole.new.pass ((pulls_by c.args.pulls.items ++ job.Push ∷ []) ++ job.Tick ∷ []) (replicate shares.0 job.Peer)
    ((pulled.0 ++ push ∷ []) ++ tick ∷ []) shares.1 second shares.3 in
    let others = ((pulled.0 ++ push ∷ []) ++ tick ∷ []) ++ shares.1 in
    let at_local : StandsAt G door.Local locals local = record { at = ap door_of c.hire-3.ensures.job; door = c.args.doors.local; is = c.hire-3.ensures.door; guests_are = refl; is_new = c.requires.new.1 } in
    let at_peer : StandsAt G door.Peer peers peer = record { at = ap door_of c.hire-4.ensures.job; door = c.args.doors.peer; is = c.hire-4.ensures.door; guests_are = refl; is_new = c.requires.new.0 } in
    let all = all_hired G turns peers locals c.args.pass.now c.share-is_whole.new.pass c.hire-3.new.pass c.hire-4.new.pass
    (((pulls_by c.args.pulls.items ++ job.Push ∷ []) ++ job.Tick ∷ []) ++ replicate shares.0 job.Peer) others local peer third c.hire-3.ensures.hired c.hire-4.ensures.hired c.hire-3.ensures.pass c.hire-4.ensures.pass at_local at_peer in
    let pulled_are : c.pull.new.crew.items ≡ pulled.0 = pulled.1 ∙ ap (λ l. l ++ pulled.0) c.requires.none in
    let are : c.put-4.new.crew.items ≡ others ++ local ∷ peer ∷ [] =
    four_more pulled.0 shares.1 c.pull.new.crew.items c.put.new.crew.items c.put-2.new.crew.items c.share-is_whole.new.crew.items c.put-3.new.crew.items c.put-4.new.crew.items push tick local peer
    pulled_are c.put.ensures.items c.put-2.ensures.items shares.2 c.put-3.ensures.items c.put-4.ensures.items in
    λ is.
    ap jobs_in are ∙ jobs_append others (local ∷ peer ∷ []) ∙ ap (λ l. l ++ jobs_in (local ∷ peer ∷ [])) third.jobs_are
    ∙ jobs_together c.args.pulls.items shares.0 c.args.peers local peer c.hire-3.ensures.job c.hire-4.ensures.job (shares.5 is)

pub returns-clause-many : goal.returns-clause-many
returns-clause-many g c =
    let G = g.H.Entrance.Door in
    let turns = c.args.turns in
    let peers = G.guests c.args.doors.peer in
    let locals = G.guests c.args.doors.local in
    let pulled = c.pull.ensures.crew in
    let shares = c.share-is_whole.ensures.crew in
    let push = c.hire.result in
    let tick = c.hire-2.result in
    let local = c.hire-3.result in
    let peer = c.hire-4.result in
    let first = hires_then G turns peers c.args.pass.now c.pull.new.pass c.hire.new.pass (pulls_by c.args.pulls.items) (job.Push ∷ []) pulled.0 (push ∷ []) (pulled.2 peers)
    (hires_one G turns peers c.pull.new.pass c.hire.new.pass job.Push push c.hire.ensures.hired c.hire.ensures.job (doorless G peers push job.Push c.hire.ensures.job refl c.hire.ensures.door) c.hire.ensures.pass) in
    let second = hires_then G turns peers c.args.pass.now c.hire.new.pass c.hire-2.new.pass (pulls_by c.args.pulls.items ++ job.Push ∷ []) (job.Tick ∷ []) (pulled.0 ++ push ∷ []) (tick ∷ []) first
    (hires_one G turns peers c.hire.new.pass c.hire-2.new.pass job.Tick tick c.hire-2.ensures.hired c.hire-2.ensures.job (doorless G peers tick job.Tick c.hire-2.ensures.job refl c.hire-2.ensures.door) c.hire-2.ensures.pass) in
    let third = hires_then G turns peers c.args.pass.now c.hire-2.new.pass c.share-is_whole.new.pass ((pulls_by c.args.pulls.items ++ job.Push ∷ []) ++ job.Tick ∷ []) (replicate shares.0 job.Peer)
    ((pulled.0 ++ push ∷ []) ++ tick ∷ []) shares.1 second shares.3 in
    let others = ((pulled.0 ++ push ∷ []) ++ tick ∷ []) ++ shares.1 in
    let at_local : StandsAt G door.Local locals local = record { at = ap door_of c.hire-3.ensures.job; door = c.args.doors.local; is = c.hire-3.ensures.door; guests_are = refl; is_new = c.requires.new.1 } in
    let at_peer : StandsAt G door.Peer peers peer = record { at = ap door_of c.hire-4.ensures.job; door = c.args.doors.peer; is = c.hire-4.ensures.door; guests_are = refl; is_new = c.requires.new.0 } in
    let all = all_hired G turns peers locals c.args.pass.now c.share-is_whole.new.pass c.hire-3.new.pass c.hire-4.new.pass
    (((pulls_by c.args.pulls.items ++ job.Push ∷ []) ++ job.Tick ∷ []) ++ replicate shares.0 job.Peer) others local peer third c.hire-3.ensures.hired c.hire-4.ensures.hired c.hire-3.ensures.pass c.hire-4.ensures.pass at_local at_peer in
    let pulled_are : c.pull.new.crew.items ≡ pulled.0 = pulled.1 ∙ ap (λ l. l ++ pulled.0) c.requires.none in
    let are : c.put-4.new.crew.items ≡ others ++ local ∷ peer ∷ [] =
    four_more pulled.0 shares.1 c.pull.new.crew.items c.put.new.crew.items c.put-2.new.crew.items c.share-is_whole.new.crew.items c.put-3.new.crew.items c.put-4.new.crew.items push tick local peer
    pulled_are c.put.ensures.items c.put-2.ensures.items shares.2 c.put-3.ensures.items c.put-4.ensures.items in
    let long = ap length are in
    let split = length-append others (local ∷ peer ∷ []) in
    let count = as_many G turns peers c.args.pass.now c.share-is_whole.new.pass (((pulls_by c.args.pulls.items ++ job.Push ∷ []) ++ job.Tick ∷ []) ++ replicate shares.0 job.Peer) others third in
    let one = length-append ((pulls_by c.args.pulls.items ++ job.Push ∷ []) ++ job.Tick ∷ []) (replicate shares.0 job.Peer) in
    let two = length-append (pulls_by c.args.pulls.items ++ job.Push ∷ []) (job.Tick ∷ []) in
    let three = length-append (pulls_by c.args.pulls.items) (job.Push ∷ []) in
    omega (arith, long, split, count, one, two, three, pulls_length c.args.pulls.items, replicate_length shares.0 job.Peer, shares.4, c.requires.few.0, c.requires.few.1, c.requires.few.2)

pub returns-clause-pass : goal.returns-clause-pass
returns-clause-pass g c =
    let G = g.H.Entrance.Door in
    let turns = c.args.turns in
    let peers = G.guests c.args.doors.peer in
    let locals = G.guests c.args.doors.local in
    let pulled = c.pull.ensures.crew in
    let shares = c.share-is_whole.ensures.crew in
    let push = c.hire.result in
    let tick = c.hire-2.result in
    let local = c.hire-3.result in
    let peer = c.hire-4.result in
    let first = hires_then G turns peers c.args.pass.now c.pull.new.pass c.hire.new.pass (pulls_by c.args.pulls.items) (job.Push ∷ []) pulled.0 (push ∷ []) (pulled.2 peers)
    (hires_one G turns peers c.pull.new.pass c.hire.new.pass job.Push push c.hire.ensures.hired c.hire.ensures.job (doorless G peers push job.Push c.hire.ensures.job refl c.hire.ensures.door) c.hire.ensures.pass) in
    let second = hires_then G turns peers c.args.pass.now c.hire.new.pass c.hire-2.new.pass (pulls_by c.args.pulls.items ++ job.Push ∷ []) (job.Tick ∷ []) (pulled.0 ++ push ∷ []) (tick ∷ []) first
    (hires_one G turns peers c.hire.new.pass c.hire-2.new.pass job.Tick tick c.hire-2.ensures.hired c.hire-2.ensures.job (doorless G peers tick job.Tick c.hire-2.ensures.job refl c.hire-2.ensures.door) c.hire-2.ensures.pass) in
    let third = hires_then G turns peers c.args.pass.now c.hire-2.new.pass c.share-is_whole.new.pass ((pulls_by c.args.pulls.items ++ job.Push ∷ []) ++ job.Tick ∷ []) (replicate shares.0 job.Peer)
    ((pulled.0 ++ push ∷ []) ++ tick ∷ []) shares.1 second shares.3 in
    let others = ((pulled.0 ++ push ∷ []) ++ tick ∷ []) ++ shares.1 in
    let at_local : StandsAt G door.Local locals local = record { at = ap door_of c.hire-3.ensures.job; door = c.args.doors.local; is = c.hire-3.ensures.door; guests_are = refl; is_new = c.requires.new.1 } in
    let at_peer : StandsAt G door.Peer peers peer = record { at = ap door_of c.hire-4.ensures.job; door = c.args.doors.peer; is = c.hire-4.ensures.door; guests_are = refl; is_new = c.requires.new.0 } in
    let all = all_hired G turns peers locals c.args.pass.now c.share-is_whole.new.pass c.hire-3.new.pass c.hire-4.new.pass
    (((pulls_by c.args.pulls.items ++ job.Push ∷ []) ++ job.Tick ∷ []) ++ replicate shares.0 job.Peer) others local peer third c.hire-3.ensures.hired c.hire-4.ensures.hired c.hire-3.ensures.pass c.hire-4.ensures.pass at_local at_peer in
    let pulled_are : c.pull.new.crew.items ≡ pulled.0 = pulled.1 ∙ ap (λ l. l ++ pulled.0) c.requires.none in
    let are : c.put-4.new.crew.items ≡ others ++ local ∷ peer ∷ [] =
    four_more pulled.0 shares.1 c.pull.new.crew.items c.put.new.crew.items c.put-2.new.crew.items c.share-is_whole.new.crew.items c.put-3.new.crew.items c.put-4.new.crew.items push tick local peer
    pulled_are c.put.ensures.items c.put-2.ensures.items shares.2 c.put-3.ensures.items c.put-4.ensures.items in
    subst (λ l. Splits (length l) c.args.pass.now c.hire-4.new.pass) (sym are) all.1
