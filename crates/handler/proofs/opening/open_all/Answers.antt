use Rattle.std.proofs.Common.{◌∷◌, [], Contains, ap, ◌∙◌}
use Rattle.std.proofs.lemmas.List.Elements.{All-head, All-tail}
use Rattle.as4_host.specs.Files.{bytes_in}
use Rattle.handler.specs.Dismissal.{SettlesDoor}
use Rattle.handler.specs.Hosts.{doors_of, file_of, words_of}
use Rattle.handler.proofs.DismissalLemmas.{settled_touches}
use Rattle.handler.proofs.GuestLemmas.{door_back}
use Rattle.handler.proofs.HostLemmas.{knows_on, knows_same, touches_then}
use Rattle.handler.proofs.OpeningLemmas.{doors_touches, fails_around, store_touches}
use Rattle.handler.proofs.opening.open_all.Goals as goal

-- src/opening.rt:57:13
pub settle_door-requires : goal.settle_door-requires
settle_door-requires g c =
    let setup = c.args.setup in
    let knows = knows_on g.H.Host (doors_of setup) (words_of setup) c.open_doors.new.host c.open_office.new.host c.in-Err-open_office.ensures.fails.touches.asks c.in-Ok.ensures.names in
    λ v is. All-head (Contains v) setup.local.now [] (All-tail (Contains v) setup.peer.now (setup.local.now ∷ []) (knows v is))

-- src/opening.rt:58:13
pub settle_door-requires-in-Err-open_office : goal.settle_door-requires-in-Err-open_office
settle_door-requires-in-Err-open_office g c =
    let setup = c.args.setup in
    let knows = knows_on g.H.Host (doors_of setup) (words_of setup) c.open_doors.new.host c.open_office.new.host c.in-Err-open_office.ensures.fails.touches.asks c.in-Ok.ensures.names in
    let later = knows_same g.H.Host (doors_of setup) c.open_office.new.host c.settle_door.new.self c.settle_door.ensures.others.0 knows in
    λ v is. All-head (Contains v) setup.peer.now (setup.local.now ∷ []) (later v is)

-- src/opening.rt:29:1
pub returns-in-Ok-open_office-clause-names : goal.returns-in-Ok-open_office-clause-names
returns-in-Ok-open_office-clause-names g c =
    let setup = c.args.setup in
    let o = c.in-Ok-open_office.ensures in (
      knows_on g.H.Host (doors_of setup) (words_of setup) c.open_doors.new.host c.open_office.new.host
          (store_touches g.H.Host setup g.H.Store.Disk c.open_doors.new.host c.open_office.new.host o.opens.disk o.opens.store).asks c.in-Ok.ensures.names,
      o.names,
    )

-- src/opening.rt:29:1
pub returns-in-Err-open_office-clause-fails : goal.returns-in-Err-open_office-clause-fails
returns-in-Err-open_office-clause-fails g c =
    let setup = c.args.setup in
    let M = g.H.Host in
    let G = g.H.Entrance.Door in
    let K = g.H.Dialer.Link in
    let doors = c.in-Ok.ensures.opens in
    let fails = c.in-Err-open_office.ensures.fails in
    let between = c.settle_door.new.self in
    let new = c.settle_door-in-Err-open_office.new.self in
    let l = c.settle_door.ensures in
    let p = c.settle_door-in-Err-open_office.ensures in
    let at_local : SettlesDoor M G K setup.local.now c.in-Ok.doors.local c.open_office.new.host between =
    record { left = l.left; guests = l.guests; faults = l.faults; reads = l.reads; writes = l.writes; counted = l.counted; files = l.files; names = l.others.0 } in
    let at_peer : SettlesDoor M G K setup.peer.now c.in-Ok.doors.peer between new =
    record { left = p.left; guests = p.guests; faults = p.faults; reads = p.reads; writes = p.writes; counted = p.counted; files = p.files; names = p.others.0 } in
    fails_around M setup c.args.host.now c.open_doors.new.host c.open_office.new.host new c.in-Err-open_office.end
    (doors_touches M setup G c.args.host.now c.open_doors.new.host c.in-Ok.doors.peer c.in-Ok.doors.local doors)
    (λ q. ap bytes_in (doors.at_local.files (file_of setup.journal.now q) ∙ doors.at_peer.files (file_of setup.journal.now q)))
    fails
    (touches_then M setup c.open_office.new.host between new
    (settled_touches M G K setup setup.local.now c.in-Ok.doors.local c.open_office.new.host between (λ a not_peer not_local. not_local) at_local)
    (settled_touches M G K setup setup.peer.now c.in-Ok.doors.peer between new (λ a not_peer not_local. not_peer) at_peer))
    (λ q. ap bytes_in (p.files (file_of setup.journal.now q) ∙ l.files (file_of setup.journal.now q)))
    (door_back M G K setup.peer.now c.args.host.now doors.first between new c.in-Ok.doors.peer doors.at_peer
    (door_back M G K setup.local.now doors.first c.open_doors.new.host c.open_office.new.host between c.in-Ok.doors.local doors.at_local fails.guests at_local) at_peer)
