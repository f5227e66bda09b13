use Rattle.std.proofs.Common.{◌∷◌, [], Contains, refl, ap}
use Rattle.std.proofs.lemmas.List.Elements.{All-cons, All-head, All-nil}
use Rattle.as4_host.specs.Files.{bytes_in}
use Rattle.handler.specs.Dismissal.{SettlesDoor}
use Rattle.handler.specs.Endings.{end_by}
use Rattle.handler.specs.Hosts.{file_of, words_of}
use Rattle.handler.specs.Opening.{OpensDoor}
use Rattle.handler.proofs.DismissalLemmas.{settled_touches}
use Rattle.handler.proofs.GuestLemmas.{door_back, each_address}
use Rattle.handler.proofs.HostLemmas.{knows_asked, knows_on}
use Rattle.handler.proofs.OpeningLemmas.{door_touches, fails_around, fails_refused, has_local, has_peer}
use Rattle.handler.proofs.opening.open_doors.Goals as goal

-- src/opening.rt:72:25
pub returns-in-Err-clause-fails : goal.returns-in-Err-clause-fails
returns-in-Err-clause-fails g c =
    let e = c.in-Err.ensures in
    let words = words_of c.args.setup in
    fails_refused g.H.Host c.args.setup g.row.H-Entrance.Denot (c.args.setup.peer.now ∷ []) c.args.host.now c.open_door.new.self c.in-Err.refusal c.refused.result
    (All-cons (Contains words) c.args.setup.peer.now [] (has_peer c.args.setup) (All-nil (Contains words))) c.refused.ensures e.names e.cause e.others.3 e.others.4
    (λ p away. e.files p) (λ q. ap bytes_in (e.files (file_of c.args.setup.journal.now q))) (each_address g.H.Host c.args.setup.peer.now c.args.host.now c.open_door.new.self e.refused e.guests)

-- src/opening.rt:77:13
pub settle_door-requires : goal.settle_door-requires
settle_door-requires g c =
    let first = c.in-Ok.ensures in
    let e = c.in-Err-open_door.ensures in
    let setup = c.args.setup in
    let words = words_of setup in
    let fails = fails_refused g.H.Host setup g.row.H-Entrance.Denot (setup.local.now ∷ []) c.open_door.new.self c.open_door-2.new.self c.in-Err-open_door.refusal (end_by c.in-Err-open_door.refusal)
    (All-cons (Contains words) setup.local.now [] (has_local setup) (All-nil (Contains words))) refl e.names e.cause e.others.3 e.others.4
    (λ p away. e.files p) (λ q. ap bytes_in (e.files (file_of setup.journal.now q))) (each_address g.H.Host setup.local.now c.open_door.new.self c.open_door-2.new.self e.refused e.guests) in
    let knows = knows_on g.H.Host (setup.peer.now ∷ []) words c.open_door.new.self c.open_door-2.new.self fails.touches.asks
    (knows_asked g.H.Host (setup.peer.now ∷ []) c.args.host.now c.open_door.new.self first.names) in
    λ v is. All-head (Contains v) setup.peer.now [] (knows v is)

-- src/opening.rt:65:1
pub returns-in-Ok-open_door-clause-opens : goal.returns-in-Ok-open_door-clause-opens
returns-in-Ok-open_door-clause-opens g c =
    let p = c.in-Ok.ensures in
    let l = c.in-Ok-open_door.ensures in record {
      first = c.open_door.new.self;
      at_peer = record { is_new = p.counts; guests_are = p.opens; taken = p.taken; guests = p.guests; names = p.names; files = p.files; faults = p.cause; reads = p.others.3; writes = p.others.4 };
      at_local = record { is_new = l.counts; guests_are = l.opens; taken = l.taken; guests = l.guests; names = l.names; files = l.files; faults = l.cause; reads = l.others.3; writes = l.others.4 };
    }

-- src/opening.rt:65:1
pub returns-in-Ok-open_door-clause-names : goal.returns-in-Ok-open_door-clause-names
returns-in-Ok-open_door-clause-names g c =
    let l = c.in-Ok-open_door.ensures in
    let setup = c.args.setup in
    let at_local : OpensDoor g.H.Host g.H.Entrance.Door setup.local.now c.open_door.new.self c.open_door-2.new.self c.in-Ok-open_door.local =
    record { is_new = l.counts; guests_are = l.opens; taken = l.taken; guests = l.guests; names = l.names; files = l.files; faults = l.cause; reads = l.others.3; writes = l.others.4 } in
    let touches = door_touches g.H.Host setup g.H.Entrance.Door setup.local.now c.open_door.new.self c.open_door-2.new.self c.in-Ok-open_door.local (has_local setup) (λ a not_peer not_local. not_local) at_local in
    let knows_peer = knows_on g.H.Host (setup.peer.now ∷ []) (words_of setup) c.open_door.new.self c.open_door-2.new.self touches.asks
    (knows_asked g.H.Host (setup.peer.now ∷ []) c.args.host.now c.open_door.new.self c.in-Ok.ensures.names) in
    let knows_local = knows_asked g.H.Host (setup.local.now ∷ []) c.open_door.new.self c.open_door-2.new.self l.names in
    λ v is. All-cons (Contains v) setup.peer.now (setup.local.now ∷ []) (All-head (Contains v) setup.peer.now [] (knows_peer v is)) (knows_local v is)

-- src/opening.rt:65:1
pub returns-in-Err-open_door-clause-fails : goal.returns-in-Err-open_door-clause-fails
returns-in-Err-open_door-clause-fails g c =
    let p = c.in-Ok.ensures in
    let e = c.in-Err-open_door.ensures in
    let s = c.settle_door.ensures in
    let setup = c.args.setup in
    let words = words_of setup in
    let at_peer : OpensDoor g.H.Host g.H.Entrance.Door setup.peer.now c.args.host.now c.open_door.new.self c.in-Ok.peer =
    record { is_new = p.counts; guests_are = p.opens; taken = p.taken; guests = p.guests; names = p.names; files = p.files; faults = p.cause; reads = p.others.3; writes = p.others.4 } in
    let still = each_address g.H.Host setup.local.now c.open_door.new.self c.open_door-2.new.self e.refused e.guests in
    let fails = fails_refused g.H.Host setup g.row.H-Entrance.Denot (setup.local.now ∷ []) c.open_door.new.self c.open_door-2.new.self c.in-Err-open_door.refusal c.refused-in-Err-open_door.result
    (All-cons (Contains words) setup.local.now [] (has_local setup) (All-nil (Contains words))) c.refused-in-Err-open_door.ensures e.names e.cause e.others.3 e.others.4
    (λ q away. e.files q) (λ q. ap bytes_in (e.files (file_of setup.journal.now q))) still in
    let settles : SettlesDoor g.H.Host g.H.Entrance.Door g.H.Dialer.Link setup.peer.now c.in-Ok.peer c.open_door-2.new.self c.settle_door.new.self =
    record { left = s.left; guests = s.guests; faults = s.faults; reads = s.reads; writes = s.writes; counted = s.counted; files = s.files; names = s.others.0 } in
    fails_around g.H.Host setup c.args.host.now c.open_door.new.self c.open_door-2.new.self c.settle_door.new.self c.refused-in-Err-open_door.result
    (door_touches g.H.Host setup g.H.Entrance.Door setup.peer.now c.args.host.now c.open_door.new.self c.in-Ok.peer (has_peer setup) (λ a not_peer not_local. not_peer) at_peer)
    (λ q. ap bytes_in (p.files (file_of setup.journal.now q))) fails
    (settled_touches g.H.Host g.H.Entrance.Door g.H.Dialer.Link setup setup.peer.now c.in-Ok.peer c.open_door-2.new.self c.settle_door.new.self (λ a not_peer not_local. not_peer) settles)
    (λ q. ap bytes_in (s.files (file_of setup.journal.now q)))
    (door_back g.H.Host g.H.Entrance.Door g.H.Dialer.Link setup.peer.now c.args.host.now c.open_door.new.self c.open_door-2.new.self c.settle_door.new.self c.in-Ok.peer at_peer still settles)
