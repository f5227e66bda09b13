use Rattle.std.proofs.Common.{◌≡◌, Err, refl, subst, ◌∙◌, inl, inr}
use Rattle.as4_disk.specs.declared.part.Part.{Part}
use Rattle.as4_host.specs.Calls.{asked, names_of}
use Rattle.as4_host.specs.Files.{bytes_in, path_of}
use Rattle.handler.specs.Hosts.{Knows, files_of}
use Rattle.handler.specs.declared.setup.Setup.{Setup}
use Rattle.handler.proofs.HostLemmas.{knows_asked, knows_same}
use Rattle.handler.proofs.OpeningLemmas.{has_path, made_or_same, names_are, opens_store, other_path, path_is, settles_store}
use Rattle.handler.proofs.StoreLemmas.{leaves_unopened}
use Rattle.relayer.specs.Relaying.{moment}
use Rattle.relayer.proofs.HostLemmas.{fails_refused, touches_both, unopened_cause}
use Rattle.relayer.proofs.running.open_and_relay.Goals as goal

pub returns-in-Err-clause-relays : goal.returns-in-Err-clause-relays
returns-in-Err-clause-relays g c =
    let e = c.in-Err.ensures in
    let journal = c.args.journal.now in
    let are = c.requires.paths in
    inl (
      fails_refused g.H.Host journal g.row.H-Store.Denot c.args.host.now c.open_disk.new.self c.in-Err.refusal c.refused.result c.refused.ensures
          (subst (λ names. g.H.Host.names c.open_disk.new.self ≡ asked {T = g.row.H-Store.Denot} (Err c.in-Err.refusal) names (g.H.Host.names c.args.host.now)) (names_are journal c.args.paths are) e.names)
          e.cause e.others.3 e.others.4 (λ p away. e.files p (other_path journal c.args.paths p are away))
          (λ q. subst (λ path. bytes_in (g.H.Host.file c.open_disk.new.self path) ≡ bytes_in (g.H.Host.file c.args.host.now path)) (path_is journal c.args.paths are q)
          (made_or_same g.row.H-Store.Denot c.in-Err.refusal (g.H.Host.file c.args.host.now (path_of c.args.paths q)) (g.H.Host.file c.open_disk.new.self (path_of c.args.paths q)) (e.made q)))
          e.guests,
      refl,
    )

pub settle_disk-requires : goal.settle_disk-requires
settle_disk-requires g c =
    let known = subst (λ names. Knows g.H.Host names c.open_disk.new.self) (names_are c.args.journal.now c.args.paths c.requires.paths)
    (knows_asked g.H.Host (names_of c.args.paths) c.args.host.now c.open_disk.new.self c.in-Ok.ensures.names) in
    let knows = knows_same g.H.Host (files_of c.args.journal.now) c.open_disk.new.self c.dice-nonces.new.self (c.dice-nonces.ensures.others.0 ∙ c.time-clock.ensures.others.0) known in
    λ v is (q : Part). has_path c.args.journal.now c.args.paths c.requires.paths v (knows v is) q

pub settle_disk-requires-in-Err-open : goal.settle_disk-requires-in-Err-open
settle_disk-requires-in-Err-open g c =
    let known = subst (λ names. Knows g.H.Host names c.open_disk.new.self) (names_are c.args.journal.now c.args.paths c.requires.paths)
    (knows_asked g.H.Host (names_of c.args.paths) c.args.host.now c.open_disk.new.self c.in-Ok.ensures.names) in
    λ v is (q : Part). has_path c.args.journal.now c.args.paths c.requires.paths v (known v is) q

pub returns-in-Ok-open-clause-relays : goal.returns-in-Ok-open-clause-relays
returns-in-Ok-open-clause-relays g c =
    let d = c.in-Ok.ensures in
    let o = c.in-Ok-open.ensures in
    let t = c.time-clock.ensures in
    let n = c.dice-nonces.ensures in
    let s = c.settle_disk.ensures in
    let setup : Setup = record { modes = c.args.journal; journal = c.args.journal; peer = c.args.journal; local = c.args.journal; workers = 0; turns = 0; keep = 0 } in
    inr (record {
      opened = c.open_disk.new.self;
      disk = c.in-Ok.disk;
      store = opens_store g.H.Host setup g.H.Store.Disk c.args.paths c.args.host.now c.open_disk.new.self c.in-Ok.disk c.requires.paths
          d.fresh d.seen d.only d.made d.names d.files d.guests d.cause d.others.3 d.others.4;
      start = moment c.in-Ok-open.office c.in-Ok-open.pass c.time-clock.result c.dice-nonces.result;
      opens = record {
        list = o.first.0;
        modes_are = o.first.1;
        pass_is = o.first.2;
        begins = λ b told. let e = o.end b told in record { end = e.0; reads = e.1; old = e.2; young = e.3 };
        safe = o.safe;
        fine = o.fine;
        tells = o.tells;
      };
      ready = c.dice-nonces.new.self;
      still = record {
        files = λ p. n.files p ∙ t.files p;
        guests = λ a. n.guests a ∙ t.guests a;
        names = n.others.0 ∙ t.others.0;
        faults = n.others.4 ∙ t.others.4;
        reads = n.others.5 ∙ t.others.5;
        writes = n.others.6 ∙ t.others.6;
      };
      left = c.work-disk.result.0;
      works = c.work-disk.ensures.works;
      settles = settles_store g.H.Host setup g.H.Store.Disk c.args.paths c.dice-nonces.new.self c.settle_disk.new.self c.work-disk.result.0 c.requires.paths
          s.kept s.faults s.counted s.files s.guests s.others.0 s.others.4 s.others.5;
    })

pub returns-in-Err-open-clause-relays : goal.returns-in-Err-open-clause-relays
returns-in-Err-open-clause-relays g c =
    let d = c.in-Ok.ensures in
    let e = c.in-Err-open.ensures in
    let s = c.settle_disk-in-Err-open.ensures in
    let journal = c.args.journal.now in
    let setup : Setup = record { modes = c.args.journal; journal = c.args.journal; peer = c.args.journal; local = c.args.journal; workers = 0; turns = 0; keep = 0 } in
    let opens = opens_store g.H.Host setup g.H.Store.Disk c.args.paths c.args.host.now c.open_disk.new.self c.in-Ok.disk c.requires.paths
    d.fresh d.seen d.only d.made d.names d.files d.guests d.cause d.others.3 d.others.4 in
    let settles = settles_store g.H.Host setup g.H.Store.Disk c.args.paths c.open_disk.new.self c.settle_disk-in-Err-open.new.self c.in-Err-open.unused c.requires.paths
    s.kept s.faults s.counted s.files s.guests s.others.0 s.others.4 s.others.5 in
    inl (
      record {
        touches = touches_both g.H.Host journal g.H.Store.Disk c.args.host.now c.open_disk.new.self c.settle_disk-in-Err-open.new.self c.in-Ok.disk c.in-Err-open.unused opens settles;
        store = leaves_unopened g.H.Host g.H.Store.Disk g.met.H.Store.Disk.reads_now g.met.H.Store.Disk.counts_now journal c.args.host.now c.open_disk.new.self c.settle_disk-in-Err-open.new.self
            c.in-Ok.disk c.in-Err-open.unused opens settles e.failed_moment e.failed_tells;
        cause = unopened_cause g.H.Host journal g.H.Store.Disk c.args.host.now c.open_disk.new.self c.settle_disk-in-Err-open.new.self c.in-Ok.disk c.in-Err-open.unused c.in-Err-open.fault c.unopened.result
            c.unopened.ensures e.faults opens settles e.cause e.not_journal;
      },
      refl,
    )
