use Rattle.std.proofs.Common.{◌≡◌, ◌∷◌, [], All, Contains, Err, subst, ◌∙◌}
use Rattle.std.proofs.lemmas.List.Elements.{All-head, All-tail}
use Rattle.as4_disk.specs.declared.part.Part.{Part}
use Rattle.as4_disk.specs.declared.part.Part.TheVariants.{Leaf0, Leaf1, Selector}
use Rattle.as4_host.specs.Calls.{asked, names_of}
use Rattle.as4_host.specs.Files.{bytes_in, path_of}
use Rattle.handler.specs.Hosts.{files_of}
use Rattle.handler.proofs.HostLemmas.{knows_asked}
use Rattle.handler.proofs.OpeningLemmas.{fails_refused, has_files, made_or_same, names_are, opens_store, other_path, path_is, settled_store_touches, settles_store, store_touches, unopened_cause}
use Rattle.handler.proofs.HostLemmas.{touches_then}
use Rattle.handler.proofs.StoreLemmas.{leaves_unopened}
use Rattle.handler.proofs.opening.open_office.Goals as goal

-- src/opening.rt:101:13
pub returns-in-Err-clause-fails : goal.returns-in-Err-clause-fails
returns-in-Err-clause-fails g c =
    let e = c.in-Err.ensures in
    let setup = c.args.setup in
    let are = c.requires.paths in
    fails_refused g.H.Host setup g.row.H-Store.Denot (files_of setup.journal.now) c.args.host.now c.open_disk.new.self c.in-Err.refusal c.refused.result (has_files setup) c.refused.ensures
    (subst (λ names. g.H.Host.names c.open_disk.new.self ≡ asked {T = g.row.H-Store.Denot} (Err c.in-Err.refusal) names (g.H.Host.names c.args.host.now)) (names_are setup.journal.now c.args.journal are) e.names)
    e.cause e.others.3 e.others.4 (λ p away. e.files p (other_path setup.journal.now c.args.journal p are away))
    (λ q. subst (λ path. bytes_in (g.H.Host.file c.open_disk.new.self path) ≡ bytes_in (g.H.Host.file c.args.host.now path)) (path_is setup.journal.now c.args.journal are q)
    (made_or_same g.row.H-Store.Denot c.in-Err.refusal (g.H.Host.file c.args.host.now (path_of c.args.journal q)) (g.H.Host.file c.open_disk.new.self (path_of c.args.journal q)) (e.made q)))
    e.guests

-- src/opening.rt:107:13
pub settle_disk-requires : goal.settle_disk-requires
settle_disk-requires g c =
    let knows = knows_asked g.H.Host (names_of c.args.journal) c.args.host.now c.open_disk.new.self c.in-Ok.ensures.names in
    λ v is. λ (q : Part). elim q as (λ q. Contains v (path_of c.args.journal q)) [
      | Selector ↦ All-head (Contains v) c.args.journal.selector.now [] (All-tail (Contains v) c.args.journal.leaf1.now (c.args.journal.selector.now ∷ []) (All-tail (Contains v) c.args.journal.leaf0.now (c.args.journal.leaf1.now ∷ c.args.journal.selector.now ∷ []) (knows v is)))
      | Leaf0 ↦ All-head (Contains v) c.args.journal.leaf0.now (c.args.journal.leaf1.now ∷ c.args.journal.selector.now ∷ []) (knows v is)
      | Leaf1 ↦ All-head (Contains v) c.args.journal.leaf1.now (c.args.journal.selector.now ∷ []) (All-tail (Contains v) c.args.journal.leaf0.now (c.args.journal.leaf1.now ∷ c.args.journal.selector.now ∷ []) (knows v is))
    ]

-- src/opening.rt:84:1
pub returns-in-Ok-open-clause-opens : goal.returns-in-Ok-open-clause-opens
returns-in-Ok-open-clause-opens g c =
    let d = c.in-Ok.ensures in
    let o = c.in-Ok-open.ensures in record {
      disk = c.in-Ok.disk;
      store = opens_store g.H.Host c.args.setup g.H.Store.Disk c.args.journal c.args.host.now c.open_disk.new.self c.in-Ok.disk c.requires.paths
          d.fresh d.seen d.only d.made d.names d.files d.guests d.cause d.others.3 d.others.4;
      opens = record {
        list = o.first.0;
        modes_are = o.first.1;
        pass_is = o.first.2;
        begins = λ b told. let e = o.end b told in record { end = e.0; reads = e.1; old = e.2; young = e.3 };
        safe = o.safe;
        fine = o.fine;
        tells = o.tells;
      };
    }

-- src/opening.rt:84:1
pub returns-in-Ok-open-clause-names : goal.returns-in-Ok-open-clause-names
returns-in-Ok-open-clause-names g c =
    let knows = knows_asked g.H.Host (names_of c.args.journal) c.args.host.now c.open_disk.new.self c.in-Ok.ensures.names in
    λ v is. subst (All (Contains v)) (names_are c.args.setup.journal.now c.args.journal c.requires.paths) (knows v is)

-- src/opening.rt:84:1
pub returns-in-Err-open-clause-fails : goal.returns-in-Err-open-clause-fails
returns-in-Err-open-clause-fails g c =
    let d = c.in-Ok.ensures in
    let e = c.in-Err-open.ensures in
    let s = c.settle_disk.ensures in
    let setup = c.args.setup in
    let opens = opens_store g.H.Host setup g.H.Store.Disk c.args.journal c.args.host.now c.open_disk.new.self c.in-Ok.disk c.requires.paths
    d.fresh d.seen d.only d.made d.names d.files d.guests d.cause d.others.3 d.others.4 in
    let settles = settles_store g.H.Host setup g.H.Store.Disk c.args.journal c.open_disk.new.self c.settle_disk.new.self c.in-Err-open.disk c.requires.paths
    s.kept s.faults s.counted s.files s.guests s.others.0 s.others.4 s.others.5 in record {
      touches = touches_then g.H.Host setup c.args.host.now c.open_disk.new.self c.settle_disk.new.self
          (store_touches g.H.Host setup g.H.Store.Disk c.args.host.now c.open_disk.new.self c.in-Ok.disk opens)
          (settled_store_touches g.H.Host setup g.H.Store.Disk c.open_disk.new.self c.settle_disk.new.self c.in-Err-open.disk settles);
      guests = λ a. settles.guests a ∙ opens.guests a;
      store = leaves_unopened g.H.Host g.H.Store.Disk g.met.H.Store.Disk.reads_now g.met.H.Store.Disk.counts_now setup.journal.now c.args.host.now c.open_disk.new.self c.settle_disk.new.self
          c.in-Ok.disk c.in-Err-open.disk opens settles e.failed_moment e.failed_tells;
      cause = unopened_cause g.H.Host setup g.H.Store.Disk c.args.host.now c.open_disk.new.self c.settle_disk.new.self c.in-Ok.disk c.in-Err-open.disk c.in-Err-open.fault c.unopened.result
          c.unopened.ensures e.faults opens settles e.cause e.not_journal;
    }
