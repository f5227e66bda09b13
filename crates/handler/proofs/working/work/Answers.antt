use Rattle.std.proofs.Common.{◌≡◌, ◌≤◌, false, All, is_some, IfSome, sym, ap, subst, ◌∙◌, arith}
use Rattle.as4_disk.specs.Image.{Image}
use Rattle.as4_disk.specs.declared.part.Part.{Part}
use Rattle.as4_flow.specs.Flow.{Rose, Told}
use Rattle.handler.specs.Announcing.{Announces}
use Rattle.handler.specs.Crews.{IsCrew, IsHired}
use Rattle.handler.specs.Dismissal.{gathering}
use Rattle.handler.specs.Hosts.{doors_of, files_of}
use Rattle.handler.specs.Working.{IsClosed}
use Rattle.handler.proofs.CrewLemmas.{prefix_then}
use Rattle.handler.proofs.HostLemmas.{knows_same}
use Rattle.handler.proofs.OpeningLemmas.{has_path, settles_store}
use Rattle.handler.proofs.WorkLemmas.{are_ready, done_books, folds_on, have_books, retired_prefix}
use Rattle.office.specs.Calls.{stop_of}
use Rattle.office.specs.Left.{IsLeft}
use Rattle.office.specs.State.{OfficeState}
use Rattle.workers.specs.Turns.{IsReady}
use Rattle.handler.proofs.working.work.Goals as goal

pub run_if-office-requires-clause-ready : goal.run_if-office-requires-clause-ready
run_if-office-requires-clause-ready g c κs within =
    let book = ap (λ p. p.book) c.requires.office.2.pass_is in
    subst (λ b. All (IsReady b) c.recruit-is_whole.new.crew.items) book
    (are_ready c.args.opened.pass.book c.args.setup.turns c.recruit-is_whole.new.crew.items c.recruit-is_whole.ensures.crew.hired)

pub dismiss-is_starved-requires-clause-names : goal.dismiss-is_starved-requires-clause-names
dismiss-is_starved-requires-clause-names g c =
    knows_same g.H.Host (doors_of c.args.setup) c.args.host.now c.recruit-is_whole.new.host c.recruit-is_whole.ensures.host.names c.requires.names.0

pub dismiss-is_starved-requires-clause-books : goal.dismiss-is_starved-requires-clause-books
dismiss-is_starved-requires-clause-books g c =
    let book = ap (λ p. p.book) c.requires.office.2.pass_is in
    let r = c.recruit-is_whole in
    let runs = c.run_if-office.ensures.runs in
    done_books g.H.Entrance.Door c.args.setup.keep g.H.Store.Disk c.run_if-office.new.pass.book c.args.opened.office c.run_if-office.result.0 r.new.pass c.run_if-office.new.pass r.new.crew.items c.run_if-office.new.crew.items c.run_if-office.result.1 runs
    (have_books c.run_if-office.new.pass.book c.args.setup.turns r.new.crew.items
    (subst (λ b. All (IsHired b c.args.setup.turns) r.new.crew.items) (book ∙ sym runs.pass_book) r.ensures.crew.hired))

pub show-requires : goal.show-requires
show-requires g c = record { book = c.dismiss-is_starved.ensures.book ∙ c.run_if-office.ensures.runs.pass_book ∙ sym c.run_if-office.ensures.runs.book }

pub settle_disk-requires : goal.settle_disk-requires
settle_disk-requires g c =
    let first = knows_same g.H.Host (files_of c.args.setup.journal.now) c.args.host.now c.recruit-is_whole.new.host c.recruit-is_whole.ensures.host.names c.requires.names.1 in
    let knows = knows_same g.H.Host (files_of c.args.setup.journal.now) c.recruit-is_whole.new.host c.dismiss-is_starved.new.host c.dismiss-is_starved.ensures.names first in
    λ v is (q : Part). has_path c.args.setup.journal.now c.args.journal c.requires.paths v (knows v is) q

pub returns-clause-works : goal.returns-clause-works
returns-clause-works g c =
    let M = g.H.Host in
    let G = g.H.Entrance.Door in
    let S = g.H.Store.Disk in
    let book = ap (λ p. p.book) c.requires.office.2.pass_is in
    let stake = ap (λ p. p.stake) c.requires.office.2.pass_is in
    let r = c.recruit-is_whole in
    let runs = c.run_if-office.ensures.runs in
    let later = c.run_if-office.result.0 in
    let how = c.run_if-office.result.1 in
    let d = c.dismiss-is_starved in
    let sh = c.show.ensures in
    let i = c.into_disk.ensures in
    let s = c.settle_disk.ensures in
    let disk : c.into_disk.result ≡ later.disk = i.disk ∙ ap (λ o. o.disk) sh.same in
    let closed : IsClosed S c.args.opened.office later.list later.end c.into_disk.result = record {
      leads = runs.leads;
      tells = ap (λ x. is_some (S.seen x)) disk ∙ runs.tells;
      left = subst (λ m. Told (S.seen c.into_disk.result) (λ _. (x : Image) → S.may_leave c.into_disk.result x → IsLeft m later.end later.list x)) runs.modes
          (subst (λ (o : OfficeState _). Told (S.seen c.into_disk.result) (λ _. (x : Image) → S.may_leave c.into_disk.result x → IsLeft o.modes o.end o.list x)) sh.same i.left);
      stopped = subst (λ (o : OfficeState _). IfSome (stop_of o.list) (λ halt. Rose halt.before halt.after × (halt.after ≤ S.fault_count c.into_disk.result))) sh.same i.stopped;
    } in record {
      crew = r.new.crew.items;
      done = c.run_if-office.new.crew.items;
      first = r.new.host;
      pass = c.run_if-office.new.pass;
      how = how;
      last = gathering d.new.host d.new.pass d.result;
      calls = later.list;
      close = later.end;
      disk = c.into_disk.result;
      hires = r.ensures.host;
      staffed = subst (λ b. IsCrew G b c.args.setup.turns (G.guests c.args.opened.doors.peer) (G.guests c.args.opened.doors.local) r.new.crew.items) book r.ensures.crew;
      many = r.ensures.many;
      own = runs.own;
      share = runs.share;
      stakes = omega (arith, runs.stake, r.ensures.pass.1, stake);
      retires = d.ensures.retire;
      seen = sh.begins;
      alone = sh.alone;
      closed = closed;
      settles = settles_store M c.args.setup S c.args.journal d.new.host c.settle_disk.new.self c.into_disk.result c.requires.paths s.kept s.faults s.counted s.files s.guests s.others.0 s.others.4 s.others.5;
      worked = c.run_if-office.ensures.worked;
      line = λ is. subst (λ h. Announces S c.args.opened.office c.run_if-office.new.pass.list h (g.E.Sink.taken c.args.errors.now) (g.E.Sink.taken c.run_if-office.new.errors)) c.requires.head (c.run_if-office.ensures.line is);
      silent = c.run_if-office.ensures.silent;
      served = λ is. (runs.served is, r.ensures.whole (c.run_if-office.ensures.whole is));
      early = runs.early;
      compacted = λ is told can.
          folds_on c.run_if-office.new.pass.list later.list
          (prefix_then c.run_if-office.new.pass.list d.new.pass.list later.list
          (retired_prefix M G g.H.Dialer.Link c.args.setup c.run_if-office.new.crew.items (gathering r.new.host c.run_if-office.new.pass false) (gathering d.new.host d.new.pass d.result) d.ensures.retire) sh.begins)
          (runs.compacted is told can);
      failed = λ is. subst (λ x. 1 ≤ S.fault_count x) (sym disk) (runs.failed is);
      ends = c.end_of.ensures;
    }
