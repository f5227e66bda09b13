use Rattle.std.proofs.Common.{is_some, refl, sym, ap, subst, ◌∙◌}
use Rattle.as4_disk.specs.Image.{Image}
use Rattle.as4_flow.specs.Flow.{Told}
use Rattle.office.specs.Calls.{LeadsWhere}
use Rattle.office.specs.Left.{IsLeft}
use Rattle.relayer.specs.Relaying.{moment}
use Rattle.relayer.proofs.running.work.Goals as goal

pub returns-clause-works : goal.returns-clause-works
returns-clause-works g c =
    let S = g.D.Disk in
    let r = c.relay_all-end in
    let i = c.into_disk.ensures in
    let start = c.args.office in
    let end = r.new.office in record {
      last = moment r.new.office r.new.pass r.new.clock r.new.nonces;
      relays = r.ensures.relays;
      goes = r.ensures.goes;
      closed = record {
        leads = r.ensures.keeps.legal start.end (subst (λ calls. LeadsWhere (is_some (S.seen start.disk)) start.modes start.end calls start.end) (sym c.requires.list) refl);
        tells = ap (λ x. is_some (S.seen x)) i.disk ∙ r.ensures.keeps.tells;
        left = subst (λ m. Told (S.seen c.into_disk.result) (λ _. (x : Image) → S.may_leave c.into_disk.result x → IsLeft m end.end end.list x)) r.ensures.keeps.modes i.left;
        stopped = i.stopped;
      };
    }
