use Rattle.std.proofs.Common.{◌≡◌, [], Some, false, ap, ◌∙◌, subst, sym}
use Rattle.as4_disk.specs.Memory.{DiskState}
use Rattle.as4_disk.specs.MemoryMeaning.{memory_meaning}
use Rattle.msh_recovery.specs.Opens.{KeepsEnd}
use Rattle.office.specs.State.{OfficeState}
use Rattle.drill_world.proofs.DiskLemmas.{office_stopped, replied_event, stopped_event}
use Rattle.drill_world.proofs.disks.stopped_disk.Goals as goal

pub returns-in-Ok : goal.returns-in-Ok
returns-in-Ok c =
    let old = c.stop_at.new.self in
    let new = c.handle.new.office in
    let answer = c.in-Ok.ensures.handles.answer in
    let sound : old.disk.failing ≡ [] = ap (λ (o : OfficeState DiskState). o.disk.failing) c.stop_at.ensures in
    let stops : old.disk.stop ≡ Some c.args.call = ap (λ (o : OfficeState DiskState). o.disk.stop) c.stop_at.ensures ∙ ap Some c.from.ensures in
    office_stopped c.args.office old new.disk c.into_disk.result _ c.args.event c.args.call c.stop_at.ensures c.into_disk.ensures.disk
    (replied_event c.an_image_opens_to_one_end.ensures.whole c.leaves_all_that_may_be.ensures.picks c.a_stopped_record_stands_or_not.ensures
    old new c.args.event c.args.call sound stops c.requires.call.0 c.requires.call.1
    answer.outcome answer.recorded.0 answer.step answer.recorded.1 answer.recorded.2
    (subst (KeepsEnd memory_meaning new.disk) answer.end answer.kept))

pub returns-else-ran_out : goal.returns-else-ran_out
returns-else-ran_out c =
    let old = c.stop_at.new.self in
    let new = c.handle.new.office in
    let answer = (rw c.in-Err-Disk.field-0-is at c.in-Err-Disk.ensures.handles).answer in
    let whole : new.disk.ran_out ≡ false =
    ap (λ (disk : DiskState). disk.ran_out) (sym c.into_disk-disk.ensures.disk) ∙ sym c.ran_out.ensures ∙ c.if-ran_out.false in
    let sound : old.disk.failing ≡ [] = ap (λ (o : OfficeState DiskState). o.disk.failing) c.stop_at.ensures in
    let stops : old.disk.stop ≡ Some c.args.call = ap (λ (o : OfficeState DiskState). o.disk.stop) c.stop_at.ensures ∙ ap Some c.from.ensures in
    office_stopped c.args.office old new.disk c.into_disk-disk.result _ c.args.event c.args.call c.stop_at.ensures c.into_disk-disk.ensures.disk
    (stopped_event c.an_image_opens_to_one_end.ensures.whole c.leaves_all_that_may_be.ensures.picks c.a_stopped_record_stands_or_not.ensures
    old new c.args.event c.args.call sound stops c.requires.call.0 c.requires.call.1
    c.args.pass c.handle.new.pass whole answer.stops.end answer.cause)
