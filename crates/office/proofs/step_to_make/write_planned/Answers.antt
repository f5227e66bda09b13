use Rattle.std.proofs.Common.{List, ℕ, Option, subst}
use Rattle.msh_journal.specs.Frames.{IsFrameOf}
use Rattle.office.proofs.WritingLemmas.{frame_body, frame_room, large_none, large_some, records_none, records_some}
use Rattle.office.proofs.step_to_make.write_planned.Goals as goal

pub write_frame-requires : goal.write_frame-requires
write_frame-requires g c =
    let ready = c.requires.ready in
    let framed = subst (λ (f : Option (List ℕ)). IsFrameOf ready.2 f) c.in-Some.is ready.4 in
    record { ready = (ready.0, ready.1, ready.3, frame_room ready.2 c.in-Some.frame ready.0 framed ready.5) }

pub returns-in-None-clause-records : goal.returns-in-None-clause-records
returns-in-None-clause-records g c end places outcome is framed fits =
    let none = subst (λ (f : Option (List ℕ)). IsFrameOf outcome.effects f) c.in-None.is framed in
    records_none g.D.Disk g.met.D.Disk.only_now c.args.journal.now end places outcome (large_none outcome none) is

pub returns-in-Some-clause-records : goal.returns-in-Some-clause-records
returns-in-Some-clause-records g c end places outcome is framed fits =
    let body = c.in-Some.frame in
    let some = subst (λ (f : Option (List ℕ)). IsFrameOf outcome.effects f) c.in-Some.is framed in
    records_some g.D.Disk c.args.journal.now c.write_frame.new.journal end places outcome c.write_frame.result (large_some outcome body some)
    (c.write_frame.ensures.appends end places outcome.effects is (frame_body outcome.effects body some) fits)
