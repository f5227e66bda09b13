use Rattle.std.proofs.Common.{◌≡◌, refl}
use Rattle.as4_doors.specs.WrittenText.{written_text}
use Rattle.as4_flow.specs.Flow.{between, flow}
use Rattle.sessions.specs.Shared.{AnswersUnder}
use Rattle.sessions.specs.Sessions.{DrawsBoth}
use Rattle.sessions.proofs.SessionLemmas.{served, unread}
use Rattle.sessions.proofs.locked.session.Goals as goal

pub returns-in-Ok-clause-ends : goal.returns-in-Ok-clause-ends
returns-in-Ok-clause-ends g c =
    let left = g.S.Source.left c.args.source.now in
    let rest = g.S.Source.left c.read_one.new.source in
    let reads = g.S.Source.faults c.args.source.now in
    let later_reads = g.S.Source.faults c.read_one.new.source in
    let taken = g.K.Sink.taken c.args.sink.now in
    let later = g.K.Sink.taken c.write_out-ended.new.sink in
    let writes = g.K.Sink.faults c.args.sink.now in
    let later_writes = g.K.Sink.faults c.write_out-ended.new.sink in
    let r = c.reply_to-ended in
    served {Answered = AnswersUnder g.D.Disk g.J.Opening c.args.pass.now r.new.pass} {Untouched = r.new.pass ≡ c.args.pass.now}
    {Drawn = DrawsBoth g.C.Clock g.N.Nonces c.args.clock.now r.new.clock c.args.nonces.now r.new.nonces}
    {Undrawn = (r.new.clock ≡ c.args.clock.now) × (r.new.nonces ≡ c.args.nonces.now)}
    c.args.door (between (flow left taken reads writes) (flow rest later later_reads later_writes)) c.in-Ok.request
    (g.C.Clock.last r.new.clock) (g.N.Nonces.last r.new.nonces) r.result.0 c.write_out-ended.result (written_text r.result.1) c.bytes.result.now c.bytes.ensures
    (c.in-Ok.ensures.read taken later writes later_writes)
    (record { moment_is = refl; nonce_is = refl; from_clock = r.ensures.moment; from_nonces = r.ensures.nonce })
    r.ensures.replies (c.write_out-ended.ensures.writes left rest reads later_reads)

pub returns-in-Err-clause-ends : goal.returns-in-Err-clause-ends
returns-in-Err-clause-ends g c =
    let left = g.S.Source.left c.args.source.now in
    let rest = g.S.Source.left c.read_one.new.source in
    let reads = g.S.Source.faults c.args.source.now in
    let later_reads = g.S.Source.faults c.read_one.new.source in
    let taken = g.K.Sink.taken c.args.sink.now in
    let later = g.K.Sink.taken c.write_out.new.sink in
    let writes = g.K.Sink.faults c.args.sink.now in
    let later_writes = g.K.Sink.faults c.write_out.new.sink in
    unread {Answered = AnswersUnder g.D.Disk g.J.Opening c.args.pass.now c.args.pass.now} {Untouched = c.args.pass.now ≡ c.args.pass.now}
    {Drawn = DrawsBoth g.C.Clock g.N.Nonces c.args.clock.now c.args.clock.now c.args.nonces.now c.args.nonces.now}
    {Undrawn = (c.args.clock.now ≡ c.args.clock.now) × (c.args.nonces.now ≡ c.args.nonces.now)}
    c.args.door (between (flow left taken reads writes) (flow rest later later_reads later_writes)) c.in-Err.ended c.write_out.result c.in-Err.bytes.now
    (c.in-Err.ensures.none taken later writes later_writes) (refl, refl) refl (c.write_out.ensures.writes left rest reads later_reads)
