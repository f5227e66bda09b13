use Rattle.std.proofs.Common.{◌≡◌, ℕ, List, Err, ap, refl, sym, ◌∙◌, length, arith, subst}
use Rattle.as4_doors.specs.WrittenText.{written_text}
use Rattle.as4_flow.specs.Flow.{before, between, flow}
use Rattle.as4_http.specs.declared.refusal.HttpRefusal.TheVariants as http
use Rattle.as4_keep.specs.Connections.{moment}
use Rattle.sessions.specs.Sessions.{Writes}
use Rattle.as4_keep.proofs.KeepLemmas.{as_observable, meets, meets_none, not_empty, why_unread}
use Rattle.as4_keep.proofs.connection.serve_begun.Goals as goal

pub returns-in-Ok-clause-meets : goal.returns-in-Ok-clause-meets
returns-in-Ok-clause-meets g c =
    let left = g.S.Source.left c.args.source.now in
    let rest = g.S.Source.left c.read_kept.new.source in
    let reads = g.S.Source.faults c.args.source.now in
    let later_reads = g.S.Source.faults c.read_kept.new.source in
    let taken = g.K.Sink.taken c.args.sink.now in
    let later = g.K.Sink.taken c.write_out-ended.new.sink in
    let writes = g.K.Sink.faults c.args.sink.now in
    let later_writes = g.K.Sink.faults c.write_out-ended.new.sink in
    let r = c.reply_to-ended in
    meets g.D.Disk g.J.Opening g.C.Clock g.N.Nonces c.args.door c.args.is_last
    (moment c.args.pass.now c.args.clock.now c.args.nonces.now (flow (before c.args.intake left) taken reads writes))
    (moment r.new.pass r.new.clock r.new.nonces (flow rest later later_reads later_writes))
    c.in-Ok.request c.in-Ok.allows c.may_go_on-goes_on.result c.in-Ok.intake r.result.0 c.write_out-ended.result (written_text r.result.1) c.after_request.result
    c.in-Ok.ensures.found (c.in-Ok.ensures.tells ∙ sym (as_observable c.args.intake left)) (c.in-Ok.ensures.quiet (λ is. absurd cc)) c.may_go_on-goes_on.ensures
    (record {
      moment = g.C.Clock.last r.new.clock;
      nonce = g.N.Nonces.last r.new.nonces;
      drawn = record { moment_is = refl; nonce_is = refl; from_clock = r.ensures.moment; from_nonces = r.ensures.nonce };
      replies = r.ensures.replies;
    })
    (subst (λ (b : List ℕ). Writes r.result.0 b c.write_out-ended.result (between (flow (before c.args.intake left) taken reads writes) (flow rest later later_reads later_writes)))
    c.bytes.ensures (c.write_out-ended.ensures.writes (before c.args.intake left) rest reads later_reads))
    c.after_request.ensures

pub returns-in-Err-clause-meets : goal.returns-in-Err-clause-meets
returns-in-Err-clause-meets g c =
    let left = g.S.Source.left c.args.source.now in
    let rest = g.S.Source.left c.read_kept.new.source in
    let reads = g.S.Source.faults c.args.source.now in
    let later_reads = g.S.Source.faults c.read_kept.new.source in
    let taken = g.K.Sink.taken c.args.sink.now in
    let later = g.K.Sink.taken c.break_unread.new.sink in
    let writes = g.K.Sink.faults c.args.sink.now in
    let later_writes = g.K.Sink.faults c.break_unread.new.sink in
    let old = flow (before c.args.intake left) taken reads writes in
    let new = flow rest later later_reads later_writes in
    let e = c.in-Err.ensures in
    meets_none g.D.Disk g.J.Opening g.C.Clock g.N.Nonces c.args.door c.args.is_last
    (moment c.args.pass.now c.args.clock.now c.args.nonces.now old) (moment c.args.pass.now c.args.clock.now c.args.nonces.now new)
    c.in-Err.refusal c.break_unread.result
    (why_unread c.in-Err.refusal (between old new) e.only
    (λ is. e.begun (ap Err is)) (λ is. e.cut (ap Err is)) (λ is. e.bad (ap Err is)) (λ is. e.bad_head (ap Err is)) (λ is. e.too_long (ap Err is))
    (λ is. e.passed (ap Err is)) (λ is. e.fault (ap Err is)))
    (λ other. e.quiet (λ is. other (let same : c.in-Err.refusal ≡ http.ReadFault = cc in same)))
    (λ is. not_empty c.args.intake left (λ none. absurd (omega (arith, c.requires.begun, ap length none))))
    refl (c.break_unread.ensures.breaks (before c.args.intake left) rest reads later_reads)
