use Rattle.std.proofs.Common.{◌≡◌, Err, ap, refl}
use Rattle.as4_flow.specs.Flow.{before, between, flow}
use Rattle.as4_http.specs.declared.refusal.HttpRefusal.TheVariants as http
use Rattle.as4_keep.specs.Connections.{moment}
use Rattle.as4_keep.proofs.KeepLemmas.{meets_none, no_cut, why_unbegun}
use Rattle.as4_keep.proofs.connection.serve_next.Goals as goal

pub returns-in-Err-clause-meets : goal.returns-in-Err-clause-meets
returns-in-Err-clause-meets g c =
    let left = g.S.Source.left c.args.source.now in
    let rest = g.S.Source.left c.begin.new.source in
    let reads = g.S.Source.faults c.args.source.now in
    let later_reads = g.S.Source.faults c.begin.new.source in
    let old = flow (before c.args.intake left) (g.K.Sink.taken c.args.sink.now) reads (g.K.Sink.faults c.args.sink.now) in
    let new = flow rest (g.K.Sink.taken c.break_unread.new.sink) later_reads (g.K.Sink.faults c.break_unread.new.sink) in
    let e = c.in-Err.ensures in
    meets_none g.D.Disk g.J.Opening g.C.Clock g.N.Nonces c.args.door c.args.is_last
    (moment c.args.pass.now c.args.clock.now c.args.nonces.now old) (moment c.args.pass.now c.args.clock.now c.args.nonces.now new)
    c.in-Err.refusal c.break_unread.result
    (why_unbegun c.in-Err.refusal (between old new) e.refusals (λ is. e.fault (ap Err is)))
    (λ other. e.quiet (λ is. other (let same : c.in-Err.refusal ≡ http.ReadFault = cc in same)))
    (λ is. absurd (no_cut c.in-Err.refusal e.refusals is))
    refl (c.break_unread.ensures.breaks (before c.args.intake left) rest reads later_reads)
