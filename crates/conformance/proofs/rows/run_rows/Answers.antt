use Rattle.std.proofs.Common.{◌≡◌, ◌++◌, ◌+◌, ◌∙◌, ℕ, List, Option, ap, if◌then◌else◌, subst, arith}
use Rattle.as4_flow.specs.Flow.{Rose, appended}
use Rattle.as4_flow.proofs.FlowLemmas.{appended_append, takes_more}
use Rattle.conformance.proofs.RanLemmas.{lines_next}
use Rattle.conformance.proofs.rows.run_rows.Goals as goal

pub returns-in-Err-write_line-clause-ends : goal.returns-in-Err-write_line-clause-ends
returns-in-Err-write_line-clause-ends g c =
    let so_far = c.loop-row.invariant.lines in
    let now : ℕ = if c.in-Ok.line.differs then c.loop-row.differ + 1 else c.loop-row.differ in
    let lines = lines_next g.R.Row.IsLine c.args.rows.now c.loop-row.row-index c.row-item.result so_far.0 c.in-Ok.line.text c.loop-row.differ now c.in-Ok.line.differs
    c.loop-row-test.true c.row-item.is so_far.1 c.in-Ok.ensures (λ i. now) in (
      so_far.0 ++ c.in-Ok.line.text,
      (c.loop-row.row-index + 1, now, lines),
      takes_more so_far.0 c.in-Ok.line.text (g.K.Sink.taken c.args.sink.now) (g.K.Sink.taken c.loop-row.sink) (g.K.Sink.taken c.write_line.new.sink) so_far.2 c.write_line.ensures.front,
      subst (λ n. Rose n (g.K.Sink.faults c.write_line.new.sink)) c.loop-row.invariant.quiet c.in-Err-write_line.ensures.err,
    )

pub loop-row-preserved : goal.loop-row-preserved
loop-row-preserved g c =
    let so_far = c.loop-row.invariant.lines in
    let counted : c.loop-row.differ + c.from-differ.result ≡ (if c.in-Ok.line.differs then c.loop-row.differ + 1 else c.loop-row.differ) = grind arith in
    record {
      lines = (
        so_far.0 ++ c.in-Ok.line.text,
        lines_next g.R.Row.IsLine c.args.rows.now c.loop-row.row-index c.row-item.result so_far.0 c.in-Ok.line.text c.loop-row.differ (c.loop-row.differ + c.from-differ.result) c.in-Ok.line.differs
            c.loop-row-test.true c.row-item.is so_far.1 c.in-Ok.ensures counted,
        c.in-Ok-write_line.ensures.ok
            ∙ ap (λ (told : Option (List ℕ)). appended told c.in-Ok.line.text) so_far.2
            ∙ appended_append (g.K.Sink.taken c.args.sink.now) so_far.0 c.in-Ok.line.text,
      );
      few = grind arith;
      quiet = c.in-Ok-write_line.ensures.quiet ∙ c.loop-row.invariant.quiet;
    }
