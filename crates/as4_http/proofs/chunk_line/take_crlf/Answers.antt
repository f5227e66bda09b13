use Rattle.std.proofs.Common.{◌<◌, List, ℕ, ap, Err, arith, get_or, length, refl, sym, ◌∙◌}
use Rattle.as4_http.specs.ChunkLines.{HasNoCrlf, IsCrlf}
use Rattle.as4_http.specs.Refused.{MayBecome}
use Rattle.as4_http.proofs.AskedLemmas.{asks_nothing, asks_more, held_more}
use Rattle.as4_http.proofs.ChunkedLemmas.{crlf_begun}
use Rattle.as4_http.proofs.RefusedLemmas.{end_exit}
use Rattle.as4_http.proofs.chunk_line.take_crlf.Goals as goal
use Rattle.as4_http.proofs.chunk_line.take_crlf.Goals.{else-len-eq1-via-then-len-eq1+else-bytes-ne13, else-len-eq1-via-else-len-eq1}

pub returns-in_err-fill-clause-refused : goal.returns-in_err-fill-clause-refused
returns-in_err-fill-clause-refused g c =
    let held = c.pieces.intake in
    let few : length held < 2 = omega (arith, c.pieces-test.true, c.len.ensures) in
    let begun : HasNoCrlf held × MayBecome IsCrlf held = elim c.else-len-eq1.branch [
      | else-len-eq1-via-then-len-eq1+else-bytes-ne13 w ↦ crlf_begun held few (λ one. ap (λ (l : List ℕ). get_or l 0 0) (sym w.bytes.ensures) ∙ w.if-bytes-ne13.false)
      | else-len-eq1-via-else-len-eq1 w ↦ crlf_begun held few (λ one. absurd (omega (arith, one, w.if-len-eq1.false, c.len-in-pieces.ensures)))
    ] in
    end_exit (λ _. HasNoCrlf) (MayBecome IsCrlf) _ (g.S.Source.left c.pieces.source) (g.S.Source.left c.fill.new.source) held c.from_residual.result c.in_err-fill.field-0.0 c.from_residual.ensures.1 c.in_err-fill.ensures.stop c.pieces.invariant.whole (λ cut. c.in_err-fill.ensures.cut (ap Err cut)) begun

pub pieces-init : goal.pieces-init
pieces-init g c = record { whole = refl; asks = asks_nothing HasNoCrlf c.args.intake.now _ _ refl; quiet = refl }

pub pieces-preserved : goal.pieces-preserved
pieces-preserved g c =
    let held = c.pieces.intake in
    let few : length held < 2 = omega (arith, c.pieces-test.true, c.len.ensures) in
    let none : HasNoCrlf held = λ rest is. omega (arith, few, ap length is) in
    record {
      whole = held_more c.args.intake.now held c.fill.new.self _ _ _ _ c.pieces.invariant.whole c.in_ok-fill.ensures.came;
      asks = asks_more HasNoCrlf c.args.intake.now held c.fill.new.self _ _ _ _ c.pieces.invariant.whole c.pieces.invariant.asks c.in_ok-fill.ensures.came c.in_ok-fill.ensures.few none;
      quiet = c.in_ok-fill.ensures.quiet (λ clash. cc) ∙ c.pieces.invariant.quiet;
    }
