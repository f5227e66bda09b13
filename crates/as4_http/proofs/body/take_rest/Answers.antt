use Rattle.std.proofs.Common.{List, ℕ, Option, length, sym, ◌∙◌, ap, arith, length-append}
use Rattle.as4_flow.specs.Flow.{before}
use Rattle.as4_http.proofs.AskedLemmas.{empty_stays, held_more, limit_more}
use Rattle.as4_http.proofs.body.take_rest.Goals as goal

pub pieces-preserved : goal.pieces-preserved
pieces-preserved g c =
    let came = c.in-Ok.ensures.came in
    let left = g.S.Source.left c.fill.new.source in
    let whole = c.pieces.invariant.taken ∙ ap (λ (t : Option (List ℕ)). before c.pieces.body t) c.pieces.invariant.whole in
    let empty = empty_stays c.skip.new.self came.piece _ left c.pieces.invariant.whole came.taken in
    record {
      taken = held_more c.args.intake.now c.pieces.body c.fill.new.self _ _ _ _ whole came ∙ ap (λ (t : Option (List ℕ)). before c.fill.new.self t) (sym empty);
      whole = empty;
      asks = limit_more c.args.intake.now c.pieces.body c.fill.new.self _ _ _ _ whole c.pieces.invariant.asks came (omega (arith, c.in-Ok.ensures.some, ap length came.held, length-append c.pieces.body came.piece, came.count));
      quiet = c.in-Ok.ensures.quiet (λ clash. cc) ∙ c.pieces.invariant.quiet;
    }
