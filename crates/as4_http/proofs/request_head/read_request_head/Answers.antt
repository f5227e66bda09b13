use Rattle.std.proofs.Common.{List, ℕ, refl, ◌∙◌, subst, ap, Err, arith}
use Rattle.httparse.specs.Grammar.{HasNoRequest, MayBecomeRequest}
use Rattle.as4_http.specs.Limits.{the_limits}
use Rattle.as4_http.specs.RequestStarts.{HasNoRequestHead, EndsInRequestHead}
use Rattle.as4_http.proofs.AskedLemmas.{asks_nothing, asks_more, held_more}
use Rattle.as4_http.proofs.RefusedLemmas.{held_refused, end_exit}
use Rattle.as4_http.proofs.RequestHeadLemmas.{none_yet, none_begun}
use Rattle.as4_http.proofs.request_head.read_request_head.Goals as goal

pub returns-in-Ok-Complete-clause-refused : goal.returns-in-Ok-Complete-clause-refused
returns-in-Ok-Complete-clause-refused g c =
    held_refused HasNoRequestHead EndsInRequestHead _ (g.S.Source.left c.pieces.source) c.pieces.intake c.take_head.result c.pieces.invariant.whole c.take_head.ensures.cause.1 c.take_head.ensures.denied

pub returns-then-len-gt-MAX_HEAD-clause-refused : goal.returns-then-len-gt-MAX_HEAD-clause-refused
returns-then-len-gt-MAX_HEAD-clause-refused g c =
    let partial = rw c.in-Ok-Partial.field-0-is at c.in-Ok-Partial.ensures.partial in
    let none : HasNoRequest c.pieces.intake = subst (λ (b : List ℕ). HasNoRequest b) c.bytes.ensures partial in
    record { read = c.pieces.intake; taken = c.pieces.invariant.whole; doomed = none_yet c.pieces.intake none (omega arith) }

pub returns-in_err-fill-clause-refused : goal.returns-in_err-fill-clause-refused
returns-in_err-fill-clause-refused g c =
    let held = c.pieces.intake in
    let partial = rw c.in-Ok-Partial.field-0-is at c.in-Ok-Partial.ensures.partial in
    let unfinished = rw c.in-Ok-Partial.field-0-is at c.in-Ok-Partial.ensures.unfinished in
    let none : HasNoRequest held = subst (λ (b : List ℕ). HasNoRequest b) c.bytes.ensures partial in
    let may : MayBecomeRequest held = subst (λ (b : List ℕ). MayBecomeRequest b) c.bytes.ensures unfinished in
    end_exit HasNoRequestHead EndsInRequestHead _ (g.S.Source.left c.pieces.source) (g.S.Source.left c.fill.new.source) held c.from_residual.result c.in_err-fill.field-0.0 c.from_residual.ensures.1 c.in_err-fill.ensures.stop c.pieces.invariant.whole (λ cut. c.in_err-fill.ensures.cut (ap Err cut))
    (none_begun held none, record { none = none; may = may; few = omega arith })

pub pieces-init : goal.pieces-init
pieces-init g c = record { room = refl; whole = refl; asks = asks_nothing (HasNoRequestHead the_limits) c.args.intake.now _ _ refl; quiet = refl }

pub pieces-preserved : goal.pieces-preserved
pieces-preserved g c =
    let held = c.pieces.intake in
    let partial = rw c.in-Ok-Partial.field-0-is at c.in-Ok-Partial.ensures.partial in
    let none : HasNoRequestHead the_limits held = none_begun held (subst (λ (b : List ℕ). HasNoRequest b) c.bytes.ensures partial) in
    record {
      room = omega (arith, c.parse_request.auto.headers, c.pieces.invariant.room);
      whole = held_more c.args.intake.now held c.fill.new.self _ _ _ _ c.pieces.invariant.whole c.in_ok-fill.ensures.came;
      asks = asks_more (HasNoRequestHead the_limits) c.args.intake.now held c.fill.new.self _ _ _ _ c.pieces.invariant.whole c.pieces.invariant.asks c.in_ok-fill.ensures.came c.in_ok-fill.ensures.few none;
      quiet = c.in_ok-fill.ensures.quiet (λ clash. cc) ∙ c.pieces.invariant.quiet;
    }
