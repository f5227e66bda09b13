use Rattle.std.proofs.Common.{◌≡◌, List, ℕ, refl, sym, ◌∙◌, subst, ap, Err, arith}
use Rattle.as4_flow.specs.Flow.{before}
use Rattle.httparse.specs.Grammar.{ChunkLine, HasNoChunkLine, MayBecomeChunkLine}
use Rattle.httparse.specs.Spans.{IsChunkLineAt}
use Rattle.as4_http.specs.ChunkLines.{HasNoLine, IsWholeLine}
use Rattle.as4_http.specs.Limits.{the_limits}
use Rattle.as4_http.specs.Passed.{IsLongLine, IsLargeChunk, long_line, large_chunk}
use Rattle.as4_http.specs.declared.refusal.HttpRefusal.TheVariants.{Cut}
use Rattle.as4_http.specs.Refused.{MayBecome, Denies}
use Rattle.as4_http.proofs.AskedLemmas.{asks_nothing, asks_more, held_more}
use Rattle.as4_http.proofs.ChunkLineLemmas.{line_long, line_over, line_yet, line_none, line_passes, line_passes_yet}
use Rattle.as4_http.proofs.RefusedLemmas.{denies_held}
use Rattle.as4_http.proofs.StreamLemmas.{told_end}
use Rattle.as4_http.proofs.chunk_line.take_line.Goals as goal

pub returns-in-Ok-Complete-clause-refused : goal.returns-in-Ok-Complete-clause-refused
returns-in-Ok-Complete-clause-refused g c =
    let found = rw c.in-Ok-Complete.field-0-is at c.in-Ok-Complete.ensures.complete in
    let at : (line : ChunkLine) × IsChunkLineAt c.pieces.intake c.in-Ok-Complete.len c.in-Ok-Complete.field-0-0-1 line = subst (λ (b : List ℕ). (line : ChunkLine) × IsChunkLineAt b c.in-Ok-Complete.len c.in-Ok-Complete.field-0-0-1 line) c.bytes.ensures found in
    record { read = c.pieces.intake; taken = c.pieces.invariant.whole; doomed = line_long c.pieces.intake c.in-Ok-Complete.len c.in-Ok-Complete.field-0-0-1 at c.if-len-gt-MAX_CHUNK_LINE.true c.args.passed }

pub returns-in-Ok-Complete-2-clause-refused : goal.returns-in-Ok-Complete-2-clause-refused
returns-in-Ok-Complete-2-clause-refused g c =
    let found = rw c.in-Ok-Complete-2.field-0-is at c.in-Ok-Complete.ensures.complete in
    let at : (line : ChunkLine) × IsChunkLineAt c.pieces.intake c.in-Ok-Complete-2.field-0-0-0 c.in-Ok-Complete-2.size line = subst (λ (b : List ℕ). (line : ChunkLine) × IsChunkLineAt b c.in-Ok-Complete-2.field-0-0-0 c.in-Ok-Complete-2.size line) c.bytes.ensures found in
    record { read = c.pieces.intake; taken = c.pieces.invariant.whole; doomed = line_over c.pieces.intake c.in-Ok-Complete-2.field-0-0-0 c.in-Ok-Complete-2.size c.args.passed at (omega (arith, c.if-size-room.true)) }

pub returns-then-len-gt-MAX_CHUNK_LINE-2-clause-refused : goal.returns-then-len-gt-MAX_CHUNK_LINE-2-clause-refused
returns-then-len-gt-MAX_CHUNK_LINE-2-clause-refused g c =
    let partial = rw c.in-Ok-Partial.field-0-is at c.in-Ok-Partial.ensures.partial in
    let none : HasNoChunkLine c.pieces.intake = subst (λ (b : List ℕ). HasNoChunkLine b) c.bytes.ensures partial in
    record { read = c.pieces.intake; taken = c.pieces.invariant.whole; doomed = line_yet c.pieces.intake none (omega arith) c.args.passed }

pub returns-in-Err-Cut-clause-refused : goal.returns-in-Err-Cut-clause-refused
returns-in-Err-Cut-clause-refused g c =
    let held = c.pieces.intake in
    let partial = rw c.in-Ok-Partial.field-0-is at c.in-Ok-Partial.ensures.partial in
    let none : HasNoChunkLine held = subst (λ (b : List ℕ). HasNoChunkLine b) c.bytes.ensures partial in
    let same = c.in-Err-Cut.ensures.same in
    let taken = c.pieces.invariant.whole ∙ ap (λ t. before held t) (sym same.1) in
    let end = c.in-Err-Cut.ensures.cut (ap Err c.in-Err-Cut.field-0-is) in
    let cut_line : c.unended_line.result ≡ Cut → MayBecome (IsWholeLine c.args.passed) held = λ cut. subst (MayBecome (IsWholeLine c.args.passed)) (c.bytes-in-Err-Cut.ensures ∙ same.0) (c.unended_line.ensures.cut cut) in
    denies_held (HasNoLine c.args.passed) (MayBecome (IsWholeLine c.args.passed)) _ (g.S.Source.left c.fill.new.source) held taken c.unended_line.result
    (λ cut. told_end (λ stream. HasNoLine c.args.passed the_limits stream × MayBecome (IsWholeLine c.args.passed) stream) _ (g.S.Source.left c.pieces.source) held c.pieces.invariant.whole end (line_none held c.args.passed none, cut_line cut))
    (subst (λ (b : List ℕ). Denies (HasNoLine c.args.passed) b c.unended_line.result) (c.bytes-in-Err-Cut.ensures ∙ same.0) c.unended_line.ensures.denied)

pub returns-in-Ok-Complete-clause-passed : goal.returns-in-Ok-Complete-clause-passed
returns-in-Ok-Complete-clause-passed g c =
    let found = rw c.in-Ok-Complete.field-0-is at c.in-Ok-Complete.ensures.complete in
    let at : (line : ChunkLine) × IsChunkLineAt c.pieces.intake c.in-Ok-Complete.len c.in-Ok-Complete.field-0-0-1 line = subst (λ (b : List ℕ). (line : ChunkLine) × IsChunkLineAt b c.in-Ok-Complete.len c.in-Ok-Complete.field-0-0-1 line) c.bytes.ensures found in
    λ is. record { read = c.pieces.intake; taken = c.pieces.invariant.whole; holds = long_line (line_passes IsLongLine c.pieces.intake c.in-Ok-Complete.len c.in-Ok-Complete.field-0-0-1 at (omega (arith, at.1.len_is, c.if-len-gt-MAX_CHUNK_LINE.true))) }

pub returns-in-Ok-Complete-2-clause-passed : goal.returns-in-Ok-Complete-2-clause-passed
returns-in-Ok-Complete-2-clause-passed g c =
    let found = rw c.in-Ok-Complete-2.field-0-is at c.in-Ok-Complete.ensures.complete in
    let at : (line : ChunkLine) × IsChunkLineAt c.pieces.intake c.in-Ok-Complete-2.field-0-0-0 c.in-Ok-Complete-2.size line = subst (λ (b : List ℕ). (line : ChunkLine) × IsChunkLineAt b c.in-Ok-Complete-2.field-0-0-0 c.in-Ok-Complete-2.size line) c.bytes.ensures found in
    λ is. record { read = c.pieces.intake; taken = c.pieces.invariant.whole; holds = large_chunk (line_passes (IsLargeChunk c.args.passed) c.pieces.intake c.in-Ok-Complete-2.field-0-0-0 c.in-Ok-Complete-2.size at (omega (arith, at.1.size_is, c.if-size-room.true))) }

pub returns-then-len-gt-MAX_CHUNK_LINE-2-clause-passed : goal.returns-then-len-gt-MAX_CHUNK_LINE-2-clause-passed
returns-then-len-gt-MAX_CHUNK_LINE-2-clause-passed g c =
    let partial = rw c.in-Ok-Partial.field-0-is at c.in-Ok-Partial.ensures.partial in
    let unfinished = rw c.in-Ok-Partial.field-0-is at c.in-Ok-Partial.ensures.unfinished in
    let none : HasNoChunkLine c.pieces.intake = subst (λ (b : List ℕ). HasNoChunkLine b) c.bytes.ensures partial in
    let may : MayBecomeChunkLine c.pieces.intake = subst (λ (b : List ℕ). MayBecomeChunkLine b) c.bytes.ensures unfinished in
    λ is. record { read = c.pieces.intake; taken = c.pieces.invariant.whole; holds = long_line (line_passes_yet c.pieces.intake none may (omega arith)) }

pub pieces-init : goal.pieces-init
pieces-init g c = record { whole = refl; asks = asks_nothing (HasNoLine c.args.passed the_limits) c.args.intake.now _ _ refl; quiet = refl }

pub pieces-preserved : goal.pieces-preserved
pieces-preserved g c =
    let held = c.pieces.intake in
    let partial = rw c.in-Ok-Partial.field-0-is at c.in-Ok-Partial.ensures.partial in
    let none : HasNoLine c.args.passed the_limits held = line_none held c.args.passed (subst (λ (b : List ℕ). HasNoChunkLine b) c.bytes.ensures partial) in
    record {
      whole = held_more c.args.intake.now held c.fill.new.self _ _ _ _ c.pieces.invariant.whole c.in-Ok.ensures.came;
      asks = asks_more (HasNoLine c.args.passed the_limits) c.args.intake.now held c.fill.new.self _ _ _ _ c.pieces.invariant.whole c.pieces.invariant.asks c.in-Ok.ensures.came c.in-Ok.ensures.few none;
      quiet = c.in-Ok.ensures.quiet (λ clash. cc) ∙ c.pieces.invariant.quiet;
    }
