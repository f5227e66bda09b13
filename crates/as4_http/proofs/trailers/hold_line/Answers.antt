use Rattle.std.proofs.Common.{◌≡◌, List, ℕ, ◌+◌, ◌-◌, ◌≤◌, length, take, refl, sym, ◌∙◌, subst, ap, Err, arith, length-append}
use Rattle.std.proofs.lemmas.List.{length-take-le, take_at}
use Rattle.as4_http.specs.Limits.{the_limits}
use Rattle.as4_flow.specs.Flow.{before}
use Rattle.as4_http.specs.declared.limits.TheConstants.{MAX_TRAILERS}
use Rattle.as4_http.specs.declared.refusal.HttpRefusal.TheVariants.{Cut}
use Rattle.as4_http.specs.Refused.{MayBecome, Denies}
use Rattle.as4_http.specs.Trailers.{HasNoLf, BeginsWithLine, AreTrailers, HasNoTrailers}
use Rattle.as4_http.proofs.AskedLemmas.{asks_nothing, asks_more, held_more}
use Rattle.as4_http.proofs.LineLemmas.{no_lf_none, no_lf_take, no_lf_within, line_within}
use Rattle.as4_http.proofs.RefusedLemmas.{denies_held}
use Rattle.as4_http.proofs.StreamLemmas.{told_end}
use Rattle.as4_http.proofs.TrailerLemmas.{none_ended, endless_refuses, endless_shows}
use Rattle.as4_http.proofs.trailers.hold_line.Goals as goal

pub pieces-init : goal.pieces-init
pieces-init g c = record { within = omega arith; none = no_lf_none; whole = refl; asks = asks_nothing (HasNoTrailers c.args.passed the_limits) c.args.intake.now _ _ refl; quiet = refl }

pub pieces-preserved : goal.pieces-preserved
pieces-preserved g c =
    let held = c.pieces.intake in
    let came = c.in-Ok.ensures.came in
    let none : HasNoLf held = subst (λ (b : List ℕ). HasNoLf b) c.bytes.ensures c.in-None.ensures.none in
    record {
      within = omega (arith, c.len-scanned.ensures, ap length came.held, length-append held came.piece);
      none = subst HasNoLf (sym (take_at held came.piece c.len-scanned.result (sym c.len-scanned.ensures)) ∙ ap (λ (l : List ℕ). take c.len-scanned.result l) (sym came.held)) none;
      whole = held_more c.args.intake.now held c.fill.new.self _ _ _ _ c.pieces.invariant.whole came;
      asks = asks_more (HasNoTrailers c.args.passed the_limits) c.args.intake.now held c.fill.new.self _ _ _ _ c.pieces.invariant.whole c.pieces.invariant.asks came c.in-Ok.ensures.few (none_ended the_limits held c.args.passed none);
      quiet = c.in-Ok.ensures.quiet (λ clash. cc) ∙ c.pieces.invariant.quiet;
    }

-- as many bytes as the limit leaves
full : (held : List ℕ) (passed n : ℕ) → passed ≤ MAX_TRAILERS → n ≡ MAX_TRAILERS - passed → n ≤ length held → MAX_TRAILERS ≤ passed + length (take n held)
full held passed n within most enough = omega (arith, length-take-le n held enough)

pub endless-requires : goal.endless-requires
endless-requires g c =
    let line : BeginsWithLine c.pieces.intake c.in-Some.len = subst (λ (b : List ℕ). BeginsWithLine b c.in-Some.len) c.bytes.ensures c.in-Some.ensures.some in
    subst (λ (b : List ℕ). HasNoLf (take (MAX_TRAILERS - c.args.passed) b)) (sym c.bytes-in-Some-2.ensures) (no_lf_within c.pieces.intake c.in-Some.len (MAX_TRAILERS - c.args.passed) line c.if-len-most.false)

pub returns-in-Some-2-clause-refused : goal.returns-in-Some-2-clause-refused
returns-in-Some-2-clause-refused g c =
    let held = c.pieces.intake in
    let most = MAX_TRAILERS - c.args.passed in
    let line : BeginsWithLine held c.in-Some.len = subst (λ (b : List ℕ). BeginsWithLine b c.in-Some.len) c.bytes.ensures c.in-Some.ensures.some in
    endless_refuses c.endless.result _ (g.S.Source.left c.pieces.source) c.bytes-in-Some-2.result.now held most c.args.passed c.endless.ensures.either c.endless.ensures.bad c.bytes-in-Some-2.ensures c.pieces.invariant.whole (no_lf_within held c.in-Some.len most line c.if-len-most.false) (full held c.args.passed most c.requires refl (omega (arith, c.if-len-most.false, line_within held c.in-Some.len line)))

pub returns-in-Some-2-clause-passed : goal.returns-in-Some-2-clause-passed
returns-in-Some-2-clause-passed g c =
    let held = c.pieces.intake in
    let most = MAX_TRAILERS - c.args.passed in
    let line : BeginsWithLine held c.in-Some.len = subst (λ (b : List ℕ). BeginsWithLine b c.in-Some.len) c.bytes.ensures c.in-Some.ensures.some in
    λ is. endless_shows _ (g.S.Source.left c.pieces.source) c.bytes-in-Some-2.result.now held most c.args.passed (c.endless.ensures.too_long (cc)) c.bytes-in-Some-2.ensures c.pieces.invariant.whole (no_lf_within held c.in-Some.len most line c.if-len-most.false) (full held c.args.passed most c.requires refl (omega (arith, c.if-len-most.false, line_within held c.in-Some.len line)))

pub endless-requires-then-scanned-most : goal.endless-requires-then-scanned-most
endless-requires-then-scanned-most g c =
    let none : HasNoLf c.pieces.intake = subst (λ (b : List ℕ). HasNoLf b) c.bytes.ensures c.in-None.ensures.none in
    subst (λ (b : List ℕ). HasNoLf (take (MAX_TRAILERS - c.args.passed) b)) (sym c.bytes-then-scanned-most.ensures) (no_lf_take c.pieces.intake (MAX_TRAILERS - c.args.passed) none)

pub returns-then-scanned-most-clause-refused : goal.returns-then-scanned-most-clause-refused
returns-then-scanned-most-clause-refused g c =
    let held = c.pieces.intake in
    let most = MAX_TRAILERS - c.args.passed in
    let none : HasNoLf held = subst (λ (b : List ℕ). HasNoLf b) c.bytes.ensures c.in-None.ensures.none in
    endless_refuses c.endless-then-scanned-most.result _ (g.S.Source.left c.pieces.source) c.bytes-then-scanned-most.result.now held most c.args.passed c.endless-then-scanned-most.ensures.either c.endless-then-scanned-most.ensures.bad c.bytes-then-scanned-most.ensures c.pieces.invariant.whole (no_lf_take held most none) (full held c.args.passed most c.requires refl (omega (arith, c.if-scanned-most.true, c.len-scanned.ensures)))

pub returns-then-scanned-most-clause-passed : goal.returns-then-scanned-most-clause-passed
returns-then-scanned-most-clause-passed g c =
    let held = c.pieces.intake in
    let most = MAX_TRAILERS - c.args.passed in
    let none : HasNoLf held = subst (λ (b : List ℕ). HasNoLf b) c.bytes.ensures c.in-None.ensures.none in
    λ is. endless_shows _ (g.S.Source.left c.pieces.source) c.bytes-then-scanned-most.result.now held most c.args.passed (c.endless-then-scanned-most.ensures.too_long (cc)) c.bytes-then-scanned-most.ensures c.pieces.invariant.whole (no_lf_take held most none) (full held c.args.passed most c.requires refl (omega (arith, c.if-scanned-most.true, c.len-scanned.ensures)))

pub returns-in-Err-Cut-clause-refused : goal.returns-in-Err-Cut-clause-refused
returns-in-Err-Cut-clause-refused g c =
    let held = c.pieces.intake in
    let none : HasNoLf held = subst (λ (b : List ℕ). HasNoLf b) c.bytes.ensures c.in-None.ensures.none in
    let same = c.in-Err-Cut.ensures.same in
    let taken = c.pieces.invariant.whole ∙ ap (λ t. before held t) (sym same.1) in
    let end = c.in-Err-Cut.ensures.cut (ap Err c.in-Err-Cut.field-0-is) in
    let cut_line : c.unended_line.result ≡ Cut → MayBecome (AreTrailers c.args.passed) held = λ cut. subst (MayBecome (AreTrailers c.args.passed)) (c.bytes-in-Err-Cut.ensures ∙ same.0) (c.unended_line.ensures.cut cut) in
    denies_held (HasNoTrailers c.args.passed) (MayBecome (AreTrailers c.args.passed)) _ (g.S.Source.left c.fill.new.source) held taken c.unended_line.result
    (λ cut. told_end (λ stream. HasNoTrailers c.args.passed the_limits stream × MayBecome (AreTrailers c.args.passed) stream) _ (g.S.Source.left c.pieces.source) held c.pieces.invariant.whole end (none_ended the_limits held c.args.passed none, cut_line cut))
    (subst (λ (b : List ℕ). Denies (HasNoTrailers c.args.passed) b c.unended_line.result) (c.bytes-in-Err-Cut.ensures ∙ same.0) c.unended_line.ensures.denied)
