use Rattle.std.proofs.Common.{◌≡◌, ℕ, ◌+◌, Bool, Err, Option, refl, ◌≤◌, List, ◌++◌, ◌∷◌, [], length, take, true, false, sym, ◌∙◌, ap, subst, arith}
use Rattle.std.specs.List.{flat_map}
use Rattle.std.proofs.lemmas.List.Elements.{All-nil, All-push}
use Rattle.as4_flow.specs.Flow.{before}
use Rattle.httparse.specs.Grammar.{print_field, IsField}
use Rattle.as4_http.specs.Limits.{Limits, the_limits}
use Rattle.as4_http.specs.Passed.{GoesOver, ReadsTrailers, IsLongTrailers}
use Rattle.as4_http.specs.Refused.{MayBecome}
use Rattle.as4_http.specs.Trailers.{AreTrailers, IsLine, EndsTrailers, BeginsNoLine, TakesTrailers, HasNoTrailers}
use Rattle.as4_flow.proofs.FlowLemmas.{before_nil}
use Rattle.as4_http.proofs.AskedLemmas.{asks_nothing}
use Rattle.as4_http.proofs.LineLemmas.{line_cut, line_within}
use Rattle.as4_http.proofs.PassedLemmas.{shows_behind, too_long_exit}
use Rattle.as4_http.proofs.RefusedLemmas.{refused_exit, refuses_behind, bad_exit, may_behind}
use Rattle.as4_http.proofs.StreamLemmas.{dooms_behind}
use Rattle.as4_http.proofs.TrailerLemmas.{asks_line, none_behind, none_with, over_behind, whole_behind, takes_all, passes_on, passes_count}
use Rattle.as4_http.proofs.trailers.take_trailers.Goals as goal

pub returns-in_err-len-clause-refused : goal.returns-in_err-len-clause-refused
returns-in_err-len-clause-refused g c =
    refused_exit c.from_residual.result c.in_err-len.field-0.0 c.from_residual.ensures.1
    (refuses_behind (HasNoTrailers c.lines.passed) (HasNoTrailers 0) (MayBecome (AreTrailers c.lines.passed)) (MayBecome (AreTrailers 0)) _ _ _ (flat_map print_field c.lines.invariant.fields) c.lines.invariant.taken
    (λ limits rest none. none_behind c.lines.invariant.fields limits rest c.lines.invariant.valid (subst (λ (n : ℕ). HasNoTrailers n limits rest) (sym c.lines.invariant.count) none))
    (may_behind (AreTrailers c.lines.passed) (AreTrailers 0) (flat_map print_field c.lines.invariant.fields) (whole_behind c.lines.invariant.fields c.lines.passed c.lines.invariant.valid c.lines.invariant.count)))
    c.in_err-len.ensures.refused

pub returns-in_err-len-clause-passed : goal.returns-in_err-len-clause-passed
returns-in_err-len-clause-passed g c =
    too_long_exit c.from_residual.result c.in_err-len.field-0.0 c.from_residual.ensures.1
    (λ is. shows_behind (GoesOver ReadsTrailers (IsLongTrailers c.lines.passed)) (GoesOver ReadsTrailers (IsLongTrailers 0)) _ _ _ (flat_map print_field c.lines.invariant.fields) c.lines.invariant.taken (over_behind c.lines.invariant.fields c.lines.passed c.lines.invariant.valid c.lines.invariant.count) (c.in_err-len.ensures.passed (ap Err is)))

pub ends_trailers-requires : goal.ends_trailers-requires
ends_trailers-requires g c =
    subst (λ (b : List ℕ). IsLine (take c.in_ok-len.len b)) (sym c.bytes.ensures) (line_cut c.hold_line.new.intake c.in_ok-len.len c.in_ok-len.ensures.ok)

pub returns-in_err-ended-clause-refused : goal.returns-in_err-ended-clause-refused
returns-in_err-ended-clause-refused g c =
    let held = c.hold_line.new.intake in
    let none : BeginsNoLine (take c.in_ok-len.len held) = subst (λ (b : List ℕ). BeginsNoLine (take c.in_ok-len.len b)) c.bytes.ensures c.in_err-ended.ensures.none in
    bad_exit (HasNoTrailers 0) (MayBecome (AreTrailers 0)) _ (g.S.Source.left c.hold_line.new.source) c.from_residual-in_err-ended.result c.in_err-ended.field-0.0 c.from_residual-in_err-ended.ensures.1 c.in_err-ended.ensures.bad
    (dooms_behind (λ bytes. (limits : Limits) → HasNoTrailers (length (flat_map print_field c.lines.invariant.fields)) limits bytes) (λ bytes. (limits : Limits) → HasNoTrailers 0 limits bytes) _ _ _ (flat_map print_field c.lines.invariant.fields) c.lines.invariant.taken
    (λ rest none limits. none_behind c.lines.invariant.fields limits rest c.lines.invariant.valid (none limits))
    (record { read = held; taken = c.hold_line.ensures.whole; doomed = λ more limits. none_with limits held c.in_ok-len.len (length (flat_map print_field c.lines.invariant.fields)) none more }))

pub returns-then-ended-clause-ok : goal.returns-then-ended-clause-ok
returns-then-ended-clause-ok g c =
    let held = c.hold_line.new.intake in
    let left = g.S.Source.left c.hold_line.new.source in
    let passed = c.lines.invariant.fields in
    let ends : EndsTrailers (take c.in_ok-len.len held) true = subst (λ (b : List ℕ). EndsTrailers (take c.in_ok-len.len b) true) c.bytes.ensures (subst (λ (b : Bool). EndsTrailers (take c.in_ok-len.len c.bytes.result.now) b) c.if-ended.true c.in_ok-ended.ensures.ok) in
    let so_far : before c.args.intake.now (g.S.Source.left c.args.source.now) ≡ before (flat_map print_field passed) (before held left) = c.lines.invariant.taken ∙ ap (λ (t : Option (List ℕ)). before (flat_map print_field passed) t) c.hold_line.ensures.whole in
    let within : c.in_ok-len.len ≤ length held = line_within held c.in_ok-len.len c.in_ok-len.ensures.ok in
    subst (λ (l : List ℕ). TakesTrailers (before c.args.intake.now (g.S.Source.left c.args.source.now)) (before l left)) (sym c.skip.ensures)
    (takes_all passed ends.0 (take c.in_ok-len.len held) held _ left c.in_ok-len.len c.lines.invariant.valid so_far refl ends.1 (omega (arith, c.in_ok-len.ensures.within, c.lines.invariant.count)) within)

pub lines-preserved : goal.lines-preserved
lines-preserved g c =
    let held = c.hold_line.new.intake in
    let left = g.S.Source.left c.hold_line.new.source in
    let passed = c.lines.invariant.fields in
    let field : EndsTrailers (take c.in_ok-len.len held) false = subst (λ (b : List ℕ). EndsTrailers (take c.in_ok-len.len b) false) c.bytes.ensures (subst (λ (b : Bool). EndsTrailers (take c.in_ok-len.len c.bytes.result.now) b) c.if-ended.false c.in_ok-ended.ensures.ok) in
    let so_far : before c.args.intake.now (g.S.Source.left c.args.source.now) ≡ before (flat_map print_field passed) (before held left) = c.lines.invariant.taken ∙ ap (λ (t : Option (List ℕ)). before (flat_map print_field passed) t) c.hold_line.ensures.whole in
    let within : c.in_ok-len.len ≤ length held = line_within held c.in_ok-len.len c.in_ok-len.ensures.ok in record {
      fields = passed ++ field.0 ∷ [];
      valid = All-push IsField passed field.0 c.lines.invariant.valid field.1;
      count = passes_count passed field.0 (take c.in_ok-len.len held) held c.in_ok-len.len refl field.2 within ∙ ap (λ (n : ℕ). n + c.in_ok-len.len) c.lines.invariant.count;
      within = omega (arith, c.in_ok-len.ensures.within, c.lines.invariant.within);
      taken = subst (λ (l : List ℕ). before c.args.intake.now (g.S.Source.left c.args.source.now) ≡ before (flat_map print_field (passed ++ field.0 ∷ [])) (before l left)) (sym c.skip.ensures)
          (passes_on passed field.0 (take c.in_ok-len.len held) held _ left c.in_ok-len.len so_far refl field.2);
      asks = asks_line c.lines.invariant.fields c.lines.passed c.args.intake.now c.lines.intake _ _ _ c.lines.invariant.valid c.lines.invariant.count c.lines.invariant.taken c.lines.invariant.asks c.in_ok-len.ensures.asks;
      quiet = c.in_ok-len.ensures.quiet (λ clash. cc) ∙ c.lines.invariant.quiet;
    }

pub lines-init : goal.lines-init
lines-init g c = record {
  fields = [];
  valid = All-nil IsField;
  count = refl;
  within = omega arith;
  taken = sym (before_nil _);
  asks = asks_nothing (HasNoTrailers 0 the_limits) c.args.intake.now _ _ refl;
  quiet = refl;
}

pub returns-in_err-len-clause-asks : goal.returns-in_err-len-clause-asks
returns-in_err-len-clause-asks g c = asks_line c.lines.invariant.fields c.lines.passed c.args.intake.now c.lines.intake _ _ _ c.lines.invariant.valid c.lines.invariant.count c.lines.invariant.taken c.lines.invariant.asks c.in_err-len.ensures.asks

pub returns-in_err-ended-clause-asks : goal.returns-in_err-ended-clause-asks
returns-in_err-ended-clause-asks g c = asks_line c.lines.invariant.fields c.lines.passed c.args.intake.now c.lines.intake _ _ _ c.lines.invariant.valid c.lines.invariant.count c.lines.invariant.taken c.lines.invariant.asks c.in_ok-len.ensures.asks

pub returns-then-ended-clause-asks : goal.returns-then-ended-clause-asks
returns-then-ended-clause-asks g c = asks_line c.lines.invariant.fields c.lines.passed c.args.intake.now c.lines.intake _ _ _ c.lines.invariant.valid c.lines.invariant.count c.lines.invariant.taken c.lines.invariant.asks c.in_ok-len.ensures.asks
