use Rattle.std.proofs.Common.{◌≡◌, ◌+◌, ◌++◌, ℕ, List, Option, Bor, ap, subst, ◌∙◌, take}
use Rattle.std.specs.Prelude.{◌&&◌, is_none, nat_lt}
use Rattle.std.proofs.lemmas.List.{take_all}
use Rattle.as4_audit.specs.Audit.{AllRead}
use Rattle.as4_audit.specs.Start.{stage_after}
use Rattle.as4_audit.proofs.ListLemmas.{bytes_more, bytes_of}
use Rattle.as4_effects.specs.declared.effect.Effect.{Effect}
use Rattle.auditor.specs.Lines.{lines_before}
use Rattle.auditor.proofs.LineLemmas.{lines_all, lines_if, lines_on}
use Rattle.auditor.proofs.lines.add_records.Goals as goal

pub loop-body-preserved : goal.loop-body-preserved
loop-body-preserved c =
    let here = c.loop-body in
    let bodies = bytes_of (take here.body-index c.args.bodies.now) in
    let item = c.in_ok-item.item in
    let place = c.args.place in
    let next : c.stage_after-stage.result ≡ stage_after here.stage item = c.stage_after-stage.ensures in
    let shown : c.is_shown.result ≡ (is_none (stage_after here.stage item) && nat_lt here.index place) =
    c.is_shown.ensures ∙ ap (λ stage. is_none stage && nat_lt here.index place) next in
    let text : c.add_record-after.new.out.items ≡ here.out.items ++ lines_if (is_none (stage_after here.stage item) && nat_lt here.index place) here.received item =
    c.in_ok-received.ensures.text ∙ ap (λ b. here.out.items ++ lines_if b here.received item) shown in
    record {
      placed = ap (λ n. n + 1) here.invariant.placed;
      lines = rw (bytes_more c.args.bodies.now here.body-index c.loop-body-test.true, text, c.in_ok-received.ensures.count, next)
          (lines_on bodies place here.index here.stage here.received c.args.out.now.items here.out.items _ item here.invariant.lines c.in_ok-item.ensures);
    }

pub returns : goal.returns
returns c =
    let here = c.loop-body in
    let bodies = c.args.bodies.now in
    let old = c.args.out.now.items in
    subst (λ (all : List (Bor (List ℕ))). (records : List (Option (List Effect))) × AllRead (bytes_of all) records
    × (here.out.items ≡ old ++ lines_before c.args.place records)) (take_all here.body-index bodies c.loop-body-test.false)
    (lines_all (bytes_of (take here.body-index bodies)) c.args.place here.index here.stage here.received old here.out.items here.invariant.lines)
