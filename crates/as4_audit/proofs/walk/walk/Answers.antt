use Rattle.std.proofs.Common.{◌≡◌, ◌+◌, ◌∙◌, ℕ, List, Bor, if◌then◌else◌, refl, ap, sym, subst, take}
use Rattle.std.specs.Prelude.{is_some}
use Rattle.std.proofs.lemmas.List.{take_all}
use Rattle.as4_audit.specs.Start.{stage_after}
use Rattle.as4_audit.specs.Taking.{IsAdded, IsTaken, IsWalk}
use Rattle.as4_audit.specs.declared.walk.Walked.TheVariants as walked
use Rattle.as4_audit.proofs.ListLemmas.{body_at, bytes_more, bytes_of, bytes_split}
use Rattle.as4_audit.proofs.WalkLemmas.{walked_all, walked_none, walked_on, walked_wrong}
use Rattle.as4_audit.proofs.walk.walk.Goals as goal
use Rattle.as4_audit.proofs.walk.walk.Goals.{then-is_some, else-is_some}

pub loop-body-init : goal.loop-body-init
loop-body-init g c = record {
  same = c.requires.same;
  placed = refl;
  walked = walked_none c.args.modes.now c.args.core.now.end (g.E.Collects.holds c.args.events.now) c.requires.reached c.requires.none;
}

pub returns-then-not-is_right : goal.returns-then-not-is_right
returns-then-not-is_right g c =
    let here = c.loop-body in
    let i = here.body-index in
    let lent = c.args.bodies.now in
    let item = c.in_ok-item.item in
    let taken = c.in_ok-taken.taken in
    let Holds = g.E.Collects.holds here.events in
    let More = g.E.Collects.holds c.add_taken.new.events in
    let folded = c.is_some.ensures ∙ ap is_some c.stage_after-stage.ensures in
    let is : IsTaken c.args.modes.now (is_some (stage_after here.stage item)) here.core.end c.take.new.core.end item taken =
    subst (λ b. IsTaken c.args.modes.now b here.core.end c.take.new.core.end item taken) folded c.in_ok-taken.ensures.taken in
    let rest = c.in_ok-read_rest.ensures in
    subst (λ (all : List (List ℕ)). IsWalk c.args.modes.now c.args.core.now.end all More (walked.Wrong here.index)) (sym (bytes_split lent i c.loop-body-test.true))
    (walked_wrong c.args.modes.now c.args.core.now.end (bytes_of (take i lent)) here.index here.stage here.start here.core.end Holds here.invariant.walked
    (body_at lent i).now item c.take.new.core.end More taken _ rest.0 c.in_ok-item.ensures (rw here.invariant.placed at rest.1) is
    (subst (IsAdded Holds More taken) c.if-not-is_right.true c.in_ok-is_right.ensures))

pub loop-body-preserved : goal.loop-body-preserved
loop-body-preserved g c =
    let here = c.loop-body in
    let i = here.body-index in
    let lent = c.args.bodies.now in
    let item = c.in_ok-item.item in
    let taken = c.in_ok-taken.taken in
    let Holds = g.E.Collects.holds here.events in
    let More = g.E.Collects.holds c.add_taken.new.events in
    let folded = c.is_some.ensures ∙ ap is_some c.stage_after-stage.ensures in
    let is : IsTaken c.args.modes.now (is_some (stage_after here.stage item)) here.core.end c.take.new.core.end item taken =
    subst (λ b. IsTaken c.args.modes.now b here.core.end c.take.new.core.end item taken) folded c.in_ok-taken.ensures.taken in
    let again = sym (c.is_some-in-loop-body.ensures ∙ ap is_some c.stage_after-stage.ensures) in
    let count : c.if-is_some.start ≡ (if is_some (stage_after here.stage item) then here.start + 1 else here.start) =
    elim c.if-is_some.branch [
      | then-is_some w ↦ w.start-is ∙ sym (ap (λ b. if b then here.start + 1 else here.start) (again ∙ w.if-is_some.true))
      | else-is_some w ↦ w.start-is ∙ sym (ap (λ b. if b then here.start + 1 else here.start) (again ∙ w.if-is_some.false))
    ] in
    record {
      same = c.in_ok-taken.ensures.same ∙ here.invariant.same;
      placed = ap (λ n. n + 1) here.invariant.placed;
      walked = rw (bytes_more lent i c.loop-body-test.true, count, c.stage_after-stage.ensures)
          (walked_on c.args.modes.now c.args.core.now.end (bytes_of (take i lent)) here.index here.stage here.start here.core.end Holds here.invariant.walked
          (body_at lent i).now item c.take.new.core.end More taken c.in_ok-item.ensures is
          (subst (IsAdded Holds More taken) c.if-not-is_right.false c.in_ok-is_right.ensures));
    }

pub returns : goal.returns
returns g c =
    let here = c.loop-body in
    let lent = c.args.bodies.now in
    let Holds = g.E.Collects.holds here.events in
    subst (λ (all : List (Bor (List ℕ))). IsWalk c.args.modes.now c.args.core.now.end (bytes_of all) Holds (walked.Right here.start)) (take_all here.body-index lent c.loop-body-test.false)
    (walked_all c.args.modes.now c.args.core.now.end (bytes_of (take here.body-index lent)) here.index here.stage here.start here.core.end Holds here.invariant.walked)
