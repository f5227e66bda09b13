use Rattle.std.proofs.Common.{◌≡◌, true, ap, ◌∙◌}
use Rattle.drill_world.specs.Transcript.{DrillState}
use Rattle.drill_world.proofs.StateLemmas.{left_is, left_put, put_folds, right_is, right_put, right_site}
use Rattle.drill_world.proofs.state.DrillState.fold_at.Goals as goal

pub returns-in-A : goal.returns-in-A
returns-in-A c =
    let s = c.self.inside in
    let state = c.args.self.now in
    let begun : s.begun ≡ true = ap (λ (t : DrillState). t.begun) c.self.view_is ∙ c.requires in
    put_folds c.args.end s.left c.fold.new.self c.fold.result state _
    (left_is c.args.end s.left s.right s.modes.items s.events s.begun state c.in-A.is c.self.view_is (c.self.invariant.shared begun).0)
    (left_put c.args.end s.left s.right c.fold.new.self s.modes.items s.events s.begun state c.in-A.is c.self.view_is) c.fold.ensures.folds

pub returns-in_default : goal.returns-in_default
returns-in_default c =
    let s = c.self.inside in
    let state = c.args.self.now in
    let begun : s.begun ≡ true = ap (λ (t : DrillState). t.begun) c.self.view_is ∙ c.requires in
    put_folds c.args.end s.right c.fold-in_default.new.self c.fold-in_default.result state _
    (right_is c.args.end s.left s.right s.modes.items s.events s.begun state (right_site c.args.end c.in_default.not-A) c.self.view_is (c.self.invariant.shared begun).1)
    (right_put c.args.end s.left s.right c.fold-in_default.new.self s.modes.items s.events s.begun state (right_site c.args.end c.in_default.not-A) c.self.view_is) c.fold-in_default.ensures.folds
