use Rattle.std.proofs.Common.{◌≡◌, true, ap, ◌∙◌}
use Rattle.drill_world.specs.Transcript.{DrillState}
use Rattle.drill_world.proofs.StateLemmas.{left_is, left_put, met_makes, right_is, right_put, right_site}
use Rattle.drill_world.proofs.state.DrillState.meet.Goals as goal

pub returns-in-A : goal.returns-in-A
returns-in-A c =
    let s = c.self.inside in
    let state = c.count.new.self in
    let begun : s.begun ≡ true = ap (λ (t : DrillState). t.begun) (c.self.view_is ∙ c.count.ensures) ∙ c.requires.begun in
    met_makes c.args.end c.args.event c.args.number c.args.lost s.left c.meet.new.self c.meet.result c.args.self.now state _ c.count.ensures
    (left_is c.args.end s.left s.right s.modes.items s.events s.begun state c.in-A.is c.self.view_is (c.self.invariant.shared begun).0)
    (left_put c.args.end s.left s.right c.meet.new.self s.modes.items s.events s.begun state c.in-A.is c.self.view_is)
    c.requires.begun c.requires.nonce c.requires.heard c.meet.ensures.meets

pub returns-in_default : goal.returns-in_default
returns-in_default c =
    let s = c.self.inside in
    let state = c.count.new.self in
    let begun : s.begun ≡ true = ap (λ (t : DrillState). t.begun) (c.self.view_is ∙ c.count.ensures) ∙ c.requires.begun in
    met_makes c.args.end c.args.event c.args.number c.args.lost s.right c.meet-in_default.new.self c.meet-in_default.result c.args.self.now state _ c.count.ensures
    (right_is c.args.end s.left s.right s.modes.items s.events s.begun state (right_site c.args.end c.in_default.not-A) c.self.view_is (c.self.invariant.shared begun).1)
    (right_put c.args.end s.left s.right c.meet-in_default.new.self s.modes.items s.events s.begun state (right_site c.args.end c.in_default.not-A) c.self.view_is)
    c.requires.begun c.requires.nonce c.requires.heard c.meet-in_default.ensures.meets
