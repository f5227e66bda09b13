use Rattle.std.proofs.Common.{◌≡◌, ℕ, List, ◌∷◌, [], ◌++◌, length, ap, arith, ◌∙◌}
use Rattle.journal.specs.Leaf.{frame_of}
use Rattle.journal.proofs.FrameLemmas.{body_in_frame, frame_is, length-frame}
use Rattle.journal.proofs.frame.Frame.end.Goals as goal

pub invariant_of-result : goal.invariant_of-result
invariant_of-result c =
    let same : c.push.new.self.items ≡ frame_of c.requires.0 = c.in_ok-push.ensures.items ∙ ap (λ (l : List ℕ). l ++ 0 ∷ []) c.requires.2 in
    (frame_is c.requires.0 c.push.new.self.items same, omega (arith, ap length same, length-frame c.requires.0, c.requires.1))

pub returns : goal.returns
returns c body are = body_in_frame body c.push.new.self.items (c.in_ok-push.ensures.items ∙ ap (λ (l : List ℕ). l ++ 0 ∷ []) are)
