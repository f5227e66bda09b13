use Rattle.std.proofs.Common.{◌≡◌, ℕ, List, ◌+◌, ◌-◌, ◌++◌, length, take, drop, ap, ◌∙◌, arith}
use Rattle.std.proofs.lemmas.Grind.{common_steps}
use Rattle.journal.specs.Leaf.{frame_of}
use Rattle.journal.proofs.FrameLemmas.{frame_is, frame_filled, length-frame}
use Rattle.journal.proofs.frame.Frame.fill.Goals as goal

pub put_body-requires : goal.put_body-requires
put_body-requires c =
    let bytes = c.self.inside.bytes.items in
    omega (arith, ap length c.deref_mut.ensures.value, ap length c.self.invariant.0, length-frame (take (length bytes - 10) (drop 9 bytes)), ap length c.self.view_is, c.requires)

pub invariant_of-self : goal.invariant_of-self
invariant_of-self c =
    let bytes = c.self.inside.bytes.items in
    let body = c.args.body.now in
    let new = c.put_body.new.bytes in
    let same_len : length body ≡ length (take (length bytes - 10) (drop 9 bytes)) = omega (arith, c.requires, ap length c.self.view_is) in
    let filled : new ≡ frame_of body =
    c.put_body.ensures ∙ ap (λ (l : List ℕ). take 9 l ++ body ++ drop (9 + length body) l) c.deref_mut.ensures.value
    ∙ frame_filled (take (length bytes - 10) (drop 9 bytes)) body bytes c.self.invariant.0 same_len in
    let new_len : length new ≡ length bytes = omega (arith, ap length filled, length-frame body, same_len, ap length c.self.invariant.0, length-frame (take (length bytes - 10) (drop 9 bytes))) in
    let whole : take c.self.inside.bytes.len (new ++ drop (length new) bytes) ≡ new = grind (arith, common_steps) in
    (frame_is body (take c.self.inside.bytes.len (new ++ drop (length new) bytes)) (whole ∙ filled), omega (arith, ap length whole, new_len, c.self.invariant.1))
