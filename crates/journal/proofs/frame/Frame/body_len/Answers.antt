use Rattle.std.proofs.Common.{length, take, drop, ◌-◌, ap, arith}
use Rattle.journal.proofs.FrameLemmas.{length-frame}
use Rattle.journal.proofs.frame.Frame.body_len.Goals as goal

pub overflow_sub-result : goal.overflow_sub-result
overflow_sub-result c =
    let bytes = c.self.inside.bytes.items in
    omega (arith, c.len.ensures, ap length c.self.invariant.0, length-frame (take (length bytes - 10) (drop 9 bytes)))
