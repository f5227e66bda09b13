use Rattle.as4_values.proofs.SignalLemmas.{same_signal}
use Rattle.as4_values.proofs.signal.SignalPlainData.try_clone.Goals as goal

pub returns : goal.returns
returns c =
    rw (c.in_ok-stamp.ensures.0, c.in_ok-stamp.ensures.1)
    (same_signal c.args.self.now c.in_ok-stamp.ref_to c.in_ok-stamp.body c.in_ok-stamp.ensures.2 c.in_ok-stamp.ensures.3 _)
