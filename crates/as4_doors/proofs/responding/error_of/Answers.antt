use Rattle.as4_doors.proofs.responding.error_of.Goals as goal

pub returns : goal.returns
returns c = rw c.as_ref.ensures.value at c.error_signal.ensures
