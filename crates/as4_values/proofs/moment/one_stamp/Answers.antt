use Rattle.as4_values.proofs.MomentLemmas.{one_stamp_of}
use Rattle.as4_values.proofs.moment.one_stamp.Goals as goal

-- by the calendar's day numbers
pub returns : goal.returns
returns c = one_stamp_of
