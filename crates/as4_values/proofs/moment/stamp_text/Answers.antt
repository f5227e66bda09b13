use Rattle.std.proofs.Common.{◌≡◌, ◌%◌, arith}
use Rattle.std.proofs.lemmas.Grind.{common_steps}
use Rattle.as4_values.specs.Moment.{stamp_of}
use Rattle.as4_values.proofs.MomentLemmas.{civil_at, stamp_is_of}
use Rattle.as4_values.proofs.MomentTextLemmas.{stamp_of_moment}
use Rattle.as4_values.proofs.moment.stamp_text.Goals as goal

-- the bytes are the text of the moment
pub invariant_of-result : goal.invariant_of-result
invariant_of-result c =
    let made : c.of.result ≡ stamp_of (civil_at c.date_of-date.result (c.args.ms % 86400000)) = grind (arith, common_steps) in
    stamp_of_moment c.args.ms c.of.result
    (stamp_is_of c.args.ms c.date_of-date.result c.of.result c.date_of-date.ensures made)

pub returns : goal.returns
returns c =
    let made : c.of.result ≡ stamp_of (civil_at c.date_of-date.result (c.args.ms % 86400000)) = grind (arith, common_steps) in
    stamp_is_of c.args.ms c.date_of-date.result c.of.result c.date_of-date.ensures made
