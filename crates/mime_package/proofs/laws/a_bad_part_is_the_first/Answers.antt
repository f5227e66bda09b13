use Rattle.mime_package.proofs.BreakLemmas.{body_breaks, broken_body}
use Rattle.mime_package.proofs.laws.a_bad_part_is_the_first.Goals as goal

pub returns : goal.returns
returns c = λ boundary body k is. (body_breaks boundary body k is, broken_body boundary body k is)
