use Rattle.mime_package.proofs.BreakLemmas.{no_boundary}
use Rattle.mime_package.proofs.laws.a_body_without_a_delimiter.Goals as goal

pub returns : goal.returns
returns c = no_boundary
