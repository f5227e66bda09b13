use Rattle.mime_package.proofs.CutLaws.{body_is_cut}
use Rattle.mime_package.proofs.laws.a_body_is_cut_so.Goals as goal

pub returns : goal.returns
returns c = body_is_cut
