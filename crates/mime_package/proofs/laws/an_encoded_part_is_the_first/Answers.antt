use Rattle.mime_package.proofs.EncodedLemmas.{encoded_part}
use Rattle.mime_package.proofs.laws.an_encoded_part_is_the_first.Goals as goal

pub returns : goal.returns
returns c = encoded_part
