use Rattle.mime_package.proofs.EncodedLemmas.{never_memory}
use Rattle.mime_package.proofs.laws.the_meaning_wants_no_memory.Goals as goal

pub returns : goal.returns
returns c = never_memory
