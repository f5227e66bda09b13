use Rattle.package_laws.proofs.PackageLemmas.{envelope_again}
use Rattle.package_laws.proofs.laws.envelope_is_read_again.Goals as goal

pub returns : goal.returns
returns c = envelope_again
