use Rattle.package_laws.proofs.PackageLemmas.{package_again}
use Rattle.package_laws.proofs.laws.package_is_read_again.Goals as goal

pub returns : goal.returns
returns c = λ root n free few. package_again root n c.args.payloads.now free few
