use Rattle.std.proofs.Common.{sym}
use Rattle.mime_package.proofs.RootedLemmas.{package_of_removed}
use Rattle.mime_package.proofs.read.package_at.Goals as goal

pub returns : goal.returns
returns c =
    rw c.remove-root.ensures.items (sym (package_of_removed c.args.parts.items c.args.at c.remove-root.result c.requires c.remove-root.ensures.value))
