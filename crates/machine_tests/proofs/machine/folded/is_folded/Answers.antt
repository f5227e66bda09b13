use Rattle.std.proofs.Common.{◌≡◌, ◌≤◌, arith}
use Rattle.machine_tests.proofs.machine.folded.is_folded.Goals as goal

pub set_folded-requires : goal.set_folded-requires
set_folded-requires c size is =
    let same = c.folded_size-size.ensures.only size is in
    let few : c.folded_size-size.result ≤ 4294967296 = omega arith in
    omega (arith, same, few)
