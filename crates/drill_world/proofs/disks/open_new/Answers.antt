use Rattle.std.proofs.Common.{◌≡◌}
use Rattle.std.proofs.lemmas.Result.{IfOk-weaker}
use Rattle.as4_disk.specs.Memory.{reads}
use Rattle.exchange_model.specs.End.{End, empty_end}
use Rattle.drill_world.specs.Disks.{IsOf}
use Rattle.drill_world.proofs.DiskLemmas.{empty_of}
use Rattle.drill_world.proofs.disks.open_new.Goals as goal

pub returns-clause-end : goal.returns-clause-end
returns-clause-end c =
    IfOk-weaker c.open_on.result (λ o. (end : End) → IsOf end (reads c.empty_disk.result) → o.0.end ≡ end) (λ o. o.0.end ≡ empty_end)
    (λ o ends. ends empty_end (empty_of (reads c.empty_disk.result) c.empty_disk.ensures)) c.open_on.ensures.end
