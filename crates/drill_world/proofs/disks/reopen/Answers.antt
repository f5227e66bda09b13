use Rattle.std.proofs.Common.{◌≡◌, subst, sym}
use Rattle.std.proofs.Math.Path.{fun_ext}
use Rattle.std.proofs.lemmas.Result.{IfOk-weaker}
use Rattle.as4_disk.specs.Memory.{picked, reads}
use Rattle.exchange_model.specs.End.{End}
use Rattle.drill_world.specs.Disks.{IsOf}
use Rattle.drill_world.proofs.disks.reopen.Goals as goal

pub returns-in-Ok-clause-end : goal.returns-in-Ok-clause-end
returns-in-Ok-clause-end c =
    let same : reads c.in-Ok.disk ≡ picked c.args.pick c.args.disk = fun_ext c.in-Ok.ensures.image in
    IfOk-weaker c.open_on.result (λ o. (end : End) → IsOf end (reads c.in-Ok.disk) → o.0.end ≡ end)
    (λ o. (end : End) → IsOf end (picked c.args.pick c.args.disk) → o.0.end ≡ end) (λ o ends end is. ends end (subst (IsOf end) (sym same) is)) c.open_on.ensures.end
