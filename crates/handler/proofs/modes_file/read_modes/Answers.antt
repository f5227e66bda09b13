use Rattle.std.proofs.Common.{◌≡◌, Some, sym, subst, List, ℕ}
use Rattle.as4_flow.specs.Flow.{Told}
use Rattle.handler.proofs.ModesLemmas.{unread_cause}
use Rattle.handler.proofs.modes_file.read_modes.Goals as goal

-- src/modes_file.rt:24:1
pub returns-in-Bytes-clause-cause : goal.returns-in-Bytes-clause-cause
returns-in-Bytes-clause-cause g c =
    unread_cause c.read-read.result c.modes_or_end.result c.bytes.result.now (g.H.Host.file c.args.host.now c.args.path.now)
    (g.H.Host.fault_count c.args.host.now) (g.H.Host.fault_count c.read_file.new.self)
    c.modes_or_end.ensures c.read-read.ensures.refused
    (subst (λ (b : List ℕ). Told (g.H.Host.file c.args.host.now c.args.path.now) (λ held. held ≡ Some b)) (sym c.bytes.ensures) c.in-Bytes.ensures.file.1)
