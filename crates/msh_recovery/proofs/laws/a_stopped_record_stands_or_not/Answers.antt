use Rattle.journal.specs.Calls.{record_calls}
use Rattle.msh_recovery.proofs.StopLemmas.{leaves}
use Rattle.msh_recovery.proofs.laws.a_stopped_record_stands_or_not.Goals as goal

pub returns : goal.returns
returns c old new part gate body end next ok call pick puts run none stops some few =
    let known = c.a_stopped_run_is_known.ensures (record_calls part gate body) old new ok call run none stops some few in
    (known.0, λ kept. leaves old new part gate body end next puts (known.1 kept).0 call pick some few (known.1 kept).1)
