use Rattle.journal.proofs.BrokenLemmas.{lists_unbroken}
use Rattle.msh_recovery.proofs.UnfitLemmas.{opens_reads, reads_journal}
use Rattle.msh_recovery.proofs.laws.no_whole_disk_is_unfit.Goals as goal

pub returns-clause-broken : goal.returns-clause-broken
returns-clause-broken c image end at opens broken =
    let reads = opens_reads image end opens in lists_unbroken _ at reads.0 broken reads.1

pub returns-clause-whole : goal.returns-clause-whole
returns-clause-whole c image end at opens none = reads_journal c.one_body.ensures at image end (opens_reads image end opens) none

pub returns-clause-read : goal.returns-clause-read
returns-clause-read c image end at reads none = reads_journal c.one_body.ensures at image end reads none
