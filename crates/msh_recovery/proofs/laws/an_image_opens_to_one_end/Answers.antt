use Rattle.msh_recovery.proofs.RecordLemmas.{one_record}
use Rattle.msh_recovery.proofs.UnfitLemmas.{opens_reads, reads_once}
use Rattle.msh_recovery.proofs.laws.an_image_opens_to_one_end.Goals as goal

pub returns-clause-leads : goal.returns-clause-leads
returns-clause-leads c body start a b first other = one_record c.one_body.ensures body start a b first other

pub returns-clause-one : goal.returns-clause-one
returns-clause-one c image a b opens also = reads_once c.one_body.ensures image a b (opens_reads image a opens) (opens_reads image b also)

pub returns-clause-read : goal.returns-clause-read
returns-clause-read c image a b reads also = reads_once c.one_body.ensures image a b reads also

pub returns-clause-whole : goal.returns-clause-whole
returns-clause-whole c image end opens = opens_reads image end opens
