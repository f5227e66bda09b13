use Rattle.msh_recovery.proofs.PutLemmas.{put}
use Rattle.msh_recovery.proofs.laws.a_record_is_put.Goals as goal

pub returns : goal.returns
returns g c journal end next body is leads room image told =
    put g.D.Disk journal end next body is leads room image told
