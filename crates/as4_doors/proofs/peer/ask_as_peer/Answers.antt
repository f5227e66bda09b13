use Rattle.as4_doors.proofs.PeerLemmas.{posted_asks}
use Rattle.as4_doors.proofs.peer.ask_as_peer.Goals as goal

pub returns-in-Post-clause-asks : goal.returns-in-Post-clause-asks
returns-in-Post-clause-asks c = posted_asks c.args.request.now _ _ c.posted.result c.in-Post.is c.media_of.ensures c.bytes.ensures c.posted.ensures.means
