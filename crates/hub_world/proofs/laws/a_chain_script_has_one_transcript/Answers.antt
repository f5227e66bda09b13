use Rattle.hub_world.specs.Transcript.{new_state}
use Rattle.hub_world.proofs.OneTranscript.{one_transcript}
use Rattle.hub_world.proofs.laws.a_chain_script_has_one_transcript.Goals as goal

pub returns : goal.returns
returns c lines text words a b first next = one_transcript lines new_state a b text words first next
