use Rattle.as4_doors.proofs.LocalLemmas.{by_call_ok, by_none}
use Rattle.as4_doors.proofs.local.one_value.Goals as goal

pub returns-in-Some : goal.returns-in-Some
returns-in-Some c = by_call_ok c.in-Some.call _ c.args.word.now c.args.piece.now _ _ _ c.in-Some.ensures.0 c.in-Some.ensures.1 c.asked_with.ensures

pub returns-in-None : goal.returns-in-None
returns-in-None c = by_none _ c.args.word.now c.args.piece.now _ _ c.in-None.ensures
