use Rattle.as4_doors.proofs.ResponseLemmas.{on_reply}
use Rattle.as4_doors.proofs.responding.response.Goals as goal

pub returns-in-Entry-clause-response : goal.returns-in-Entry-clause-response
returns-in-Entry-clause-response c = on_reply c.args.kept _ _ c.entry.result c.in-Entry.is c.entry.ensures

pub returns-in-Failed-clause-response : goal.returns-in-Failed-clause-response
returns-in-Failed-clause-response c = on_reply c.args.kept _ _ c.words-in-Failed.result c.in-Failed.is c.words-in-Failed.ensures
