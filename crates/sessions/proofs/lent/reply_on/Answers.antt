use Rattle.std.proofs.Common.{inl}
use Rattle.sessions.proofs.lent.reply_on.Goals as goal

-- the request asks for an event
pub returns-in-Ok-clause-replies : goal.returns-in-Ok-clause-replies
returns-in-Ok-clause-replies g c = inl (c.in-Ok.event, c.in-Ok.ensures.event, c.answer_on.ensures.answers)
