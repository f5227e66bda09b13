use Rattle.std.proofs.Common.{inl}
use Rattle.sessions.proofs.locked.reply_to.Goals as goal

-- the request asks for an event
pub returns-in-Ok-clause-replies : goal.returns-in-Ok-clause-replies
returns-in-Ok-clause-replies g c = inl (c.in-Ok.event, c.in-Ok.ensures.event, c.answer.ensures.answers)
