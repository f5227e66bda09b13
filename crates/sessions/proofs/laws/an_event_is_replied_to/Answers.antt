use Rattle.sessions.proofs.CausedLemmas.{is_replied}
use Rattle.sessions.proofs.laws.an_event_is_replied_to.Goals as goal

pub returns-clause-lent : goal.returns-clause-lent
returns-clause-lent g c old new pass_old pass_new kept event end bytes answers =
    is_replied c.calls_split.ensures.stop g.D.Disk old new pass_old pass_new kept event answers.result end bytes answers.handles answers.tells

pub returns-clause-shared : goal.returns-clause-shared
returns-clause-shared g c pass_old pass_new kept event end bytes answers =
    is_replied c.calls_split.ensures.stop g.D.Disk answers.steps.found answers.steps.left pass_old pass_new kept event answers.result end bytes
    answers.steps.handles answers.tells
