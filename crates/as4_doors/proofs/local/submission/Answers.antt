use Rattle.as4_doors.proofs.LocalLemmas.{no_texts, none_found}
use Rattle.as4_doors.proofs.local.submission.Goals as goal

pub returns-in-None : goal.returns-in-None
returns-in-None c = no_texts _ _ _ _ (λ mode conversation both. none_found _ c.in_ok-texts.texts c.in-None.is c.in_ok-texts.ensures (mode, conversation) both)
