use Rattle.as4_doors.proofs.LocalLemmas.{by_texts_ok}
use Rattle.as4_doors.proofs.local.two_texts.Goals as goal

pub returns : goal.returns
returns c =
    let is = c.is_submission.ensures.yes c.if-not-is_submission.false in
    by_texts_ok _ c.args.word.now c.args.mode.now c.args.conversation.now _ _ _ is.0 is.1 c.submission.ensures
