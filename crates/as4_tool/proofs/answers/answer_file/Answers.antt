use Rattle.std.proofs.Common.{Ok, Err, Some}
use Rattle.as4_message.specs.Meaning.{received_value}
use Rattle.as4_tool.proofs.AnswerLemmas.{answered}
use Rattle.as4_tool.proofs.answers.answer_file.Goals as goal

pub returns-in_ok-reply-in-Ok : goal.returns-in_ok-reply-in-Ok
returns-in_ok-reply-in-Ok c =
    answered c.args.stamp c.args.nonce c.args.file.now (Ok (received_value c.in-Ok.received)) c.in_ok-reply-in-Ok.field-0 c.file_of.result
    (rw (← c.split_file.ensures) c.in-Ok.ensures.meaning) c.in_ok-reply-in-Ok.ensures.reply c.file_of.ensures.file

pub returns-in_ok-reply-in-Err-Refused : goal.returns-in_ok-reply-in-Err-Refused
returns-in_ok-reply-in-Err-Refused c =
    answered c.args.stamp c.args.nonce c.args.file.now (Err c.in-Err-Refused.refusal) (Some c.in_ok-reply-in-Err-Refused.field-0) c.file_of-in-Err-Refused.result
    (rw (← c.split_file.ensures) (rw c.in-Err-Refused.field-0-is at c.in-Err-Refused.ensures.meaning)) (rw c.as_ref.ensures.value at c.in_ok-reply-in-Err-Refused.ensures)
    c.file_of-in-Err-Refused.ensures.file
