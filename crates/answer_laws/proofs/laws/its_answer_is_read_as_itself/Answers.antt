use Rattle.std.proofs.Common.{◌∙◌, ap}
use Rattle.answer_laws.proofs.AnswerLemmas.{answer_itself}
use Rattle.as4_values.specs.declared.message.Message.TheVariants as message
use Rattle.exchange_model.specs.declared.what.What.TheVariants.{Came}
use Rattle.answer_laws.proofs.laws.its_answer_is_read_as_itself.Goals as goal

pub returns-in-User : goal.returns-in-User
returns-in-User c = λ modes end event outcome bodies step came leads.
    answer_itself (message.User c.in-User.header c.in-User.payloads) modes end event outcome bodies
    (record { again = c.show.ensures.again; kept = c.show.ensures.kept }, record { again = c.show-in-User.ensures.again; kept = c.show-in-User.ensures.kept })
    step (came ∙ ap Came c.in-User.is) leads

pub returns-in-Signal : goal.returns-in-Signal
returns-in-Signal c = λ modes end event outcome bodies step came leads.
    answer_itself (message.Signal c.in-Signal.signal) modes end event outcome bodies
    (record { again = c.show-in-Signal.ensures.again; kept = c.show-in-Signal.ensures.kept }) step (came ∙ ap Came c.in-Signal.is) leads

pub returns-in-Pair : goal.returns-in-Pair
returns-in-Pair c = λ modes end event outcome bodies step came leads.
    answer_itself (message.Pair c.in-Pair.pair) modes end event outcome bodies
    (record { again = c.show-in-Pair.ensures.again; kept = c.show-in-Pair.ensures.kept }, record { again = c.show-in-Pair-2.ensures.again; kept = c.show-in-Pair-2.ensures.kept })
    step (came ∙ ap Came c.in-Pair.is) leads
