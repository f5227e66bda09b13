use Rattle.std.proofs.Common.{ap, ◌∙◌}
use Rattle.exchange_model.specs.Questions.{sent_of}
use Rattle.exchange_model.specs.Table.{standing_reply}
use Rattle.exchange_model.specs.declared.what.What.TheVariants as what
use Rattle.stranger_laws.proofs.OneStep.{rest_replies}
use Rattle.stranger_laws.proofs.laws.an_unknown_identifier_is_told.Goals as goal

pub returns : goal.returns
returns c modes end event outcome id step asked unknown =
    rest_replies modes end event outcome (what.Status id) (standing_reply (sent_of id end.sent)) step asked (λ row. row)
    ∙ ap standing_reply unknown
