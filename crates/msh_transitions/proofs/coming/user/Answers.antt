use Rattle.std.proofs.Common.{◌≡◌, false}
use Rattle.std.proofs.lemmas.Result.{IfOk-weaker}
use Rattle.exchange_model.specs.Questions.{is_known}
use Rattle.msh_transitions.proofs.ComingRows.{code_10_is_known, delivers_stands}
use Rattle.msh_transitions.proofs.coming.user.Goals as goal

pub errs-requires : goal.errs-requires
errs-requires c = code_10_is_known

pub returns-clause-stands : goal.returns-clause-stands
returns-clause-stands c =
    let new : is_known c.args.header.now.id c.args.tables.now.end.inbox ≡ false = cc in
    IfOk-weaker c.deliver.result _ _
    (λ outcome. delivers_stands c.args.tables.now.end c.args.event.now c.args.header.now c.args.payloads.now outcome new)
    c.deliver.ensures
