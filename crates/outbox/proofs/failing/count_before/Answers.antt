use Rattle.std.proofs.Common.{◌∙◌}
use Rattle.outbox.proofs.SpentLemmas.{count_spent}
use Rattle.outbox.proofs.failing.count_before.Goals as goal

pub returns : goal.returns
returns c = λ sent are stand.
    c.count_due.ensures ∙ count_spent c.args.moment c.min.result c.args.failing.now sent are stand c.min.ensures
