use Rattle.httparse.specs.Grammar.{HasNoRequest}
use Rattle.conformance.proofs.HeadLemmas.{unended_ended}
use Rattle.conformance.proofs.heads.has_head.Goals as goal

pub returns-in-Ok-Partial-clause-no : goal.returns-in-Ok-Partial-clause-no
returns-in-Ok-Partial-clause-no c is more head rest reads few =
    let none : HasNoRequest c.args.bytes.now = rw c.in-Ok-Partial.field-0-is at c.in-Ok-Partial.ensures.partial in
    unended_ended c.args.bytes.now more head rest none reads
