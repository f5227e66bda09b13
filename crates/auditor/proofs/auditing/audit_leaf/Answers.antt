use Rattle.std.proofs.Common.{subst}
use Rattle.auditor.specs.Auditing.{TellsText}
use Rattle.auditor.proofs.TextLemmas.{audited}
use Rattle.auditor.proofs.auditing.audit_leaf.Goals as goal

pub returns-in-Ok-clause-audits : goal.returns-in-Ok-clause-audits
returns-in-Ok-clause-audits g c =
    let taken = g.O.Sink.taken c.args.output.now in
    let later = g.O.Sink.taken c.tell.new.output in
    let says = c.in-Ok.ensures.says in
    audited c.args.modes.now c.args.form c.args.leaf.now says.0 taken later c.tell.result says.1
    (subst (λ found. TellsText c.args.form c.args.leaf.now found taken later c.tell.result) says.2 c.tell.ensures.tells)
