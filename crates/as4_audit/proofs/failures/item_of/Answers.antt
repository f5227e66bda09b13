use Rattle.as4_audit.proofs.RefusalLemmas.{item_is}
use Rattle.as4_audit.proofs.failures.item_of.Goals as goal

pub returns : goal.returns
returns c =
    item_is c.args.core.now.end.sent c.args.effect.now c.in-Refused.number c.in-Refused.code c.in_ok-item.item c.in-Refused.is
    (record {
      coded = c.in_ok-item.ensures.code;
      severity = c.in_ok-item.ensures.severity;
      submission = (c.in-Some.submission.now, c.in-Some.ensures);
      about = c.in_ok-item.ensures.about;
    })
