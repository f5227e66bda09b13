use Rattle.std.proofs.Common.{rules, subst}
use Rattle.auditor.specs.Auditing.{AuditsBy}
use Rattle.as4_tool.proofs.auditing.audit.Goals as goal

pub returns : goal.returns
returns g c =
    let modes = c.args.of.modes.now in
    let journal = c.args.of.journal.now in
    let taken = g.O.Sink.taken c.args.output.now in
    let later = g.O.Sink.taken c.audit_journal.new.output in
    record {
      end = c.audit_journal.result;
      status_is = c.of_audit.ensures;
      audits = subst (λ form. AuditsBy g.H.Host modes journal form c.args.host.now c.audit_journal.new.host taken later c.audit_journal.result)
          c.form_of-form.ensures c.audit_journal.ensures.audits;
      reads = c.audit_journal.ensures.reads;
      write_faults = search rules;
      host_faults = search rules;
    }
