-- What is written of an audit.
use Rattle.std.proofs.Common.{ℕ, List, Option, inl, inr}
use Rattle.as4_audit.specs.Audit.{IsAuditOf, finding_of}
use Rattle.as4_audit.specs.declared.finding.Audit.{Audit}
use Rattle.auditor.specs.Auditing.{AuditsLeaf, TellsText}
use Rattle.auditor.specs.declared.ending.AuditEnd.{AuditEnd}
use Rattle.auditor.specs.declared.form.Form.{Form}
use Rattle.mode_values.specs.declared.mode.Mode.{Mode}

pub audited : (modes : List Mode) (form : Form) (leaf : List ℕ) (said : Audit) (taken later : Option (List ℕ)) (end : AuditEnd) → IsAuditOf modes leaf said
    → TellsText form leaf (finding_of said) taken later end → AuditsLeaf modes form leaf taken later end
audited modes form leaf said taken later end audits (inl none) = inl none
audited modes form leaf said taken later end audits (inr (inl broken)) = inr (inl broken)
audited modes form leaf said taken later end audits (inr (inr (text, texts, writes))) = inr (inr (said, text, record { audits = audits; texts = texts }, writes))
