-- How an audit of a journal ends.
use Rattle.as4_audit.specs.declared.finding.AuditRefusal.{AuditRefusal}
use Rattle.as4_audit.specs.declared.finding.AuditRefusal.TheVariants as refusal
use Rattle.as4_audit.specs.declared.finding.Finding.{Finding}
use Rattle.as4_audit.specs.declared.finding.Finding.TheVariants as finding
use Rattle.auditor.specs.declared.ending.AuditEnd.{AuditEnd}
use Rattle.auditor.specs.declared.ending.AuditEnd.TheVariants.{Yes, No, NoMemory, ModesRefused, HostFault, NotJournal}
use Rattle.handler.specs.declared.ending.HandlerEnd.{HandlerEnd}
use Rattle.handler.specs.declared.ending.HandlerEnd.TheVariants as ending

-- the end without modes; a handler that reads its modes has no other ends
abbrev pub end_unread : HandlerEnd → AuditEnd
end_unread ending.NoMemory = NoMemory
end_unread ending.ModesRefused = ModesRefused
end_unread other = HostFault

-- the end of a leaf that wasn't audited
abbrev pub end_refused : AuditRefusal → AuditEnd
end_refused (refusal.NotJournal at) = NotJournal at
end_refused refusal.NoMemory = NoMemory

-- the end of an audit whose lines were written
abbrev pub end_found : Finding → AuditEnd
end_found (finding.Yes start events) = Yes
end_found (finding.No index) = No
