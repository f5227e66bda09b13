-- What an audit of a journal does, and how it ends.
use Rattle.std.specs.Prelude.{◌≡◌, ◌≢◌, ◌⊎◌, ℕ, List, Option}
use Rattle.as4_audit.specs.Audit.{AllRead, IsAuditOf, finding_of}
use Rattle.as4_audit.specs.declared.finding.Audit.{Audit}
use Rattle.as4_audit.specs.declared.finding.Finding.{Finding}
use Rattle.as4_disk.specs.declared.part.Part.{Part}
use Rattle.as4_disk.specs.declared.part.Part.TheVariants.{Selector}
use Rattle.as4_effects.specs.declared.effect.Effect.{Effect}
use Rattle.as4_flow.specs.Flow.{Rose, TakesFront, Told, appended}
use Rattle.as4_host.specs.Files.{IsLonger, bytes_in}
use Rattle.as4_host.specs.declared.host.Host.{Ghosts as HostMeaning}
use Rattle.auditor.specs.Ends.{end_found, end_unread}
use Rattle.auditor.specs.Lines.{text_of}
use Rattle.auditor.specs.declared.ending.AuditEnd.{AuditEnd}
use Rattle.auditor.specs.declared.ending.AuditEnd.TheVariants.{NoMemory, WriteFault, HostFault, NotJournal, TooLong}
use Rattle.auditor.specs.declared.files.TheConstants.{LEAF_LIMIT}
use Rattle.auditor.specs.declared.form.Form.{Form}
use Rattle.auditor.specs.declared.form.Form.TheVariants as form
use Rattle.handler.specs.Endings.{IsReadingCause}
use Rattle.handler.specs.Hosts.{Asks, CountsOn, file_of}
use Rattle.handler.specs.Stores.{AreModesOf}
use Rattle.handler.specs.declared.ending.HandlerEnd.{HandlerEnd}
use Rattle.journal.specs.Leaf.{IsBroken, Lists}
use Rattle.journal.specs.Store.{leaf_of, picks}
use Rattle.mode_values.specs.declared.mode.Mode.{Mode}

-- the text of an audit of this leaf that found this
pub record IsTextOf (leaf : List ℕ) (finding : Finding) (text : List ℕ) : Type 0 where
  pub bodies : List (List ℕ)
  pub records : List (Option (List Effect))
  pub lists : Lists bodies leaf
  pub read : AllRead bodies records
  pub is : text ≡ text_of records finding

-- the text in this form; what a drawing shows isn't said
abbrev pub IsShownAs : Form → List ℕ → Finding → List ℕ → Type 0
IsShownAs form.Lines leaf finding text = IsTextOf leaf finding text
IsShownAs form.Drawing leaf finding text = Unit {0}

-- this was found in a leaf by these modes, and this is its text
pub record Finds (modes : List Mode) (form : Form) (leaf : List ℕ) (said : Audit) (text : List ℕ) : Type 0 where
  pub audits : IsAuditOf modes leaf said
  pub texts : IsShownAs form leaf (finding_of said) text

-- the text was written whole, and the audit ended as it was found; or a prefix of it, and the output failed
abbrev pub Writes : Finding → List ℕ → Option (List ℕ) → Option (List ℕ) → AuditEnd → Type 0
Writes finding text taken later end =
    ((end ≡ end_found finding) × (later ≡ appended taken text)) ⊎ ((end ≡ WriteFault) × TakesFront text taken later)

-- what is written of an audit of this leaf that found this
abbrev pub TellsText : Form → List ℕ → Finding → Option (List ℕ) → Option (List ℕ) → AuditEnd → Type 0
TellsText form leaf finding taken later end =
    ((end ≡ NoMemory) × (later ≡ taken))
    ⊎ ((at : ℕ) × (end ≡ NotJournal at) × IsBroken at leaf × (later ≡ taken))
    ⊎ ((text : List ℕ) × IsShownAs form leaf finding text × Writes finding text taken later end)

-- a leaf that was read is audited by these modes: it is no journal, or its text is written, or memory runs out
abbrev pub AuditsLeaf : List Mode → Form → List ℕ → Option (List ℕ) → Option (List ℕ) → AuditEnd → Type 0
AuditsLeaf modes form leaf taken later end =
    ((end ≡ NoMemory) × (later ≡ taken))
    ⊎ ((at : ℕ) × (end ≡ NotJournal at) × IsBroken at leaf × (later ≡ taken))
    ⊎ ((said : Audit) × (text : List ℕ) × Finds modes form leaf said text × Writes (finding_of said) text taken later end)

-- a count of faults has risen exactly where the audit ended so
pub record TellsFaults (fault end : AuditEnd) (faults later : ℕ) : Type 0 where
  pub rose : end ≡ fault → Rose faults later
  pub stays : end ≢ fault → later ≡ faults

module _ {H Store Door Dialer Time Dice DoorIn DoorOut DialerIn DialerOut : Type 0} (M : HostMeaning H Store Door Dialer Time Dice DoorIn DoorOut DialerIn DialerOut) where
  -- the host was asked for some of these files, and nothing was changed
  pub record ReadsAmong (words : List (List ℕ)) (old new : H) : Type 0 where
    pub asks : Asks M words old new
    pub counts : CountsOn M old new
    pub files : (p : List ℕ) → M.file new p ≡ M.file old p
    pub guests : (a : List ℕ) → M.guests new a ≡ M.guests old a

  -- the file at a path has these bytes; one that is missing has none
  abbrev pub Holds : H → List ℕ → List ℕ → Type 0
  Holds host path bytes = Told (bytes_in (M.file host path)) (λ held. held ≡ bytes)

  -- the leaf that the selector of a journal picks
  pub record Picks (journal : List ℕ) (host : H) (leaf : List ℕ) : Type 0 where
    pub selector : List ℕ
    pub selects : Holds host (file_of journal Selector) selector
    pub picked : Holds host (file_of journal (leaf_of (picks selector))) leaf

  -- why a file wasn't read
  abbrev pub IsUnread : List ℕ → H → ℕ → AuditEnd → Type 0
  IsUnread path old faults NoMemory = Unit {0}
  IsUnread path old faults HostFault = Rose (M.fault_count old) faults
  IsUnread path old faults TooLong = Told (M.file old path) (IsLonger LEAF_LIMIT)
  IsUnread path old faults other = ⊥

  -- why the leaf that a journal uses wasn't read
  abbrev pub IsUnpicked : List ℕ → H → ℕ → AuditEnd → Type 0
  IsUnpicked journal old faults end = (end ≡ NoMemory) ⊎ ((part : Part) × IsUnread (file_of journal part) old faults end)

  -- how an audit ends, and what it has written: the modes or the leaf weren't read, for a cause; or the leaf was audited
  abbrev pub AuditsBy : List ℕ → List ℕ → Form → H → H → Option (List ℕ) → Option (List ℕ) → AuditEnd → Type 0
  AuditsBy modes journal form old new taken later end =
      ((ended : HandlerEnd) × IsReadingCause (M.file old modes) (M.fault_count old) (M.fault_count new) ended
      × (end ≡ end_unread ended) × (later ≡ taken))
      ⊎ ((list : List Mode) × AreModesOf (M.file old modes) list
      × ((IsUnpicked journal old (M.fault_count new) end × (later ≡ taken))
      ⊎ ((leaf : List ℕ) × Picks journal old leaf × AuditsLeaf list form leaf taken later end)))
