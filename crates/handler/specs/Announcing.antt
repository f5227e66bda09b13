-- The line that a handler writes once its journal is compacted.
use Rattle.std.specs.Prelude.{◌++◌, ℕ, List, Option, codes, count_by, is_some, length}
use Rattle.std.specs.Fmt.{decimal}
use Rattle.as4_disk.specs.declared.disk.Disk.{Ghosts as DiskMeaning}
use Rattle.as4_flow.specs.Flow.{TakesFront}
use Rattle.exchange_model.specs.End.{End}
use Rattle.exchange_model.specs.Questions.{is_pending}
use Rattle.handler.specs.declared.setup.Setup.{Setup}
use Rattle.office.specs.Calls.{LeadsWhere}
use Rattle.office.specs.State.{OfficeState}
use Rattle.office.specs.declared.call.Call.{Call}

-- the names: the addresses of both doors, and the journal
unfoldable pub head_of : Setup → List ℕ
head_of setup =
    codes "serving partners at " ++ setup.peer.now ++ codes " and applications at " ++ setup.local.now
    ++ codes "; journal " ++ setup.journal.now ++ codes ": "

-- the numbers: the bytes of the journal, the pending submissions, and the received messages
unfoldable pub numbers_of : ℕ → ℕ → ℕ → List ℕ
numbers_of size pending received =
    decimal size ++ codes " bytes, " ++ decimal pending ++ codes " pending, " ++ decimal received ++ codes " received\n"

-- the numbers of an endpoint
abbrev pub counts_of : End → List ℕ
counts_of end = numbers_of end.size (count_by is_pending end.sent) (length end.inbox)

-- the line for an endpoint
abbrev pub line_of : Setup → End → List ℕ
line_of setup end = head_of setup ++ counts_of end

-- a prefix of the line that begins so was written, for the endpoint to which these calls lead from the office's
abbrev pub Announces : {D : Type 0} → DiskMeaning D → OfficeState D → List Call → List ℕ → Option (List ℕ) → Option (List ℕ) → Type 0
Announces S office calls head told later =
    (here : End) × LeadsWhere (is_some (S.seen office.disk)) office.modes office.end calls here × TakesFront (head ++ counts_of here) told later
