-- The calls that a pass has seen are legal.
use Rattle.std.proofs.Common.{◌≡◌, Bool, List, Result, Ok, Err, is_some, sym, ap, subst, ◌∙◌}
use Rattle.as4_disk.specs.declared.disk.Disk.{Ghosts as DiskMeaning}
use Rattle.mode_values.specs.declared.mode.Mode.{Mode}
use Rattle.exchange_model.specs.End.{End}
use Rattle.exchange_model.specs.declared.event.Event.{Event}
use Rattle.exchange_model.specs.declared.reply.Reply.{Reply}
use Rattle.office.specs.Calls.{LeadsWhere}
use Rattle.office.specs.State.{OfficeState}
use Rattle.office.specs.Steps.{Enters, EntersNothing, FindsItWorn, Handles, Keeps}
use Rattle.office.specs.declared.call.Call.{Call}
use Rattle.office.specs.declared.fault.OfficeFault.{OfficeFault}
use Rattle.office.specs.declared.fault.OfficeFault.TheVariants as fault
use Rattle.pass_book.specs.States.{PassState}
use Rattle.sessions.specs.Answering.{IsSamePass}
use Rattle.sessions.specs.Shared.{IsLegal, IsOpened, StepsUnder}
use Rattle.sessions.specs.declared.naming.Opening.{Ghosts as OpeningMeaning}

module _ {D J : Type 0} (M : DiskMeaning D) (N : OpeningMeaning J) where
  -- a call leaves an office of the opening
  stays_opened : (found left : OfficeState D) (pass_old pass_new : PassState Call)
      → IsOpened M N found → Keeps M found left pass_old pass_new → IsOpened M N left
  stays_opened found left pass_old pass_new opened keeps = record {
    book = keeps.book ∙ opened.book;
    modes = keeps.modes ∙ opened.modes;
    observable = keeps.tells ∙ opened.observable;
    legal =
        subst (λ (observable : Bool). LeadsWhere observable N.modes N.start left.list left.end) opened.observable
        (subst (λ (modes : List Mode). LeadsWhere (is_some (M.seen found.disk)) modes N.start left.list left.end) opened.modes
        (keeps.legal N.start
        (subst (λ (modes : List Mode). LeadsWhere (is_some (M.seen found.disk)) modes N.start found.list found.end) (sym opened.modes)
        (subst (λ (observable : Bool). LeadsWhere observable N.modes N.start found.list found.end) (sym opened.observable) opened.legal))));
  }

  -- an office of the opening handles an event
  pub steps_under : (found left : OfficeState D) (pass_old pass_new : PassState Call) (event : Event) (result : Result Reply OfficeFault)
      → IsOpened M N found → Handles M found left pass_old pass_new event result → StepsUnder M N pass_old pass_new event result
  steps_under found left pass_old pass_new event result opened handles = record {
    found = found;
    left = left;
    before = opened;
    after = stays_opened found left pass_old pass_new opened handles.keeps;
    handles = handles;
  }

  -- what a pass has seen of an office
  legal_seen : (office : OfficeState D) (calls : List Call) → IsOpened M N office → calls ≡ office.list → IsLegal N calls
  legal_seen office calls opened same = (office.end, subst (λ (list : List Call). LeadsWhere N.observable N.modes N.start list office.end) (sym same) opened.legal)

  -- it sees no call that isn't legal
  pub stays_legal : (found left : OfficeState D) (pass_old pass_new : PassState Call) (event : Event) (result : Result Reply OfficeFault)
      → IsOpened M N found → Handles M found left pass_old pass_new event result → IsLegal N pass_old.list → IsLegal N pass_new.list
  stays_legal found left pass_old pass_new event (Ok r) opened handles legal =
      legal_seen left pass_new.list (stays_opened found left pass_old pass_new opened handles.keeps) handles.answer.entered.whole
  stays_legal found left pass_old pass_new event (Err (fault.Disk before after)) opened handles legal =
      legal_seen left pass_new.list (stays_opened found left pass_old pass_new opened handles.keeps) handles.answer.stops.entered.whole
  stays_legal found left pass_old pass_new event (Err (fault.Stopped before after)) opened handles legal =
      legal_seen left pass_new.list (stays_opened found left pass_old pass_new opened handles.keeps) handles.answer.1.whole
  stays_legal found left pass_old pass_new event (Err fault.Worn) opened handles legal =
      legal_seen found pass_new.list opened (ap (λ (pass : PassState Call). pass.list) handles.answer.pass)
  stays_legal found left pass_old pass_new event (Err fault.NoMemory) opened handles legal =
      subst (λ (pass : PassState Call). IsLegal N pass.list) (sym handles.answer.0.pass) legal
