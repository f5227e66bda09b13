-- How a step changes an endpoint, whatever the event is.
use Rattle.std.proofs.Common.{List, refl, sym, subst}
use Rattle.mode_values.specs.declared.mode.Mode.{Mode}
use Rattle.exchange_model.specs.End.{End}
use Rattle.exchange_model.specs.Numbered.{AreNumberedFrom}
use Rattle.exchange_model.specs.Questions.{sent_of}
use Rattle.exchange_model.specs.Table.{RowOf, IsLimited, Step, has_room}
use Rattle.exchange_model.specs.declared.event.Event.{Event}
use Rattle.exchange_model.specs.declared.outcome.Outcome.{Outcome}
use Rattle.exchange_model.specs.declared.what.What.{What}
use Rattle.exchange_model.specs.declared.what.What.TheVariants as what
use Rattle.exchange_laws.proofs.EndSteps.{rests_silent, by_bool}
use Rattle.exchange_laws.proofs.OwnRows.{Goes, submits, ticks, takes, asks, asks_with, reads, confirms, tells_status}
use Rattle.exchange_laws.proofs.ComingRows.{comes}

-- by the rows of the event
row_goes : (modes : List Mode) (end : End) (event : Event) (w : What) (outcome : Outcome) → AreNumberedFrom 0 end.sent
    → RowOf modes end event w outcome → Goes w end outcome
row_goes modes end event (what.Submit mode conversation loads) outcome numbered h =
    submits _ modes end event mode conversation loads outcome numbered h
row_goes modes end event what.Tick outcome numbered h = ticks end event outcome numbered h
row_goes modes end event what.Take outcome numbered h = takes _ end outcome numbered h
row_goes modes end event (what.Ask mode) outcome numbered h = asks _ modes end event mode outcome numbered h
row_goes modes end event (what.AskWith mode n) outcome numbered h = asks_with _ modes end event mode n outcome numbered h
row_goes modes end event (what.Came m) outcome numbered h = comes modes end event m outcome numbered h
row_goes modes end event (what.Read n) outcome numbered h = reads _ end n outcome numbered h
row_goes modes end event (what.Confirm upto) outcome numbered h = confirms _ end upto outcome numbered h
row_goes modes end event (what.Status id) outcome numbered h = tells_status _ end (sent_of id end.sent) outcome numbered h

-- where the journal has room for it
limited_goes : (w : What) (end : End) (row outcome : Outcome) → AreNumberedFrom 0 end.sent → Goes w end row → IsLimited end row outcome
    → Goes w end outcome
limited_goes w end row outcome numbered goes h =
    by_bool _ _ _ (has_room end row.effects) h (λ _ same. subst (Goes w end) (sym same) goes) (λ _. rests_silent w _ end outcome refl numbered)

-- a step at an endpoint
pub step_goes : (modes : List Mode) (end : End) (event : Event) (outcome : Outcome) → AreNumberedFrom 0 end.sent
    → Step modes end event outcome → Goes event.what end outcome
step_goes modes end event outcome numbered step =
    limited_goes event.what end step.row outcome numbered (row_goes modes end event event.what step.row numbered step.decided) step.limited
