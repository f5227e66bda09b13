-- Laws of one endpoint over all openings.
use Rattle.std.proofs.Common.{◌≡◌, ◌≢◌, Bool, true, false, List, [], ◌∷◌, ◌++◌, Some, None, map, refl, ◌∙◌, subst}
use Rattle.std.specs.List.{AllPairs}
use Rattle.as4_disk.specs.Image.{Image}
use Rattle.as4_values.specs.declared.header.UserHeader.{UserHeader}
use Rattle.as4_values.specs.declared.payload.Payload.{Payload}
use Rattle.mode_values.specs.declared.mode.Mode.{Mode}
use Rattle.exchange_model.specs.Alone.{IsSafe, MayHappenTo, end_after}
use Rattle.exchange_model.specs.Apply.{applied}
use Rattle.exchange_model.specs.End.{End, empty_end}
use Rattle.exchange_model.specs.Fold.{resized}
use Rattle.exchange_model.specs.Questions.{is_known}
use Rattle.exchange_model.specs.Staying.{Keeps}
use Rattle.exchange_model.specs.World.{Does, Folds, Happening, Left, Site}
use Rattle.exchange_model.specs.declared.event.Event.{Event}
use Rattle.exchange_model.specs.declared.inbox_entry.InboxEntry.{InboxEntry}
use Rattle.exchange_model.specs.declared.reply.Reply.{Reply}
use Rattle.exchange_laws.proofs.AloneLemmas.{after_both}
use Rattle.office.specs.Calls.{Leads, LeadsWhere}
use Rattle.office.specs.Happened.{MayLead}
use Rattle.office.specs.Left.{IsLeft}
use Rattle.office.specs.Openings.{HappenedOver, LeadsOver, Opening}
use Rattle.office.specs.declared.call.Call.{Call}
use Rattle.office.specs.declared.call.Call.TheVariants.{Done, Folded, Stop}
use Rattle.history_laws.specs.Holding.{IsReceipted}
use Rattle.history_laws.proofs.HoldingLemmas.{known_later, receipted_known}
use Rattle.history_laws.proofs.KeepingLemmas.{keeps_calls, keeps_happened, keeps_then}
use Rattle.history_laws.proofs.UnseenLemmas.{happens}

may_join : (all more : List Happening) (end : End) → MayHappenTo all end → MayHappenTo more (end_after all end) → MayHappenTo (all ++ more) end
may_join [] more end may later = later
may_join (Does act ∷ all) more end may later = (may.0, may_join all more (applied act.outcome.effects end) may.1 later)
may_join (Folds site size ∷ all) more end may later = (may.0, may_join all more (resized size end) may.1 later)

abbrev pub OpeningsMayHappen : Type 0
OpeningsMayHappen = (site : Site) (openings : List Opening) (modes : List Mode) (calls : List Call) (start next end : End)
    → LeadsOver openings start next → Leads modes next calls end
    → (all : List Happening) × HappenedOver site openings modes calls all × MayLead all start end

abbrev pub EndIsSafe : Type 0
EndIsSafe = (all : List Happening) → MayHappenTo all empty_end → IsSafe all (end_after all empty_end)

-- no two entries have the same identifier
abbrev AtMostOnce : End → Type 0
AtMostOnce end = AllPairs (λ a b. a ≢ b) (map (λ (entry : InboxEntry). entry.header.id) end.inbox)

-- from the calls' first fault on they leave the end where it is
from_stop : (modes : List Mode) (calls : List Call) (start here : End) (image : Image) → Leads modes start calls here → IsLeft modes here calls image
    → (last : List Call) × Leads modes here last here × IsLeft modes here last image
from_stop modes [] start here image leads left = ([], refl, left)
from_stop modes (Done event r ∷ calls) start here image (outcome, step, is, rest) left =
    from_stop modes calls (applied outcome.effects start) here image rest left
from_stop modes (Folded size ∷ calls) start here image (folded, shorter, rest) left =
    from_stop modes calls (resized size start) here image rest left
from_stop modes (Stop (Some event) halt ∷ calls) start here image (rose, all, is) left = (Stop (Some event) halt ∷ [], (rose, tt, refl), left)
from_stop modes (Stop None halt ∷ calls) start here image (rose, all, is) left = (Stop None halt ∷ [], (rose, tt, refl), left)

module _ (may_happen : OpeningsMayHappen) where
  module _ (is_safe : EndIsSafe) where
    pub safe_over : (site : Site) (before : List Happening) (openings : List Opening) (modes : List Mode) (calls : List Call) (next end : End)
        → MayHappenTo before empty_end → LeadsOver openings (end_after before empty_end) next → Leads modes next calls end
        → (all : List Happening) × HappenedOver site openings modes calls all × IsSafe (before ++ all) end
    safe_over site before openings modes calls next end may over leads =
        let found = may_happen site openings modes calls (end_after before empty_end) next end over leads in
        let whole = may_join before found.0 empty_end may found.2.0 in
        (found.0, found.1, subst (IsSafe (before ++ found.0)) (after_both before found.0 empty_end ∙ found.2.1) (is_safe (before ++ found.0) whole))

    pub once_over : (observable : Bool) (before : List Happening) (openings : List Opening) (modes : List Mode) (calls : List Call) (next end : End)
        → MayHappenTo before empty_end → LeadsOver openings (end_after before empty_end) next → LeadsWhere observable modes next calls end
        → AtMostOnce end
    once_over true before openings modes calls next end may over leads =
        (safe_over Left before openings modes calls next end may over leads).2.inbox.at_most_once
    once_over false before openings modes calls next end may over leads =
        let known = happens modes calls next end leads in
        (safe_over Left before openings modes known.0 next end may over known.2).2.inbox.at_most_once

  -- what stays over openings
  keeps_openings : (openings : List Opening) (start next : End) → LeadsOver openings start next → Keeps start next
  keeps_openings openings start next over =
      let found = may_happen Left openings [] [] start next next over refl in
      subst (Keeps start) found.2.1 (keeps_happened found.0 start found.2.0)

  pub keeps_over : (observable : Bool) (openings : List Opening) (modes : List Mode) (calls : List Call) (start next end : End)
      → LeadsOver openings start next → LeadsWhere observable modes next calls end → Keeps start end
  keeps_over observable openings modes calls start next end over leads =
      keeps_then start next end (keeps_openings openings start next over) (keeps_calls observable modes calls next end leads)

  -- the end that the calls of the first opening led to, and what is kept from there on
  pub keeps_later : (opening : Opening) (later : List Opening) (start next : End) → LeadsOver (opening ∷ later) start next
      → (here : End) × Leads opening.modes start opening.calls here × Keeps here next
  keeps_later opening later start next (here, leads, left, mid, reads, over) =
      let last = from_stop opening.modes opening.calls start here opening.left leads left in
      let same : Opening = record { modes = opening.modes; calls = last.0; left = opening.left } in
      (here, leads, keeps_openings (same ∷ later) here next (here, last.1, last.2, mid, reads, over))

  pub receipted_over : (observable : Bool) (opening : Opening) (later : List Opening) (modes : List Mode) (calls more others : List Call)
      (event : Event) (r : Reply) (header : UserHeader) (payloads : List Payload) (start next end : End)
      → opening.calls ≡ calls ++ Done event r ∷ more → IsReceipted header payloads event r
      → LeadsOver (opening ∷ later) start next → LeadsWhere observable modes next others end → is_known header.id end.inbox ≡ true
  receipted_over observable opening later modes calls more others event r header payloads start next end is receipted over leads =
      let first = keeps_later opening later start next over in
      let known : is_known header.id first.0.inbox ≡ true =
      receipted_known true opening.modes calls more event r header payloads start first.0 receipted
      (subst (λ (l : List Call). Leads opening.modes start l first.0) is first.1) in
      known_later header.id first.0 end
      (keeps_then first.0 next end first.2 (keeps_calls observable modes others next end leads)) known
