-- One endpoint alone: what happens in two spans of time, and what remains true over them.
use Rattle.std.proofs.Common.{◌≡◌, List, [], ◌∷◌, ◌++◌, false, refl}
use Rattle.exchange_model.specs.Alone.{MayHappenTo, end_after}
use Rattle.exchange_model.specs.Apply.{applied}
use Rattle.exchange_model.specs.End.{End}
use Rattle.exchange_model.specs.Fold.{resized}
use Rattle.exchange_model.specs.Numbered.{AreNumberedFrom}
use Rattle.exchange_model.specs.Questions.{is_pending}
use Rattle.exchange_model.specs.World.{Happening, Does, Folds}
use Rattle.exchange_model.specs.declared.sent.Sent.{Sent}
use Rattle.exchange_model.proofs.ListLemmas.{Has}
use Rattle.exchange_laws.proofs.StepLemmas.{step_goes}

-- whatever happens, the submissions stay numbered
pub stays_numbered : (all : List Happening) (end : End) → AreNumberedFrom 0 end.sent → MayHappenTo all end
    → AreNumberedFrom 0 (end_after all end).sent
stays_numbered [] end numbered may = numbered
stays_numbered (Does act ∷ later) end numbered may =
    let goes = step_goes act.modes end act.event act.outcome numbered may.0 in
    stays_numbered later (applied act.outcome.effects end) goes.sent.numbered may.1
stays_numbered (Folds site size ∷ later) end numbered may = stays_numbered later (resized size end) numbered may.1

-- and a settled submission doesn't change
pub stays_settled : (all : List Happening) (end : End) (s : Sent) → AreNumberedFrom 0 end.sent → MayHappenTo all end → Has end.sent s
    → is_pending s ≡ false → Has (end_after all end).sent s
stays_settled [] end s numbered may h settled = h
stays_settled (Does act ∷ later) end s numbered may h settled =
    let goes = step_goes act.modes end act.event act.outcome numbered may.0 in
    stays_settled later (applied act.outcome.effects end) s goes.sent.numbered may.1 (goes.sent.settled s h settled) settled
stays_settled (Folds site size ∷ later) end s numbered may h settled = stays_settled later (resized size end) s numbered may.1 h settled

-- if a sequence of two parts may happen, the first part may, and the second may where the first has led
pub may_split : (all more : List Happening) (end : End) → MayHappenTo (all ++ more) end
    → MayHappenTo all end × MayHappenTo more (end_after all end)
may_split [] more end may = (tt, may)
may_split (Does act ∷ later) more end may =
    let rest = may_split later more (applied act.outcome.effects end) may.1 in ((may.0, rest.0), rest.1)
may_split (Folds site size ∷ later) more end may =
    let rest = may_split later more (resized size end) may.1 in ((may.0, rest.0), rest.1)

pub after_both : (all more : List Happening) (end : End) → end_after (all ++ more) end ≡ end_after more (end_after all end)
after_both [] more end = refl
after_both (Does act ∷ later) more end = after_both later more (applied act.outcome.effects end)
after_both (Folds site size ∷ later) more end = after_both later more (resized size end)
