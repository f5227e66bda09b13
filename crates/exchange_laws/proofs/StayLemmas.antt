-- What an endpoint keeps, whatever happens to it.
use Rattle.std.proofs.Common.{◌≤◌, List, [], ◌∷◌, refl, ◌∙◌, arith}
use Rattle.exchange_model.specs.Alone.{MayHappenTo, end_after}
use Rattle.exchange_model.specs.Apply.{applied}
use Rattle.exchange_model.specs.End.{End}
use Rattle.exchange_model.specs.Fold.{resized}
use Rattle.exchange_model.specs.Numbered.{AreNumberedFrom}
use Rattle.exchange_model.specs.Staying.{Keeps}
use Rattle.exchange_model.specs.World.{Act, Happening, Does, Folds}
use Rattle.exchange_laws.proofs.EndSteps.{EndGoes}
use Rattle.exchange_laws.proofs.StepLemmas.{step_goes}

keeps_same : (end : End) → Keeps end end
keeps_same end = record {
  entries = λ n entry at. (entry, at, refl, λ k. refl);
  confirmed = omega arith;
  submissions = λ n s at. (s, at, refl, omega arith);
}

keeps_step : (act : Act) (old new : End) → EndGoes act.event.what act.outcome.reply old new → Keeps old new
keeps_step act old new goes = record {
  entries = λ n entry at. let e = goes.inbox.stays n entry at in (e.later, e.there, e.header, e.payloads);
  confirmed = goes.inbox.grows;
  submissions = λ n s at. let t = goes.sent.stands n s at in (t.later, t.there, t.same, t.more);
}

keeps_then : (a b c : End) → Keeps a b → Keeps b c → Keeps a c
keeps_then a b c f g = record {
  entries = λ n entry at. let d = f.entries n entry at in let e = g.entries n d.0 d.1 in
      (e.0, e.1, e.2 ∙ d.2, λ k. e.3 k ∙ d.3 (let less : b.confirmed ≤ c.confirmed = g.confirmed in omega arith));
  confirmed = let less : a.confirmed ≤ b.confirmed = f.confirmed in let more : b.confirmed ≤ c.confirmed = g.confirmed in omega arith;
  submissions = λ n s at. let t = f.submissions n s at in let u = g.submissions n t.0 t.1 in
      (u.0, u.1, u.2 ∙ t.2, omega (arith, t.3, u.3));
}

-- whatever happens
pub keeps_all : (all : List Happening) (end : End) → AreNumberedFrom 0 end.sent → MayHappenTo all end → Keeps end (end_after all end)
keeps_all [] end numbered may = keeps_same end
keeps_all (Does act ∷ later) end numbered may =
    let new : End = applied act.outcome.effects end in
    let goes = step_goes act.modes end act.event act.outcome numbered may.0 in
    keeps_then end new (end_after later new) (keeps_step act end new goes) (keeps_all later new goes.sent.numbered may.1)
keeps_all (Folds site size ∷ later) end numbered may =
    let rest = keeps_all later (resized size end) numbered may.1 in
    record { entries = rest.entries; confirmed = rest.confirmed; submissions = rest.submissions }
