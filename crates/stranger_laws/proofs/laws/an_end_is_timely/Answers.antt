use Rattle.std.proofs.Common.{◌≡◌, ◌⊎◌, inl, inr, List}
use Rattle.std.specs.List.{Contains}
use Rattle.exchange_model.specs.Alone.{end_after}
use Rattle.exchange_model.specs.End.{End, empty_end}
use Rattle.exchange_model.specs.World.{Act, acts_of}
use Rattle.exchange_model.proofs.NumberedLemmas.{none_numbered}
use Rattle.exchange_laws.proofs.ListLemmas.{has_contained, contains_had}
use Rattle.stranger_laws.specs.Timely.{TicksAt}
use Rattle.stranger_laws.proofs.ClockLemmas.{IsShown, clock_all}
use Rattle.stranger_laws.proofs.TimelyLemmas.{HoldsTime, due_dated, time_all}
use Rattle.stranger_laws.proofs.laws.an_end_is_timely.Goals as goal

new_holds : HoldsTime empty_end
new_holds = record { dated = λ s h. absurd h; overdue = λ s h. absurd h }

shown : (acts : List Act) (end : End) → IsShown acts empty_end end
    → (end.moment ≡ 0) ⊎ ((act : Act) × Contains acts act × TicksAt end.moment act)
shown acts end (inl none) = inl none
shown acts end (inr tick) = inr (tick.0, contains_had acts tick.0 tick.1, tick.2)

pub returns : goal.returns
returns c all may =
    let last : End = end_after all empty_end in
    let time = time_all all empty_end none_numbered may new_holds in
    record {
      clock = shown (acts_of all) last (clock_all all empty_end may);
      pending = λ s there _. due_dated last.moment s (time.dated s (has_contained last.sent s there));
      expired = λ s there. time.overdue s (has_contained last.sent s there);
    }
