use Rattle.std.proofs.Common.{sym, subst}
use Rattle.exchange_model.specs.Alone.{end_after}
use Rattle.exchange_model.specs.End.{End, empty_end}
use Rattle.exchange_model.specs.Staying.{Keeps}
use Rattle.exchange_model.proofs.NumberedLemmas.{none_numbered}
use Rattle.exchange_laws.proofs.AloneLemmas.{stays_numbered, may_split, after_both}
use Rattle.exchange_laws.proofs.StayLemmas.{keeps_all}
use Rattle.exchange_laws.proofs.laws.what_came_stays.Goals as goal

pub returns : goal.returns
returns c acts more may =
    let first : End = end_after acts empty_end in
    let split = may_split acts more empty_end may in
    subst (Keeps first) (sym (after_both acts more empty_end))
    (keeps_all more first (stays_numbered acts empty_end none_numbered split.0) split.1)
