use Rattle.std.proofs.Common.{sym, subst}
use Rattle.std.specs.List.{Contains}
use Rattle.exchange_model.specs.Alone.{end_after}
use Rattle.exchange_model.specs.End.{End, empty_end}
use Rattle.exchange_model.proofs.NumberedLemmas.{none_numbered}
use Rattle.exchange_laws.proofs.ListLemmas.{has_contained, contains_had}
use Rattle.exchange_laws.proofs.AloneLemmas.{stays_numbered, stays_settled, may_split, after_both}
use Rattle.exchange_laws.proofs.laws.what_is_settled_stays.Goals as goal

pub returns : goal.returns
returns c acts more may s there settled =
    let first : End = end_after acts empty_end in
    let split = may_split acts more empty_end may in
    let stays = stays_settled more first s (stays_numbered acts empty_end none_numbered split.0) split.1 (has_contained first.sent s there) settled in
    subst (λ (end : End). Contains end.sent s) (sym (after_both acts more empty_end))
    (contains_had (end_after more first).sent s stays)
