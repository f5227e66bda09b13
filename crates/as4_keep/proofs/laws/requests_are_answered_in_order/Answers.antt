use Rattle.std.proofs.Common.{◌≡◌, ◌∙◌, ◌++◌, ◌∷◌, [], length, length-append, arith}
use Rattle.as4_keep.proofs.GrowthLemmas.{begun_within, break_moved}
use Rattle.as4_keep.proofs.OrderLemmas.{all_in_order, one_in_order, order_then}
use Rattle.as4_keep.proofs.laws.requests_are_answered_in_order.Goals as goal

pub returns-clause-requests : goal.returns-clause-requests
returns-clause-requests g c door limit n old new serves =
    let all = all_in_order g.D.Disk g.J.Opening g.C.Clock g.N.Nonces door limit n old new serves in
    (all.answers, all.count, all.kept, all.goes.order)

pub returns-clause-last : goal.returns-clause-last
returns-clause-last g c door limit served old new ends =
    let all = all_in_order g.D.Disk g.J.Opening g.C.Clock g.N.Nonces door limit ends.others old ends.middle ends.serves in
    let one = one_in_order g.D.Disk g.J.Opening g.C.Clock g.N.Nonces door _ ends.middle _ _ ends.closes in
    let count : length (all.answers ++ one.answer ∷ []) ≡ served = length-append all.answers (one.answer ∷ []) ∙ omega (arith, all.count, ends.count) in (
      all.answers,
      one.answer,
      ends.held,
      count,
      all.kept,
      one.is,
      (order_then g.D.Disk g.J.Opening g.C.Clock g.N.Nonces door all.answers (one.answer ∷ []) old ends.middle _ all.goes one.goes).order,
    )

pub returns-clause-within : goal.returns-clause-within
returns-clause-within g c door limit old new end some keeps = begun_within g.D.Disk g.J.Opening g.C.Clock g.N.Nonces door limit old new end some keeps

pub returns-clause-breaks : goal.returns-clause-breaks
returns-clause-breaks g c door is_last old new end breaks =
    let moved = break_moved g.D.Disk g.J.Opening g.C.Clock g.N.Nonces door is_last old new end breaks in
    (moved.moves.list, omega (arith, moved.moves.share), omega (arith, moved.moves.share, moved.few))
