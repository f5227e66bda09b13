-- Counts of the submissions by state, and of the received messages.
use Rattle.std.specs.Prelude.{◌≡◌, List, count_by, length}
use Rattle.exchange_model.specs.End.{End}
use Rattle.exchange_model.specs.Questions.{is_failed_mark, is_receipted_mark, is_refused_mark}
use Rattle.exchange_model.specs.declared.sent.Sent.{Sent}
use Rattle.msh_state.specs.declared.totals.Totals.{Totals}

-- the number of receipted, expired and refused ones of these
abbrev pub AreCounted : List Sent → Totals → Type 0
AreCounted sent totals =
    (totals.receipted ≡ count_by (λ (s : Sent). is_receipted_mark s.mark) sent)
    × (totals.failed ≡ count_by (λ (s : Sent). is_failed_mark s.mark) sent)
    × (totals.refused ≡ count_by (λ (s : Sent). is_refused_mark s.mark) sent)

-- the number of submissions, of receipted, expired and refused ones, and of received messages
abbrev pub AreTotals : End → Totals → Type 0
AreTotals end totals =
    (totals.submitted ≡ length end.sent) × AreCounted end.sent totals × (totals.inbox ≡ length end.inbox)
