-- Counts of the settled submissions, by state.
use Rattle.std.specs.Prelude.{◌≡◌, ◌+◌, List, count_by}
use Rattle.as4_effects.specs.declared.mark.Mark.{Mark}
use Rattle.as4_effects.specs.declared.mark.Mark.TheVariants as mark
use Rattle.exchange_model.specs.Questions.{is_failed_mark, is_receipted_mark, is_refused_mark}
use Rattle.exchange_model.specs.declared.sent.Sent.{Sent}
use Rattle.outbox.specs.declared.counts.Counts.{Counts}

-- the number of receipted, expired and refused ones of these
pub record AreCounts (counts : Counts) (sent : List Sent) : Type 0 where
  pub receipted : counts.receipted ≡ count_by (λ (s : Sent). is_receipted_mark s.mark) sent
  pub failed : counts.failed ≡ count_by (λ (s : Sent). is_failed_mark s.mark) sent
  pub refused : counts.refused ≡ count_by (λ (s : Sent). is_refused_mark s.mark) sent

-- with one more of this state
abbrev pub counted : Mark → Counts → Counts
counted mark.Receipted counts = record counts { receipted = counts.receipted + 1 }
counted mark.Failed counts = record counts { failed = counts.failed + 1 }
counted (mark.Refused code) counts = record counts { refused = counts.refused + 1 }
counted mark.Pending counts = counts
