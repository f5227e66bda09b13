use Rattle.std.proofs.Common.{◌≡◌, ◌-◌, ◌^◌, length, take}
use Rattle.std.specs.Prelude.{min}
use Rattle.std.specs.List.{sum_by}
use Rattle.submissions.proofs.limits.content_len.Given as goal

-- the contents so far are counted
abbrev pub invariant-loop-load : goal.invariant-loop-load
invariant-loop-load l = l.len ≡ min (sum_by (λ load. length load.content) (take l.load-index l.loads)) (2 ^ 64 - 1)
