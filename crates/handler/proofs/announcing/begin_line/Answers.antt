use Rattle.std.proofs.Common.{ap, ◌∙◌, append_assoc, rules}
use Rattle.handler.specs.Announcing.{head_of}
use Rattle.handler.proofs.announcing.begin_line.Goals as goal

pub returns : goal.returns
unfolding head_of
returns c = search (rules, append_assoc, c.reserve.ensures.items ∙ ap (λ v. v.items) c.into_bytes-head.ensures.value ∙ c.in_ok-format.ensures.ok)
