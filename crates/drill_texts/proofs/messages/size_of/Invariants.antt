use Rattle.std.proofs.Common.{◌≡◌, ◌≤◌, ◌*◌, ◌^◌, length, take}
use Rattle.std.specs.List.{sum_by}
use Rattle.as4_values.specs.declared.payload.Payload.{Payload}
use Rattle.drill_texts.proofs.messages.size_of.Given as goal

-- the size of the payloads so far, each of which has fewer than 2 ^ 64 bytes
abbrev pub invariant-loop-payload : goal.invariant-loop-payload
invariant-loop-payload l = record {
  so_far : l.size ≡ sum_by (λ (payload : Payload). length payload.content) (take l.payload-index l.payloads);
  small : l.size ≤ l.payload-index * 2 ^ 64;
}
