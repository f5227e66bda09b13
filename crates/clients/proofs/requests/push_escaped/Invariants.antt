use Rattle.std.proofs.Common.{◌≡◌, ◌++◌, take}
use Rattle.clients.specs.Requests.{escaped}
use Rattle.clients.proofs.requests.push_escaped.Given as goal

-- the bytes so far are written, escaped
abbrev pub invariant-loop-byte : goal.invariant-loop-byte
invariant-loop-byte l = l.out.items ≡ l.initial.out.items ++ escaped (take l.byte-index l.bytes)
