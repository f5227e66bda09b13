use Rattle.std.proofs.Common.{◌≡◌, drop}
use Rattle.as4_effects.specs.Sound.{number_in}
use Rattle.as4_audit.proofs.nonce.number_in.Given as goal

-- the digits so far are counted
abbrev pub invariant-loop-byte : goal.invariant-loop-byte
invariant-loop-byte l = number_in 0 l.text ≡ number_in l.number (drop l.byte-index l.text)
