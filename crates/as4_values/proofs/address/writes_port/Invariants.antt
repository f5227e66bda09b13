use Rattle.std.proofs.Common.{◌≡◌, ◌≤◌, drop, take, true}
use Rattle.std.specs.List.{list_all}
use Rattle.std.specs.Char.{is_ascii_digit}
use Rattle.as4_values.specs.Address.{number_on}
use Rattle.as4_values.proofs.address.writes_port.Given as goal

-- the bytes so far are digits, and the rest continues from the number that they write
abbrev pub invariant-loop-digit : goal.invariant-loop-digit
invariant-loop-digit l =
    (list_all is_ascii_digit (take l.digit-index l.digits) ≡ true)
    × (number_on l.number (drop l.digit-index l.digits) ≡ number_on 0 l.digits)
    × (l.number ≤ 65535)
