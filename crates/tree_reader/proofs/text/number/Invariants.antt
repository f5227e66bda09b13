use Rattle.std.proofs.Common.{◌≡◌, ◌≤◌, min, drop}
use Rattle.std.specs.List.{list_all}
use Rattle.std.specs.Char.{is_digit}
use Rattle.std.specs.Str.Parse.{digits_value, digits_value_after}
use Rattle.tree_reader.proofs.text.number.Given as goal

-- the digits so far are counted
abbrev pub invariant-loop-byte : goal.invariant-loop-byte
invariant-loop-byte l = record {
  capped : l.number ≤ 0x11_0000;
  digits : list_all (λ d. is_digit d l.radix) l.digits ≡ list_all (λ d. is_digit d l.radix) (drop l.byte-index l.digits);
  counted : min (digits_value l.radix l.digits) 0x11_0000 ≡ min (digits_value_after l.radix l.number (drop l.byte-index l.digits)) 0x11_0000;
}
