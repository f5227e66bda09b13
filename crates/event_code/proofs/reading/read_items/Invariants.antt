use Rattle.std.proofs.Common.{◌≡◌, ◌++◌, length}
use Rattle.std.specs.List.{flat_map}
use Rattle.byte_forms.specs.Forms.{Each}
use Rattle.event_code.proofs.reading.read_items.Given as goal

-- the number of items that are read
abbrev pub invariant-loop : goal.invariant-loop
invariant-loop g l =
    (length l.items.items ≡ l.counter) × Each g.T.Readable.is_one l.items.items
    × (l.initial.rest ≡ flat_map g.T.Readable.body l.items.items ++ l.rest)
