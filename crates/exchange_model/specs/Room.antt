-- Room in the journal for the record of any single effect that an event makes; the two effects of a pair need less.
use Rattle.std.specs.Prelude.{◌+◌, ◌≤◌}
use Rattle.as4_effects.specs.Sound.{effect_limit}
use Rattle.exchange_model.specs.End.{End}
use Rattle.exchange_model.specs.Table.{journal_limit}

-- an effect has a limit; its record has eleven bytes more
abbrev pub HasRoomForOne : End → Type 0
HasRoomForOne end = end.size + (effect_limit + 11) ≤ journal_limit
