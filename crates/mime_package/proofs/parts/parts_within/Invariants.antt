use Rattle.std.proofs.Common.{◌≡◌, ◌-◌, map}
use Rattle.mime_fields.specs.Lent.{part_value}
use Rattle.mime_package.specs.Reading.{max_parts, parts_within}
use Rattle.mime_package.proofs.StepLemmas.{before}
use Rattle.mime_package.proofs.parts.parts_within.Given as goal

-- the parts so far precede those of the rest
abbrev pub invariant-loop-index : goal.invariant-loop-index
invariant-loop-index l =
    parts_within max_parts 0 l.search.boundary.now l.bytes ≡ before (map part_value l.parts.items) (parts_within (max_parts - l.index) l.index l.search.boundary.now l.rest)
