use Rattle.std.proofs.Common.{◌≡◌, ◌++◌, map, option_map, drop}
use Rattle.mime_fields.specs.Lent.{part_value}
use Rattle.as4_message.specs.Attached.{all_attached, attached_value}
use Rattle.as4_message.proofs.attach.all_attached.Given as goal

-- those so far precede the others
abbrev pub invariant-loop-part : goal.invariant-loop-part
invariant-loop-part l = all_attached (map part_value l.parts) ≡ option_map (λ more. map attached_value l.found.items ++ more) (all_attached (map part_value (drop l.part-index l.parts)))
