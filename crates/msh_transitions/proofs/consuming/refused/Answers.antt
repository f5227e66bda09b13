use Rattle.std.proofs.Common.{sym, ◌∙◌, ap}
use Rattle.std.specs.Option.{option_copied}
use Rattle.msh_transitions.proofs.OwnRows.{no_code}
use Rattle.msh_transitions.proofs.consuming.refused.Goals as goal

pub unreachable-requires : goal.unreachable-requires
unreachable-requires c =
    no_code _ _ c.requires (sym (ap option_copied c.in-None.is) ∙ c.refused_code.ensures)
    (λ s code m h. let none = rw m at h in cc)
