use Rattle.std.proofs.Common.{ap, sym, ◌∙◌}
use Rattle.std.specs.Prelude.{option_map}
use Rattle.mime_fields.specs.Lent.{type_of, part_value}
use Rattle.mime_fields.specs.MediaTypes.{media_type_of}
use Rattle.mime_package.proofs.RootLemmas.{no_root_type}
use Rattle.mime_package.proofs.root.is_root.Goals as goal

pub returns-in_default : goal.returns-in_default
returns-in_default c =
    sym (no_root_type (part_value c.args.part.now) (ap media_type_of (sym c.bytes.ensures) ∙ sym c.in_ok-media.ensures ∙ ap (option_map type_of) c.in_default.is))
