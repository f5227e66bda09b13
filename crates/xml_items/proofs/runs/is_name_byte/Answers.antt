use Rattle.std.proofs.Common.{not, get_or, nat_eq, refl, arith}
use Rattle.std.proofs.lemmas.Bool.{agree_below_at}
use Rattle.xml_items.specs.Classes.{is_name_byte}
use Rattle.xml_items.specs.declared.runs.TheConstants.{NAME_BYTES}
use Rattle.xml_items.proofs.runs.is_name_byte.Goals as goal

-- the table and the class agree at each byte
pub returns : goal.returns
returns c = agree_below_at (λ b. not (nat_eq (get_or NAME_BYTES b 0) 44)) is_name_byte 256 c.args.byte refl (omega arith)
