use Rattle.mime_fields.proofs.PartAgain.{fields_are_read}
use Rattle.mime_fields.proofs.PartTakes.{head_takes}
use Rattle.mime_fields.proofs.laws.a_part_is_written_so.Goals as goal

pub returns : goal.returns
returns c = λ bytes fields content. (head_takes bytes fields content, fields_are_read bytes fields content)
