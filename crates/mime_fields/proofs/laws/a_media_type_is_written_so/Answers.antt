use Rattle.mime_fields.proofs.TypeAgain.{written_is_read}
use Rattle.mime_fields.proofs.TypeTakes.{type_takes}
use Rattle.mime_fields.proofs.laws.a_media_type_is_written_so.Goals as goal

pub returns : goal.returns
returns c = λ text m. (type_takes text m, written_is_read text m)
