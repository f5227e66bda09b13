use Rattle.header_reader.proofs.ValueLemmas.{text_read, text_unread}
use Rattle.header_reader.proofs.values.TextValue.read_value.Goals as goal

pub returns-in-Ok : goal.returns-in-Ok
returns-in-Ok c = text_read c.args.bytes.now c.in-Ok.text c.in-Ok.ensures.found

pub returns-in-Err-BadText : goal.returns-in-Err-BadText
returns-in-Err-BadText c =
    text_unread c.args.bytes.now (λ text is. let only = c.in-Err-BadText.ensures.only text is in cc)
