use Rattle.xml_items.proofs.ItemLaws.{item_is}
use Rattle.xml_items.proofs.laws.item_is_written.Goals as goal

pub returns : goal.returns
returns c = item_is
