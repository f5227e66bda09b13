use Rattle.xml_items.proofs.ItemLaws.{item_unique}
use Rattle.xml_items.proofs.laws.one_item.Goals as goal

pub returns : goal.returns
returns c = item_unique
