-- A cut item as a value, without its address in memory.
use Rattle.std.specs.Prelude.{List, map}
use Rattle.xml_items.specs.Items.{Written, Item, declaration, comment, start, finish, run}
use Rattle.xml_items.specs.declared.item.RawAttribute.{RawAttribute}
use Rattle.xml_items.specs.declared.item.RawItem.{RawItem}
use Rattle.xml_items.specs.declared.item.RawItem.TheVariants as raw

abbrev pub written_of : RawAttribute → Written
written_of a = record { name = a.name.now; value = a.value.now }

-- the item with these attributes
abbrev pub item_of : RawItem → List RawAttribute → Item
item_of raw.Declaration attributes = declaration
item_of (raw.Comment bytes) attributes = comment bytes.now
item_of (raw.Start name closed) attributes =
    start (record { name = name.now; attributes = map written_of attributes; closed = closed })
item_of (raw.End name) attributes = finish name.now
item_of (raw.Text bytes) attributes = run bytes.now
