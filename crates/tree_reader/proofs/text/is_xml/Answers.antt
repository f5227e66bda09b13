use Rattle.as4_values.proofs.XmlTests.{xml_told}
use Rattle.tree_reader.proofs.text.is_xml.Goals as goal

pub returns : goal.returns
returns c = xml_told c.is_none.result c.first_not_xml.result c.args.bytes.now c.is_none.ensures c.first_not_xml.ensures.none
