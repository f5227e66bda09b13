use Rattle.tree_reader.proofs.NameLemmas.{utf8_is, utf8_isnt}
use Rattle.tree_reader.proofs.names.is_utf8.Goals as goal

pub returns-in-Ok : goal.returns-in-Ok
returns-in-Ok c = utf8_is _ c.in-Ok.ensures.cases.1

pub returns-in-Err : goal.returns-in-Err
returns-in-Err c = utf8_isnt _ c.in-Err.ensures.cases.0
