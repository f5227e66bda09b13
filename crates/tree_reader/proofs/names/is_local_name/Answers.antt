use Rattle.std.proofs.Common.{sym, ◌∙◌}
use Rattle.std.proofs.lemmas.Option.{get_or_from_slice_get}
use Rattle.tree_reader.proofs.NameLemmas.{simple_local}
use Rattle.tree_reader.proofs.names.is_local_name.Goals as goal

pub returns-then-is_simple : goal.returns-then-is_simple
returns-then-is_simple c =
    simple_local c.args.name.now c.in-Some.first.now c.is_name_start.result c.is_name_start.ensures (sym (get_or_from_slice_get c.args.name.now 0 c.in-Some.first.now 0 (sym c.in-Some.ensures.value))) (sym c.is_simple.ensures ∙ c.if-is_simple.true)
