use Rattle.std.proofs.Common.{◌≡◌, get_or, arith, sym, ◌∙◌}
use Rattle.std.proofs.lemmas.List.{get_or-take}
use Rattle.tree_reader.proofs.TextLemmas.{reference_goes}
use Rattle.tree_reader.proofs.text.push_piece.Goals as goal

pub returns-then-first-eq38 : goal.returns-then-first-eq38
returns-then-first-eq38 c =
    let first : get_or c.args.bytes.now 0 0 ≡ 38 =
    sym (get_or-take 1 c.args.bytes.now 0 0 (omega arith)) ∙ (rw c.split_at.ensures.front at c.if-first-eq38.true) in
    reference_goes c.push_reference.result c.args.in_value c.args.out.now.items c.push_reference.new.out.items c.args.bytes.now _ first c.requires.some c.split_at.ensures.back c.push_reference.ensures
