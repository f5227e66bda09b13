use Rattle.std.proofs.Common.{◌<◌, ◌≡◌, false, refl, sym, ◌∙◌}
use Rattle.std.specs.Vec.{vec_len}
use Rattle.std.specs.Option.{is_some}
use Rattle.tree_reader.proofs.ReadingLemmas.{stack_last, stack_set, text_read}
use Rattle.tree_reader.proofs.reading.read_text.Goals as goal

pub returns-in-Some : goal.returns-in-Some
returns-in-Some c =
    let v = c.args.reading.now.open in
    let some : 0 < vec_len v = c.in-Some.ensures.variant.0 refl in
    let rootless : is_some c.args.reading.now.root ≡ false = sym c.is_some.ensures ∙ c.if-is_some.false in
    rw (stack_last v.items (vec_len v) c.in-Some.open.now v.ok.0 some c.in-Some.ensures.value, stack_set v.items (vec_len v) _ v.ok.0 some)
    (text_read c.args.reading.now.root c.args.reading.now.first _ _ c.args.bytes.now c.push_text.new.out c.push_text.result rootless c.push_text.ensures)
