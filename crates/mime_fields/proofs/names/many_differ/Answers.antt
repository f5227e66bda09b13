use Rattle.std.proofs.Common.{map}
use Rattle.mime_fields.proofs.ApartLemmas.{items_of, names_told}
use Rattle.mime_fields.proofs.names.many_differ.Goals as goal

pub returns : goal.returns
returns c =
    names_told c.all_differ.result (map items_of c.loop-parameter.names.items) c.args.parameters.now c.loop-parameter.parameter-index c.loop-parameter-test.false
    (rw c.as_mut_slice.ensures.value at c.all_differ.ensures) c.loop-parameter.invariant
