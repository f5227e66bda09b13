use Rattle.std.proofs.Common.{ap, ◌++◌, ◌∙◌}
use Rattle.event_code.proofs.NumberLemmas.{last_places}
use Rattle.event_code.proofs.written.push_number.Goals as goal

pub returns : goal.returns
returns c =
    c.in_ok-extend_from_slice.ensures.items
    ∙ ap (λ bytes. c.args.out.now.items ++ bytes) (last_places c.args.places c.args.number c.to_be_bytes.result c.requires c.to_be_bytes.ensures)
