use Rattle.as4_values.proofs.TextLemmas.{plain_spells, plain_spells_only}
use Rattle.as4_values.proofs.text.Text.plain.Goals as goal

pub unreachable-requires : goal.unreachable-requires
unreachable-requires c =
    let only = c.in-Err-BadText.ensures.only c.args.bytes.now (plain_spells c.args.bytes.now c.requires) in
    cc

pub returns-in-Ok : goal.returns-in-Ok
returns-in-Ok c = plain_spells_only c.args.bytes.now c.in-Ok.text c.requires c.in-Ok.ensures.found
