use Rattle.std.proofs.Common.{Some, None, map, sym}
use Rattle.mime_fields.specs.Lent.{parameter_of}
use Rattle.mime_fields.proofs.ParameterLemmas.{type_told}
use Rattle.mime_fields.proofs.media_type.read_media_type.Goals as goal

pub returns-in_default-2 : goal.returns-in_default-2
returns-in_default-2 c =
    type_told c.args.text.now c.in-Some-strip_prefix.rest.now (c.in-Some.kind.now, c.in-Some.rest.now) (c.in-Some-run_at.subkind.now, c.in-Some-run_at.rest.now) None
    (rw c.skip.ensures at (sym c.in-Some.ensures)) (sym c.in-Some-strip_prefix.ensures) (sym c.in-Some-run_at.ensures) (rw c.in_default-2.is at c.in_ok-parameters.ensures)

pub returns : goal.returns
returns c =
    type_told c.args.text.now c.in-Some-strip_prefix.rest.now (c.in-Some.kind.now, c.in-Some.rest.now) (c.in-Some-run_at.subkind.now, c.in-Some-run_at.rest.now) (Some (map parameter_of c.in-Some-2.parameters.items))
    (rw c.skip.ensures at (sym c.in-Some.ensures)) (sym c.in-Some-strip_prefix.ensures) (sym c.in-Some-run_at.ensures) (rw c.in-Some-2.is at c.in_ok-parameters.ensures)
