use Rattle.std.proofs.Common.{◌≡◌, ◌++◌, ◌∷◌, [], map, sym, ◌∙◌}
use Rattle.std.proofs.lemmas.List.{map_push}
use Rattle.mime_fields.specs.Lent.{parameter_of}
use Rattle.mime_fields.proofs.ParameterLemmas.{parameter_shortens, one_on}
use Rattle.mime_fields.proofs.media_type.parameters_in.Goals as goal

pub loop-rest-smaller : goal.loop-rest-smaller
loop-rest-smaller c =
    parameter_shortens c.loop-rest.rest.now (parameter_of c.in-Some.parameter, c.in-Some.after.now) (sym c.in-Some.ensures)

pub loop-rest-preserved : goal.loop-rest-preserved
loop-rest-preserved c =
    let more : map parameter_of c.push.new.self.items ≡ map parameter_of c.loop-rest.parameters.items ++ parameter_of c.in-Some.parameter ∷ [] = rw c.in_ok-push.ensures.items (map_push parameter_of c.loop-rest.parameters.items c.in-Some.parameter) in
    rw more (
    one_on c.args.bytes.now c.loop-rest.rest.now (map parameter_of c.loop-rest.parameters.items) (parameter_of c.in-Some.parameter, c.in-Some.after.now)
    (sym c.are_spaces.ensures ∙ c.loop-rest-test.true) (sym c.in-Some.ensures) c.loop-rest.invariant
    )
