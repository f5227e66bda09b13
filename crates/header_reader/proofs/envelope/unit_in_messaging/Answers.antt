use Rattle.std.proofs.Common.{◌≡◌, [], ◌∷◌, sym, ap, ◌∙◌}
use Rattle.std.specs.List.{filter}
use Rattle.header_reader.specs.Elements.{children_of}
use Rattle.header_reader.specs.Envelope.{is_unit}
use Rattle.header_reader.proofs.EnvelopeLemmas.{none_left}
use Rattle.header_reader.proofs.envelope.unit_in_messaging.Goals as goal

-- one unit
pub returns-in_default-next_of : goal.returns-in_default-next_of
returns-in_default-next_of c =
    let first : filter is_unit (children_of c.args.messaging.now) ≡ c.in-Some.first.now ∷ filter is_unit c.in-Some.rest.now =
    ap (filter is_unit) (sym c.items.ensures) ∙ c.in-Some.ensures in
    let all : filter is_unit (children_of c.args.messaging.now) ≡ c.in-Some.first.now ∷ [] =
    first ∙ ap (λ xs. c.in-Some.first.now ∷ xs) c.in_default-next_of.ensures in
    rw all c.read_one.ensures

-- two
pub returns : goal.returns
returns c =
    let first : filter is_unit (children_of c.args.messaging.now) ≡ c.in-Some.first.now ∷ filter is_unit c.in-Some.rest.now =
    ap (filter is_unit) (sym c.items.ensures) ∙ c.in-Some.ensures in
    let none : filter is_unit c.in-Some-next_of.rest.now ≡ [] =
    none_left c.next_of-3.result _ _ (sym c.is_some.ensures ∙ c.if-is_some.false) c.next_of-3.ensures in
    let second : filter is_unit c.in-Some.rest.now ≡ c.in-Some-next_of.second.now ∷ filter is_unit c.in-Some-next_of.rest.now =
    c.in-Some-next_of.ensures in
    let all : filter is_unit (children_of c.args.messaging.now) ≡ c.in-Some.first.now ∷ c.in-Some-next_of.second.now ∷ [] =
    first ∙ ap (λ xs. c.in-Some.first.now ∷ xs) (second ∙ ap (λ xs. c.in-Some-next_of.second.now ∷ xs) none) in
    rw all c.read_two.ensures
