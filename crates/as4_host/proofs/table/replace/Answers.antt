use Rattle.std.proofs.Common.{Some, sym, ◌∙◌, ap, refl}
use Rattle.std.specs.Prelude.{option_map}
use Rattle.as4_host.proofs.RowLemmas.{value_there, value_nowhere, replaced_there, replaced_elsewhere, replaced_rows}
use Rattle.as4_host.proofs.table.replace.Goals as goal

pub returns-in_default-clause-was : goal.returns-in_default-clause-was
returns-in_default-clause-was g c = sym (value_nowhere c.args.rows.now c.args.name.now (sym c.place_of.ensures.place ∙ c.in_default.is))

pub returns-in_default-clause-there : goal.returns-in_default-clause-there
returns-in_default-clause-there g c =
    let none = value_nowhere c.args.rows.now c.args.name.now (sym c.place_of.ensures.place ∙ c.in_default.is) in
    rw none refl

pub returns-clause-was : goal.returns-clause-was
returns-clause-was g c =
    let place = sym c.place_of.ensures.place ∙ c.in-Some.is in
    ap Some c.replace.ensures.value ∙ sym (value_there c.args.rows.now c.args.name.now c.in-Some.at c.index-rows-at.result place)

pub returns-clause-there : goal.returns-clause-there
returns-clause-there g c =
    let place = sym c.place_of.ensures.place ∙ c.in-Some.is in
    replaced_there c.args.rows.now c.args.name.now c.in-Some.at _ c.index-rows-at.result place refl
    ∙ ap Some c.replace.ensures.after
    ∙ sym (ap (option_map (λ _. c.args.value)) (value_there c.args.rows.now c.args.name.now c.in-Some.at c.index-rows-at.result place))

pub returns-clause-others : goal.returns-clause-others
returns-clause-others g c = λ n other. replaced_elsewhere c.args.rows.now c.args.name.now n c.in-Some.at _ c.index-rows-at.result (sym c.place_of.ensures.place ∙ c.in-Some.is) refl other

pub returns-clause-kept : goal.returns-clause-kept
returns-clause-kept g c = λ n. replaced_rows c.args.rows.now c.args.name.now c.in-Some.at _ c.index-rows-at.result (sym c.place_of.ensures.place ∙ c.in-Some.is) refl n
