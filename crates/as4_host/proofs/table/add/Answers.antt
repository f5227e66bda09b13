use Rattle.std.proofs.Common.{sym, ◌∙◌, ap}
use Rattle.as4_host.specs.Rows.{value_at}
use Rattle.as4_host.proofs.RowLemmas.{finds_none, added}
use Rattle.as4_host.proofs.table.add.Goals as goal

pub returns-clause-ok : goal.returns-clause-ok
returns-clause-ok g c =
    let none = finds_none c.value_of.result (value_at c.args.rows.now.items c.args.name.now) (sym c.is_some.ensures ∙ c.if-is_some.false) (c.value_of.ensures ∙ ap (λ rows. value_at rows c.args.name.now) c.deref.ensures.value) in
    (added c.args.rows.now.items c.push.new.self.items _ c.args.name.now c.in_default-push.ensures.items (c.of-name.ensures ∙ c.in-Ok.ensures.items) none).0

pub returns-clause-rows : goal.returns-clause-rows
returns-clause-rows g c =
    let none = finds_none c.value_of.result (value_at c.args.rows.now.items c.args.name.now) (sym c.is_some.ensures ∙ c.if-is_some.false) (c.value_of.ensures ∙ ap (λ rows. value_at rows c.args.name.now) c.deref.ensures.value) in
    (added c.args.rows.now.items c.push.new.self.items _ c.args.name.now c.in_default-push.ensures.items (c.of-name.ensures ∙ c.in-Ok.ensures.items) none).1
