use Rattle.std.proofs.Common.{[], ◌∷◌, ◌++◌, ap, ◌∙◌}
use Rattle.channels.proofs.NameLemmas.{names_added}
use Rattle.channels.proofs.names.Names.add.Goals as goal

pub returns-clause-ok : goal.returns-clause-ok
returns-clause-ok c =
    names_added c.in_ok-name.name c.args.name.now c.self.inside.names.keys c.insert.new.self.keys c.in_ok-name.ensures.items (rw (← c.self.view_is) at c.requires.new) c.in_ok-insert.ensures.keys
    ∙ ap (λ names. names ++ c.args.name.now ∷ []) c.self.view_is
