use Rattle.std.proofs.Common.{ℕ, Option, length, ap, ◌∙◌}
use Rattle.std.specs.Prelude.{unwrap_or}
use Rattle.byte_forms.proofs.SearchLemmas.{end_of_run}
use Rattle.byte_forms.proofs.runs.run_len.Goals as goal

pub returns-clause-value : goal.returns-clause-value
returns-clause-value g c =
    c.unwrap_or.ensures ∙ ap (λ (o : Option ℕ). unwrap_or o (length c.args.bytes.now)) c.run_end.ensures ∙ end_of_run (g.C.ByteClass.contains c.args.class) c.args.bytes.now
