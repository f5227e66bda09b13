use Rattle.std.proofs.Common.{ap, sym, ◌∙◌}
use Rattle.std.specs.Prelude.{is_some, option_map}
use Rattle.httparse.specs.Grammar.{crlf, lf}
use Rattle.byte_forms.proofs.CutLemmas.{strip_prefix_takes}
use Rattle.conformance.proofs.CutLemmas.{end_stripped, neither_end}
use Rattle.conformance.proofs.heads.after_line_end.Goals as goal

pub returns-in-Some-clause-some : goal.returns-in-Some-clause-some
returns-in-Some-clause-some c =
    (lf, strip_prefix_takes _ c.args.bytes.now c.in-Some.rest.now (sym c.strip_prefix.ensures ∙ ap (option_map (λ rest. rest.now)) c.in-Some.is))

pub returns-in-None-clause-some : goal.returns-in-None-clause-some
returns-in-None-clause-some c = end_stripped (λ rest. rest.now) c.strip_prefix-in-None.result crlf c.args.bytes.now c.strip_prefix-in-None.ensures

pub returns-in-None-clause-none : goal.returns-in-None-clause-none
returns-in-None-clause-none c none =
    neither_end (λ rest. rest.now) c.strip_prefix.result c.strip_prefix-in-None.result c.args.bytes.now c.strip_prefix.ensures c.strip_prefix-in-None.ensures (ap is_some c.in-None.is) none
