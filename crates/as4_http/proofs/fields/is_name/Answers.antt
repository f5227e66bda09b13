use Rattle.as4_http.proofs.FieldLemmas.{same_test}
use Rattle.as4_http.specs.Fields.{is_name}
use Rattle.as4_http.proofs.fields.is_name.Goals as goal

pub returns : goal.returns
unfolding is_name
returns c = same_test c.eq_ignore_ascii_case.result _ _ c.eq_ignore_ascii_case.ensures.test
