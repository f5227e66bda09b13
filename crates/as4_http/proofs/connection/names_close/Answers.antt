use Rattle.std.proofs.Common.{rules, codes}
use Rattle.std.proofs.lemmas.Iterator.Search.{any_from_yields_List}
use Rattle.std.proofs.lemmas.Iterator.Splits.{YieldsList-from_slice_split}
use Rattle.as4_http.specs.Connection.{is_gap, names_close}
use Rattle.as4_http.specs.Fields.{is_name}
use Rattle.as4_http.proofs.connection.names_close.Goals as goal

pub returns : goal.returns
unfolding names_close
returns c =
    any_from_yields_List (λ word. is_name word (codes "close")) _ _ _ c.any.ensures.ran
    (YieldsList-from_slice_split _ is_gap c.args.value.now c.split.ensures.rest c.split.ensures.done c.split.ensures.closure (λ x r q k. search rules))
    (λ x b q k. search rules)
