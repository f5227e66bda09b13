use Rattle.std.proofs.Common.{List, ℕ, ◌++◌, ◌∙◌, ap, codes}
use Rattle.std.proofs.lemmas.Result.{on_ok_weaker}
use Rattle.as4_http.specs.Written.{line, fields_and_body}
use Rattle.as4_http.proofs.WrittenLemmas.{five_behind}
use Rattle.as4_http.proofs.writing.add_fields_and_body.Goals as goal

pub returns : goal.returns
unfolding fields_and_body
returns c =
    let counted = c.in_ok-add_line.ensures ∙ ap (λ (t : List ℕ). c.add_media.new.out.items ++ line (codes "Content-Length: " ++ t)) (c.as_bytes.ensures.value ∙ c.format.ensures.text) in
    on_ok_weaker c.add.result (five_behind c.args.out.now.items _ _ _ _ c.args.body.now _ _ _ _ c.add.new.out.items c.in_ok-add_media.ensures counted c.in_ok-add_line-2.ensures c.in_ok-add_line-3.ensures) c.add.ensures
