use Rattle.std.proofs.Common.{◌≡◌, ◌++◌, ◌∙◌, ap, length}
use Rattle.std.proofs.lemmas.List.{length-map}
use Rattle.as4_audit.proofs.ListLemmas.{bytes_of}
use Rattle.auditor.specs.Lines.{answer_line, lines_before, right_records}
use Rattle.auditor.proofs.LineLemmas.{read_length}
use Rattle.auditor.proofs.lines.text_of.Goals as goal

pub returns : goal.returns
returns c =
    let said = c.in_ok-add_records.ensures in
    let count : length said.0 ≡ length c.args.bodies.now = read_length (bytes_of c.args.bodies.now) said.0 said.1 ∙ length-map c.args.bodies.now (λ body. body.now) in
    let place : c.right_of.result ≡ right_records said.0 c.args.finding = c.right_of.ensures said.0 count in (
      said.0,
      said.1,
      c.in_ok-add_answer.ensures ∙ ap (λ text. text ++ answer_line c.args.finding)
          (said.2 ∙ ap (λ text. text ++ lines_before c.right_of.result said.0) c.new-text.ensures.items ∙ ap (λ n. lines_before n said.0) place),
    )
