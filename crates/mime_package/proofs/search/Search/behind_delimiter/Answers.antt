use Rattle.std.proofs.Common.{sym, ap, ◌∙◌}
use Rattle.std.specs.Prelude.{option_map}
use Rattle.mime_package.specs.Reading.{delimiter_at}
use Rattle.mime_package.proofs.StartLemmas.{delimiters_begin}
use Rattle.mime_package.proofs.UpToLemmas.{loop_on, loop_found, goes_nowhere}
use Rattle.mime_package.proofs.search.Search.behind_delimiter.Goals as goal

pub returns-in-Some-delimiter_at : goal.returns-in-Some-delimiter_at
returns-in-Some-delimiter_at c =
    let self = c.args.self.now in
    let begin = delimiters_begin self.boundary.now self.start self.starts_so in
    let found = loop_found self.start (delimiter_at self.boundary.now) begin c.args.bytes.now c.search.rest.now c.split_at.result.1.now c.in-Some.at c.in-Some-delimiter_at.behind.now c.search.invariant c.in-Some.ensures
    c.split_at.ensures.back (sym c.delimiter_at.ensures ∙ ap (option_map (λ rest. rest.now)) c.in-Some-delimiter_at.is) in
    sym (ap (option_map (λ cut. cut.1)) found)

pub search-preserved : goal.search-preserved
search-preserved c =
    let self = c.args.self.now in
    let begin = delimiters_begin self.boundary.now self.start self.starts_so in
    loop_on self.start (delimiter_at self.boundary.now) begin c.args.bytes.now c.search.rest.now c.split_at.result.1.now c.split_at-in-Some.result.1.now c.in-Some.at c.search.invariant c.in-Some.ensures
    c.split_at.ensures.back (sym c.delimiter_at.ensures ∙ ap (option_map (λ rest. rest.now)) c.in_default-delimiter_at.is) c.split_at-in-Some.ensures.back

pub returns : goal.returns
returns c =
    let self = c.args.self.now in
    let begin = delimiters_begin self.boundary.now self.start self.starts_so in
    sym (ap (option_map (λ cut. cut.1)) (goes_nowhere self.start (delimiter_at self.boundary.now) begin c.args.bytes.now c.search.rest.now c.search.invariant c.in_default.ensures))
