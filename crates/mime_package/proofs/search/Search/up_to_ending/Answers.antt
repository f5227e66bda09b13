use Rattle.std.proofs.Common.{sym, ap, ◌∙◌}
use Rattle.std.specs.Prelude.{option_map}
use Rattle.mime_package.specs.Reading.{ending_at}
use Rattle.mime_package.specs.Lent.{ending_of}
use Rattle.mime_package.proofs.StartLemmas.{endings_begin}
use Rattle.mime_package.proofs.UpToLemmas.{loop_on, loop_found, goes_nowhere}
use Rattle.mime_package.proofs.search.Search.up_to_ending.Goals as goal

pub returns-in-Some-ending_at : goal.returns-in-Some-ending_at
returns-in-Some-ending_at c =
    let self = c.args.self.now in
    let begin = endings_begin self.boundary.now self.start self.starts_so in
    let found = loop_found self.start (ending_at self.boundary.now) begin c.args.bytes.now c.search.rest.now c.split_at.result.1.now c.in-Some.at (ending_of c.in-Some-ending_at.ending) c.search.invariant c.in-Some.ensures
    c.split_at.ensures.back (sym c.ending_at.ensures ∙ ap (option_map ending_of) c.in-Some-ending_at.is) in
    rw c.split_at-in-Some-ending_at.ensures.front (sym found)

pub search-preserved : goal.search-preserved
search-preserved c =
    let self = c.args.self.now in
    let begin = endings_begin self.boundary.now self.start self.starts_so in
    loop_on self.start (ending_at self.boundary.now) begin c.args.bytes.now c.search.rest.now c.split_at.result.1.now c.split_at-in-Some.result.1.now c.in-Some.at c.search.invariant c.in-Some.ensures
    c.split_at.ensures.back (sym c.ending_at.ensures ∙ ap (option_map ending_of) c.in_default-ending_at.is) c.split_at-in-Some.ensures.back

pub returns : goal.returns
returns c =
    let self = c.args.self.now in
    let begin = endings_begin self.boundary.now self.start self.starts_so in
    sym (goes_nowhere self.start (ending_at self.boundary.now) begin c.args.bytes.now c.search.rest.now c.search.invariant c.in_default.ensures)
