use Rattle.std.proofs.lemmas.List.{take_rest}
use Rattle.as4_http.proofs.LineLemmas.{line_found, line_missing}
use Rattle.as4_http.proofs.trailers.line_in.Goals as goal

pub returns-in-Some-clause-some : goal.returns-in-Some-clause-some
returns-in-Some-clause-some c =
    line_found c.args.bytes.now _ c.args.scanned c.in-Some.at (take_rest c.args.bytes.now c.args.scanned) c.requires.within c.requires.none c.in-Some.ensures

pub returns-in-None-clause-none : goal.returns-in-None-clause-none
returns-in-None-clause-none c =
    line_missing c.args.bytes.now _ c.args.scanned (take_rest c.args.bytes.now c.args.scanned) c.requires.none c.in-None.ensures
