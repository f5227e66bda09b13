use Rattle.std.proofs.lemmas.List.{take_rest}
use Rattle.drill_script.proofs.FrontLemmas.{front_line, front_none, front_long, all_long}
use Rattle.drill_script.proofs.pieces.front_of.Goals as goal

pub returns-in-Some : goal.returns-in-Some
returns-in-Some c =
    front_line c.args.bytes.now _ c.args.scanned c.in-Some.at (take_rest c.args.bytes.now c.args.scanned) c.requires.within c.requires.lacks c.in-Some.ensures c.if-scanned-at-le-LINE_LIMIT.true

pub returns-in-None : goal.returns-in-None
returns-in-None c =
    (front_none c.args.bytes.now _ c.args.scanned (take_rest c.args.bytes.now c.args.scanned) c.requires.lacks c.in-None.ensures, c.if-bytes-le-LINE_LIMIT.true)

pub returns-in-Some-2 : goal.returns-in-Some-2
returns-in-Some-2 c =
    front_long c.args.bytes.now _ c.args.scanned c.in-Some.at (take_rest c.args.bytes.now c.args.scanned) c.requires.within c.requires.lacks c.in-Some.ensures c.if-scanned-at-le-LINE_LIMIT.false

pub returns-in-None-2 : goal.returns-in-None-2
returns-in-None-2 c =
    all_long c.args.bytes.now (front_none c.args.bytes.now _ c.args.scanned (take_rest c.args.bytes.now c.args.scanned) c.requires.lacks c.in-None.ensures) c.if-bytes-le-LINE_LIMIT.false
