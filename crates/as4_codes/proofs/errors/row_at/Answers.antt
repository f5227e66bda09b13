use Rattle.std.proofs.Common.{rules}
use Rattle.as4_codes.proofs.RowLemmas.{found_row, row_is_sound}
use Rattle.as4_codes.specs.Rows.{row_of}
use Rattle.as4_codes.proofs.errors.row_at.Goals as goal

pub unreachable-requires : goal.unreachable-requires
unreachable-requires c =
    let same = found_row c.table.result.now c.args.code c.table.ensures in
    search rules

pub returns-clause-row : goal.returns-clause-row
returns-clause-row c =
    let same = found_row c.table.result.now c.args.code c.table.ensures in
    search rules

pub returns-clause-sendable : goal.returns-clause-sendable
returns-clause-sendable c =
    let same = found_row c.table.result.now c.args.code c.table.ensures in
    (row_is_sound c.args.code (row_of c.in-Some.row.now) (search rules)).0

pub returns-clause-short : goal.returns-clause-short
returns-clause-short c =
    let same = found_row c.table.result.now c.args.code c.table.ensures in
    (row_is_sound c.args.code (row_of c.in-Some.row.now) (search rules)).1

pub returns-clause-category : goal.returns-clause-category
returns-clause-category c =
    let same = found_row c.table.result.now c.args.code c.table.ensures in
    (row_is_sound c.args.code (row_of c.in-Some.row.now) (search rules)).2
