-- The row of the specification that a row of the table shows.
use Rattle.as4_codes.specs.declared.rows.Row.{Row}
use Rattle.as4_codes.specs.ErrorCodes.{ErrorRow}

abbrev pub row_of : Row → ErrorRow
row_of row = record { code = row.code; short = row.short.now; severity = row.severity; category = row.category.now }
