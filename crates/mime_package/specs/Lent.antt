-- Borrowed values, without their addresses in memory.
use Rattle.std.specs.Prelude.{map}
use Rattle.mime_fields.specs.Lent.{part_value}
use Rattle.mime_package.specs.Reading.{PackageValue, Ending, last, next}
use Rattle.mime_package.specs.declared.delimiters.Ending.{Ending as LentEnding}
use Rattle.mime_package.specs.declared.delimiters.Ending.TheVariants as lent
use Rattle.mime_package.specs.declared.package.Package.{Package}

abbrev pub ending_of : LentEnding → Ending
ending_of lent.Last = last
ending_of (lent.Next rest) = next rest.now

abbrev pub package_value : Package → PackageValue
package_value p = record { root = p.root.now; parts = map part_value p.parts.items }
