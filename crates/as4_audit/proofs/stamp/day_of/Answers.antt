use Rattle.std.proofs.Common.{◌≡◌, pos, arith, ap, ◌∙◌, rules, FitsSigned, w8, w16, w32}
use Rattle.std.proofs.lemmas.Int.{to_z_pos, to_z-of_z}
use Rattle.std.specs.Int.RustNames.{unsigned_abs}
use Rattle.as4_audit.proofs.StampLemmas.{day_of_date}
use Rattle.as4_audit.proofs.stamp.day_of.Goals as goal

pub returns-in-Ok : goal.returns-in-Ok
returns-in-Ok c =
    let date = c.in-Ok.date in
    let z = c.to_unix_epoch_day.result in
    let is = c.in-Ok.ensures.value in
    let year : date.year ≡ pos c.args.year = is.0 ∙ to_z_pos w16 c.args.year (omega (arith, c.requires.until)) in
    let month : pos date.month ≡ pos c.args.month = is.1 ∙ to_z_pos w8 c.args.month (omega (arith, c.requires.month)) in
    let day : pos date.day ≡ pos c.args.day = is.2 ∙ to_z_pos w8 c.args.day (omega (arith, c.requires.day)) in
    let fits : FitsSigned w32 z = search rules in
    let abs : c.unsigned_abs.result ≡ unsigned_abs z = c.unsigned_abs.ensures.value ∙ ap unsigned_abs (to_z-of_z w32 z fits) in
    day_of_date z c.unsigned_abs.result date.year date.month date.day c.args.year c.args.month c.args.day year month day
    c.to_unix_epoch_day.ensures.value abs c.requires.since c.requires.date c.to_unix_epoch_day.ensures.bound.1
