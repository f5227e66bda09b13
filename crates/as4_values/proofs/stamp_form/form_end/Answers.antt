use Rattle.std.proofs.Common.{◌≡◌, ◌+◌, ◌-◌, length, take, drop, refl, arith}
use Rattle.std.proofs.lemmas.List.{take_rest}
use Rattle.as4_values.specs.Stamp.{Fits, IsForm}
use Rattle.as4_values.specs.StampParts.{IsTailForm}
use Rattle.as4_values.proofs.FormLemmas.{seconds, seconds_open, seconds_stop, has_after, stops_after}
use Rattle.as4_values.proofs.stamp_form.form_end.Goals as goal

-- within the seconds
pub returns-then-fitting-lt19-clause-stop : goal.returns-then-fitting-lt19-clause-stop
returns-then-fitting-lt19-clause-stop c =
    seconds_stop c.args.text.now c.matching-fitting.result c.matching-fitting.ensures.fits c.matching-fitting.ensures.no_more c.if-fitting-lt19.true

-- after the seconds
pub returns-in_err-tail_end-clause-whole : goal.returns-in_err-tail_end-clause-whole
returns-in_err-tail_end-clause-whole c = λ none.
    let all : c.matching-fitting.result ≡ 19 = omega (arith, c.matching-fitting.ensures.fits.in_form) in
    let fits : Fits seconds c.args.text.now 19 = rw all at c.matching-fitting.ensures.fits in
    has_after IsForm IsTailForm seconds c.args.text.now (take (length c.args.text.now - 19) (drop 19 c.args.text.now))
    (seconds_open c.args.text.now fits) (take_rest c.args.text.now 19) (c.in_err-tail_end.ensures.whole refl)

pub returns-clause-stop : goal.returns-clause-stop
returns-clause-stop c =
    let all : c.matching-fitting.result ≡ 19 = omega (arith, c.matching-fitting.ensures.fits.in_form) in
    let fits : Fits seconds c.args.text.now 19 = rw all at c.matching-fitting.ensures.fits in
    stops_after IsForm IsTailForm seconds c.args.text.now (take (length c.args.text.now - 19) (drop 19 c.args.text.now))
    c.in_ok-tail_end.field-0 (19 + c.in_ok-tail_end.field-0)
    (seconds_open c.args.text.now fits) (take_rest c.args.text.now 19) refl c.in_ok-tail_end.ensures.stop
