use Rattle.std.proofs.Common.{◌<◌, ◌+◌, ◌-◌, length, take, drop, refl, ◌∙◌, ap, arith}
use Rattle.std.proofs.lemmas.List.{take_rest}
use Rattle.as4_values.specs.Stamp.{Fits}
use Rattle.as4_values.specs.StampParts.{IsTailForm, IsZoneForm}
use Rattle.as4_values.proofs.FormLemmas.{nine, pointed, counted_point, not_empty, empty_is, zone_stops, point_stops, places_open, has_after, stops_after}
use Rattle.as4_values.proofs.stamp_form.tail_end.Goals as goal
use Rattle.as4_values.proofs.stamp_form.tail_end.Goals.{then-is_empty-via-then-is_empty, then-is_empty-via-else-is_empty+then-tail-ne46}

-- no point
pub returns-then-is_empty-clause-stop : goal.returns-then-is_empty-clause-stop
returns-then-is_empty-clause-stop c =
    zone_stops c.args.tail.now c.zone_end.result
    (λ some point. elim c.then-is_empty.branch [
      | then-is_empty-via-then-is_empty w ↦ empty_is (length c.args.tail.now) c.is_empty.result c.is_empty.ensures w.if-is_empty.true some
      | then-is_empty-via-else-is_empty+then-tail-ne46 w ↦ w.if-tail-ne46.true point
    ])
    c.zone_end.ensures.stop

-- a point and no digit
pub returns-then-places-eq0-clause-stop : goal.returns-then-places-eq0-clause-stop
returns-then-places-eq0-clause-stop c =
    point_stops c.args.tail.now
    (not_empty (length c.args.tail.now) c.is_empty.result c.is_empty.ensures c.if-is_empty.false)
    c.if-tail-ne46.false
    (λ digit. c.matching-places.ensures.no_more (rw (c.if-places-eq0.true, take_rest c.args.tail.now 1) digit))

-- the zone after the places
pub returns-in_err-zone_end-clause-whole : goal.returns-in_err-zone_end-clause-whole
returns-in_err-zone_end-clause-whole c = λ none.
    let some : 0 < length c.args.tail.now = not_empty (length c.args.tail.now) c.is_empty.result c.is_empty.ensures c.if-is_empty.false in
    let rest = take_rest c.args.tail.now 1 in
    let digits : Fits nine (drop 1 c.args.tail.now) c.matching-places.result = rw rest at c.matching-places.ensures.fits in
    has_after IsTailForm IsZoneForm (pointed c.matching-places.result) c.args.tail.now
    (take (length c.args.tail.now - (1 + c.matching-places.result)) (drop (1 + c.matching-places.result) c.args.tail.now))
    (places_open c.args.tail.now c.matching-places.result some c.if-tail-ne46.false (omega arith) digits
    (λ more. c.matching-places.ensures.no_more (rw rest more)))
    (take_rest c.args.tail.now (1 + c.matching-places.result) ∙ ap (λ n. drop n c.args.tail.now) (counted_point c.matching-places.result))
    (c.in_err-zone_end.ensures.whole refl)

pub returns-clause-stop : goal.returns-clause-stop
returns-clause-stop c =
    let some : 0 < length c.args.tail.now = not_empty (length c.args.tail.now) c.is_empty.result c.is_empty.ensures c.if-is_empty.false in
    let rest = take_rest c.args.tail.now 1 in
    let digits : Fits nine (drop 1 c.args.tail.now) c.matching-places.result = rw rest at c.matching-places.ensures.fits in
    stops_after IsTailForm IsZoneForm (pointed c.matching-places.result) c.args.tail.now
    (take (length c.args.tail.now - (1 + c.matching-places.result)) (drop (1 + c.matching-places.result) c.args.tail.now))
    c.in_ok-zone_end.field-0 (1 + c.matching-places.result + c.in_ok-zone_end.field-0)
    (places_open c.args.tail.now c.matching-places.result some c.if-tail-ne46.false (omega arith) digits
    (λ more. c.matching-places.ensures.no_more (rw rest more)))
    (take_rest c.args.tail.now (1 + c.matching-places.result) ∙ ap (λ n. drop n c.args.tail.now) (counted_point c.matching-places.result))
    (omega (arith, counted_point c.matching-places.result))
    c.in_ok-zone_end.ensures.stop
