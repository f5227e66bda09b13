use Rattle.std.proofs.Common.{◌<◌, ◌∷◌, [], ◌+◌, length, take, drop, get_or, refl, ◌-◌}
use Rattle.std.proofs.lemmas.List.{take_rest}
use Rattle.as4_values.specs.StampParts.{IsZoneForm, IsOffsetForm}
use Rattle.as4_values.proofs.FormLemmas.{Sign, is_plus, is_hyphen, mark_stops, unmarked, not_empty, offset_opens, has_after, stops_after}
use Rattle.as4_values.proofs.stamp_form.zone_end.Goals as goal
use Rattle.as4_values.proofs.stamp_form.zone_end.Goals.{else-zone-ne43-via-then-zone-ne43+else-zone-ne45, else-zone-ne43-via-else-zone-ne43}

-- no zone begins with this byte
pub returns-then-zone-ne45-clause-stop : goal.returns-then-zone-ne45-clause-stop
returns-then-zone-ne45-clause-stop c =
    let some : 0 < length c.args.zone.now = not_empty (length c.args.zone.now) c.is_empty.result c.is_empty.ensures c.if-is_empty.false in
    mark_stops c.args.zone.now some
    (unmarked (get_or c.args.zone.now 0 0) c.if-zone-eq90.false c.if-zone-ne43.true c.if-zone-ne45.true)

-- an offset
pub returns-in_err-offset_end-clause-whole : goal.returns-in_err-offset_end-clause-whole
returns-in_err-offset_end-clause-whole c = λ none.
    let some : 0 < length c.args.zone.now = not_empty (length c.args.zone.now) c.is_empty.result c.is_empty.ensures c.if-is_empty.false in
    let sign : Sign (get_or c.args.zone.now 0 0) =
    elim c.else-zone-ne43.branch [
      | else-zone-ne43-via-then-zone-ne43+else-zone-ne45 w ↦ is_hyphen w.if-zone-ne45.false
      | else-zone-ne43-via-else-zone-ne43 w ↦ is_plus w.if-zone-ne43.false
    ] in
    has_after IsZoneForm IsOffsetForm (get_or c.args.zone.now 0 0 ∷ []) c.args.zone.now (take (length c.args.zone.now - 1) (drop 1 c.args.zone.now))
    (offset_opens c.args.zone.now some sign) (take_rest c.args.zone.now 1) (c.in_err-offset_end.ensures.whole refl)

pub returns-clause-stop : goal.returns-clause-stop
returns-clause-stop c =
    let some : 0 < length c.args.zone.now = not_empty (length c.args.zone.now) c.is_empty.result c.is_empty.ensures c.if-is_empty.false in
    let sign : Sign (get_or c.args.zone.now 0 0) =
    elim c.else-zone-ne43.branch [
      | else-zone-ne43-via-then-zone-ne43+else-zone-ne45 w ↦ is_hyphen w.if-zone-ne45.false
      | else-zone-ne43-via-else-zone-ne43 w ↦ is_plus w.if-zone-ne43.false
    ] in
    stops_after IsZoneForm IsOffsetForm (get_or c.args.zone.now 0 0 ∷ []) c.args.zone.now (take (length c.args.zone.now - 1) (drop 1 c.args.zone.now))
    c.in_ok-offset_end.field-0 (1 + c.in_ok-offset_end.field-0)
    (offset_opens c.args.zone.now some sign) (take_rest c.args.zone.now 1) refl c.in_ok-offset_end.ensures.stop
