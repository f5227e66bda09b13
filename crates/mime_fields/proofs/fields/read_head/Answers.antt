use Rattle.std.proofs.Common.{◌≡◌, ◌++◌, ◌∷◌, [], Some, None, map, sym, ◌∙◌, arith}
use Rattle.std.proofs.lemmas.List.{length-map, map_push}
use Rattle.mime_fields.specs.Fields.{max_fields}
use Rattle.mime_fields.specs.Lent.{field_of}
use Rattle.mime_fields.proofs.FieldLemmas.{field_shortens, one_on, all_of, full, no_field}
use Rattle.mime_fields.proofs.fields.read_head.Goals as goal

pub returns-then-len-eq-MAX_FIELDS : goal.returns-then-len-eq-MAX_FIELDS
returns-then-len-eq-MAX_FIELDS c =
    full max_fields c.args.bytes.now c.loop-fields.rest.now (map field_of c.loop-fields.fields.items) (sym c.goes_on.ensures ∙ c.loop-fields-test.true)
    (omega (arith, length-map c.loop-fields.fields.items field_of, c.loop-fields.fields.ok.0, c.len.ensures, c.if-len-eq-MAX_FIELDS.true)) c.loop-fields.invariant

pub returns-in_default : goal.returns-in_default
returns-in_default c =
    no_field max_fields c.args.bytes.now c.loop-fields.rest.now (map field_of c.loop-fields.fields.items) (sym c.goes_on.ensures ∙ c.loop-fields-test.true)
    (λ all. c.if-len-eq-MAX_FIELDS.false (omega (arith, length-map c.loop-fields.fields.items field_of, c.loop-fields.fields.ok.0, c.len.ensures))) (sym c.in_default.ensures) c.loop-fields.invariant

pub loop-fields-smaller : goal.loop-fields-smaller
loop-fields-smaller c =
    field_shortens c.loop-fields.rest.now (field_of c.in-Some.field, c.in-Some.after.now) (sym c.in-Some.ensures)

pub loop-fields-preserved : goal.loop-fields-preserved
loop-fields-preserved c =
    let more : map field_of c.push.new.self.items ≡ map field_of c.loop-fields.fields.items ++ field_of c.in-Some.field ∷ [] = rw c.in_ok-push.ensures.items (map_push field_of c.loop-fields.fields.items c.in-Some.field) in
    rw more (
    one_on max_fields c.args.bytes.now c.loop-fields.rest.now (map field_of c.loop-fields.fields.items) (field_of c.in-Some.field, c.in-Some.after.now)
    (sym c.goes_on.ensures ∙ c.loop-fields-test.true) (λ all. c.if-len-eq-MAX_FIELDS.false (omega (arith, length-map c.loop-fields.fields.items field_of, c.loop-fields.fields.ok.0, c.len.ensures))) (sym c.in-Some.ensures) c.loop-fields.invariant
    )

pub returns-in_default-content_at : goal.returns-in_default-content_at
returns-in_default-content_at c =
    all_of max_fields c.args.bytes.now c.loop-fields.rest.now (map field_of c.loop-fields.fields.items) None
    (sym c.goes_on.ensures ∙ c.loop-fields-test.false) c.in_default-content_at.ensures c.loop-fields.invariant

pub returns : goal.returns
returns c =
    all_of max_fields c.args.bytes.now c.loop-fields.rest.now (map field_of c.loop-fields.fields.items) (Some c.in-Some-content_at.content.now)
    (sym c.goes_on.ensures ∙ c.loop-fields-test.false) c.in-Some-content_at.ensures c.loop-fields.invariant
