use Rattle.std.proofs.Common.{◌≡◌, Some, None, length, sym, ap, subst, ◌∙◌}
use Rattle.std.proofs.lemmas.Option.{same_Some}
use Rattle.as4_effects.specs.declared.effect.Effect.TheVariants as effect
use Rattle.event_code.specs.Spelled.{IsSpelledEffect}
use Rattle.msh_recovery.specs.Records.{alone}
use Rattle.msh_journal.proofs.OpenEntryLemmas.{open_body, open_found}
use Rattle.msh_journal.proofs.folding.fetch_frame.Goals as goal

pub returns-in-Ok-None-clause-none : goal.returns-in-Ok-None-clause-none
returns-in-Ok-None-clause-none g c is end places part e is_open held image told =
    let found = open_found end places part e c.args.id.now c.args.gate c.args.len is_open g.D.Disk c.args.journal.now held image told c.in-Ok-None.field-0 c.in-Ok-None.ensures.found in
    let none : Some found.0 ≡ None = sym found.1 ∙ c.in-Ok-None.field-0-is in
    absurd cc

pub returns-then-body_len-len-clause-frame : goal.returns-then-body_len-len-clause-frame
returns-then-body_len-len-clause-frame g c end places part e is_open held image told =
    let found = open_found end places part e c.args.id.now c.args.gate c.args.len is_open g.D.Disk c.args.journal.now held image told c.in-Ok-Some.field-0 c.in-Ok-Some.ensures.found in
    let delivery : c.in-Ok-Some.delivery ≡ found.0 = same_Some _ _ (sym c.in-Ok-Some.field-0-is ∙ found.1) in
    let same : effect.Delivered c.in-Ok-Some.delivery ≡ e = ap effect.Delivered delivery ∙ sym found.2 in
    (c.in-Ok.ensures.body ∙ ap alone same, subst IsSpelledEffect same c.in-Ok.ensures.spelled)

pub returns-clause-none : goal.returns-clause-none
returns-clause-none g c is end places part e is_open held image told =
    let found = open_found end places part e c.args.id.now c.args.gate c.args.len is_open g.D.Disk c.args.journal.now held image told c.in-Ok-Some.field-0 c.in-Ok-Some.ensures.found in
    let delivery : c.in-Ok-Some.delivery ≡ found.0 = same_Some _ _ (sym c.in-Ok-Some.field-0-is ∙ found.1) in
    let same : effect.Delivered c.in-Ok-Some.delivery ≡ e = ap effect.Delivered delivery ∙ sym found.2 in
    let long : length c.in-Ok.frame ≡ c.args.len =
    ap length (c.in-Ok.ensures.body ∙ ap alone same) ∙ open_body end places part e c.args.id.now c.args.gate c.args.len is_open in
    c.if-body_len-len.false (c.body_len.ensures.len ∙ long)
