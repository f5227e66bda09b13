use Rattle.std.proofs.Common.{sym, ◌∙◌, map}
use Rattle.mime_fields.specs.Lent.{part_value}
use Rattle.as4_message.proofs.AttachLemmas.{attach_inside, attach_outside, attach_paired}
use Rattle.as4_message.proofs.attach.attach.Goals as goal

pub returns-then-any_inside-clause-parts : goal.returns-then-any_inside-clause-parts
returns-then-any_inside-clause-parts c =
    sym (attach_inside c.args.infos.now (map part_value c.args.parts.now) (sym c.any_inside.ensures ∙ c.if-any_inside.true))

pub returns-in-Some-clause-parts : goal.returns-in-Some-clause-parts
returns-in-Some-clause-parts c =
    let none = sym c.any_inside.ensures ∙ c.if-any_inside.false in
    let named = rw c.in-Some.is at c.in_ok-names.ensures in
    rw (attach_paired c.args.infos.now (map part_value c.args.parts.now) c.in-Some.names.items none named, ← c.as_slice.ensures.value) c.attach_named.ensures

pub returns-in-None-clause-parts : goal.returns-in-None-clause-parts
returns-in-None-clause-parts c =
    let none = sym c.any_inside.ensures ∙ c.if-any_inside.false in
    sym (attach_outside c.args.infos.now (map part_value c.args.parts.now) none (rw c.in-None.is at c.in_ok-names.ensures))
