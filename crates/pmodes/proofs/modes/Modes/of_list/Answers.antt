use Rattle.std.proofs.Common.{◌≡◌, ◌≤◌, [], Some, None, length}
use Rattle.std.specs.Str.{bytes_eq}
use Rattle.mode_values.specs.ModeMatch.{mode_terms, are_same_terms}
use Rattle.mode_values.specs.declared.mode.Mode.{Mode}
use Rattle.pmodes.specs.ModeList.{first_repeat}
use Rattle.pmodes.proofs.ListLemmas.{pair, past_limit, refused_twice, refused_ambiguous, not_refused, are_modes}
use Rattle.pmodes.proofs.modes.Modes.of_list.Goals as goal

pub returns-then-items-gt-MAX_MODES-clause-refused : goal.returns-then-items-gt-MAX_MODES-clause-refused
returns-then-items-gt-MAX_MODES-clause-refused c _ = past_limit c.args.list (rw c.items.ensures at c.if-items-gt-MAX_MODES.true)

pub returns-in-Some-clause-refused : goal.returns-in-Some-clause-refused
returns-in-Some-clause-refused c some =
    let short : length c.args.list ≤ 1024 = rw c.items.ensures at c.if-items-gt-MAX_MODES.false in
    let twice : Some (pair c.in-Some.field-0-0.now c.in-Some.mode.now) ≡ first_repeat (λ (x y : Mode). bytes_eq x.name y.name) [] c.args.list = rw (c.in-Some.is, c.items-2.ensures) at c.first_twice.ensures in
    rw (c.twice.ensures some) (refused_twice c.args.list c.in-Some.field-0-0.now c.in-Some.mode.now short twice)

pub returns-in-Some-first_ambiguous-clause-refused : goal.returns-in-Some-first_ambiguous-clause-refused
returns-in-Some-first_ambiguous-clause-refused c some =
    let short : length c.args.list ≤ 1024 = rw c.items.ensures at c.if-items-gt-MAX_MODES.false in
    let once : None ≡ first_repeat (λ (x y : Mode). bytes_eq x.name y.name) [] c.args.list = rw (c.in_default.is, c.items-2.ensures) at c.first_twice.ensures in
    let twice : Some (pair c.in-Some-first_ambiguous.first.now c.in-Some-first_ambiguous.mode.now) ≡ first_repeat (λ (x y : Mode). are_same_terms (mode_terms x) (mode_terms y)) [] c.args.list = rw (c.in-Some-first_ambiguous.is, c.items-3.ensures) at c.first_ambiguous.ensures in
    rw (c.ambiguous.ensures some) (refused_ambiguous c.args.list c.in-Some-first_ambiguous.first.now c.in-Some-first_ambiguous.mode.now short once twice)

pub invariant_of-result : goal.invariant_of-result
invariant_of-result c =
    let short : length c.args.list ≤ 1024 = rw c.items.ensures at c.if-items-gt-MAX_MODES.false in
    let once : None ≡ first_repeat (λ (x y : Mode). bytes_eq x.name y.name) [] c.args.list = rw (c.in_default.is, c.items-2.ensures) at c.first_twice.ensures in
    let apart : None ≡ first_repeat (λ (x y : Mode). are_same_terms (mode_terms x) (mode_terms y)) [] c.args.list = rw (c.in_default-first_ambiguous.is, c.items-3.ensures) at c.first_ambiguous.ensures in
    are_modes c.args.list short once apart

pub returns-clause-right : goal.returns-clause-right
returns-clause-right c =
    let short : length c.args.list ≤ 1024 = rw c.items.ensures at c.if-items-gt-MAX_MODES.false in
    let once : None ≡ first_repeat (λ (x y : Mode). bytes_eq x.name y.name) [] c.args.list = rw (c.in_default.is, c.items-2.ensures) at c.first_twice.ensures in
    let apart : None ≡ first_repeat (λ (x y : Mode). are_same_terms (mode_terms x) (mode_terms y)) [] c.args.list = rw (c.in_default-first_ambiguous.is, c.items-3.ensures) at c.first_ambiguous.ensures in
    not_refused c.args.list short once apart
