use Rattle.std.proofs.Common.{◌+◌, take, drop, sym, ◌∙◌}
use Rattle.std.proofs.lemmas.List.{take_rest}
use Rattle.byte_forms.proofs.PartedLemmas.{Lacks_nowhere, Lacks_before, parted_at, Lacks_unparted, one_cut}
use Rattle.byte_forms.proofs.cuts.cut_at.Goals as goal

pub returns-in_err-at-clause-none : goal.returns-in_err-at-clause-none
returns-in_err-at-clause-none c = rw c.from_residual.ensures (Lacks_nowhere c.args.byte c.args.bytes.now c.in_err-at.ensures)

pub returns-in_err-at-clause-only : goal.returns-in_err-at-clause-only
returns-in_err-at-clause-only c front rest lacks parts =
    absurd (Lacks_unparted c.args.byte c.args.bytes.now front rest (Lacks_nowhere c.args.byte c.args.bytes.now c.in_err-at.ensures) parts)

pub returns-clause-first : goal.returns-clause-first
returns-clause-first c = Lacks_before c.args.byte c.args.bytes.now c.in_ok-at.at c.in_ok-at.ensures

pub returns-clause-only : goal.returns-clause-only
returns-clause-only c front rest lacks parts =
    let at = c.in_ok-at.at in
    let bytes = c.args.bytes.now in
    let whole = parted_at c.args.byte bytes at c.in_ok-at.ensures in
    let same = one_cut c.args.byte (take at bytes) (drop (at + 1) bytes) front rest (sym whole ∙ parts) (Lacks_before c.args.byte bytes at c.in_ok-at.ensures) lacks in
    (same.0, take_rest bytes (at + 1) ∙ same.1)
