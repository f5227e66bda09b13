use Rattle.std.proofs.Common.{◌≡◌, None, [], length, sym, ap}
use Rattle.msh_recovery.proofs.OpenLemmas.{kept_opens}
use Rattle.office.specs.Calls.{stop_of}
use Rattle.office.proofs.CallLemmas.{left_going}
use Rattle.office.proofs.office.Office.open.Goals as goal

-- an office without calls is that of its journal
pub invariant_of-office : goal.invariant_of-office
invariant_of-office g c =
    let core = c.in-Ok-open_end.core in
    let journal = c.in-Ok-open_end.journal in
    let kept = c.in-Ok-open_end.ensures.kept in
    let list = c.in-Ok.opened.0.list in
    let none : list ≡ [] = c.in-Ok.ensures.keeper in
    let going : stop_of list ≡ None = ap stop_of none in (
      record {
        halted = sym going;
        kept = λ same. kept;
        left = λ image told left may. left_going core.modes core.end list left going (kept_opens g.D.Disk core.end journal kept.is image told left may);
        counted = tt;
      },
      ap length c.in-Ok-of.ensures,
    )

pub returns-in-Ok-open_end-clause-safe : goal.returns-in-Ok-open_end-clause-safe
returns-in-Ok-open_end-clause-safe g c =
    kept_opens g.D.Disk c.in-Ok-open_end.core.end c.in-Ok-open_end.journal c.in-Ok-open_end.ensures.kept.is

pub returns-in-Err-open_end-clause-whole : goal.returns-in-Err-open_end-clause-whole
returns-in-Err-open_end-clause-whole g c at is image told end reads =
    c.no_whole_disk_is_unfit.ensures.read image end at reads
    (c.in-Err-open_end.ensures.not_journal at is image told)
