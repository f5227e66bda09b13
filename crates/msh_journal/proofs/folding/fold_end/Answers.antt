use Rattle.std.proofs.Common.{◌≡◌, ℕ, List, Err, inl, ap, sym, subst, ◌∙◌, arith}
use Rattle.std.proofs.lemmas.Result.{err_from_is_err_and}
use Rattle.exchange_model.specs.End.{End}
use Rattle.exchange_model.specs.Fold.{IsFoldedSize, resized}
use Rattle.inbox.specs.Spots.{Spot}
use Rattle.journal.specs.declared.fault.JournalFault.{JournalFault}
use Rattle.journal.specs.declared.fault.JournalFault.TheVariants.{NoMemory}
use Rattle.msh_journal.specs.Payloads.{IsJournalWith}
use Rattle.msh_journal.specs.declared.folding.Compaction.TheVariants as compaction
use Rattle.msh_journal.proofs.FoldingLemmas.{still_records}
use Rattle.payload_gates.specs.Gates.{moved}
use Rattle.msh_journal.proofs.folding.fold_end.Goals as goal

pub returns-in_default-clause-any_moment : goal.returns-in_default-clause-any_moment
returns-in_default-clause-any_moment g c bodies size has folded =
    inl (still_records g.D.Disk g.met.D.Disk.only_now c.args.journal.now bodies has)

pub returns-in_err-write_fold-clause-starved : goal.returns-in_err-write_fold-clause-starved
returns-in_err-write_fold-clause-starved g c starved =
    let p = err_from_is_err_and c.from_residual.result c.from_residual.ensures.1 in
    let now = rw (p.1, p.2) at starved in
    let fault : c.in_err-write_fold.field-0.0 ≡ NoMemory = cc (now) in
    c.in_err-write_fold.ensures.starved (ap (λ (e : JournalFault). Err e) fault)

pub returns-in_err-write_fold-clause-starved_held : goal.returns-in_err-write_fold-clause-starved_held
returns-in_err-write_fold-clause-starved_held g c starved =
    let p = err_from_is_err_and c.from_residual.result c.from_residual.ensures.1 in
    let now = rw (p.1, p.2) at starved in
    let fault : c.in_err-write_fold.field-0.0 ≡ NoMemory = cc (now) in
    c.in_err-write_fold.ensures.starved_held (ap (λ (e : JournalFault). Err e) fault)

pub set_folded-requires : goal.set_folded-requires
set_folded-requires g c size folded =
    let was = subst (λ (e : End). IsFoldedSize e size) c.move_places.ensures.end folded in
    omega (arith, c.requires.short size was)

pub returns-in-Done-clause-end : goal.returns-in-Done-clause-end
returns-in-Done-clause-end g c done size folded =
    let now = subst (λ (e : End). IsFoldedSize e size) (sym c.move_places.ensures.end) folded in
    c.set_folded.ensures.end size now ∙ ap (λ (e : End). resized size e) c.move_places.ensures.end

pub returns-in-Done-clause-kept : goal.returns-in-Done-clause-kept
returns-in-Done-clause-kept g c done =
    let core = c.args.core.now in
    let kept = c.in_ok-write_fold.ensures.kept c.in-Done.is in
    let now = subst (λ (e : End). IsFoldedSize e kept.0) (sym c.move_places.ensures.end) kept.1 in
    let end : c.set_folded.new.self.end ≡ resized kept.0 core.end =
    c.set_folded.ensures.end kept.0 now ∙ ap (λ (e : End). resized kept.0 e) c.move_places.ensures.end in
    let places : c.set_folded.new.self.places ≡ moved core.end.confirmed c.write_fold.new.gates.items core.places =
    c.set_folded.ensures.places ∙ c.move_places.ensures.places ∙ ap (λ (l : List ℕ). moved core.end.confirmed l core.places) c.deref.ensures.value in
    let P : End → List Spot → Type 0 = λ e l. IsJournalWith g.D.Disk e l c.write_fold.new.journal in
    subst (λ (e : End). P e c.set_folded.new.self.places) (sym end) (subst (P (resized kept.0 core.end)) (sym places) kept.2)

pub returns-clause-lost_kept : goal.returns-clause-lost_kept
returns-clause-lost_kept g c gate is =
    let same : c.in-Lost.gate ≡ gate = cc in
    c.in_ok-write_fold.ensures.lost_kept gate (c.in-Lost.is ∙ ap compaction.Lost same)

pub returns-clause-lost_held : goal.returns-clause-lost_held
returns-clause-lost_held g c gate is =
    let same : c.in-Lost.gate ≡ gate = cc in
    c.in_ok-write_fold.ensures.lost_held gate (c.in-Lost.is ∙ ap compaction.Lost same)
