use Rattle.std.proofs.Common.{◌≡◌, ℕ, List, [], Some, None, Err, take, refl, sym, ap, subst, ◌∙◌, arith}
use Rattle.std.specs.List.{slice_get}
use Rattle.std.proofs.lemmas.Result.{err_from_is_err_and}
use Rattle.as4_effects.specs.declared.effect.Effect.{Effect}
use Rattle.fold_laws.proofs.OneFold.{one_fold}
use Rattle.journal.specs.declared.fault.JournalFault.{JournalFault}
use Rattle.journal.specs.declared.fault.JournalFault.TheVariants.{NoMemory}
use Rattle.journal.specs.declared.journal.Journal.{Journal}
use Rattle.msh_journal.specs.Adding.{HasAdded}
use Rattle.msh_journal.specs.declared.folding.Part.TheVariants as part
use Rattle.msh_journal.proofs.FoldingLemmas.{added_all, added_more, added_none, added_then, fold_run_on, lost_before, part_few, part_room, payloads_still, still_fold}
use Rattle.msh_journal.proofs.folding.add_parts.Goals as goal

pub parts-init : goal.parts-init
parts-init g c =
    let first = c.args.journal.now in
    let effects = c.requires.folded.0 in
    record {
      added = (effects, c.requires.folded.1, added_none g.D.Disk first effects c.args.gates.now.items c.requires.none.0 c.requires.none.1);
      few = omega arith;
      run = λ bodies has. still_fold g.D.Disk g.met.D.Disk.only_now first bodies [] has;
      tells = refl;
      counted = refl;
    }

pub add_part-requires-clause-room : goal.add_part-requires-clause-room
add_part-requires-clause-room g c effects effect folded found =
    let so_far = c.parts.invariant.added in
    part_room c.args.core.now.end so_far.0 effects c.parts.part effect c.parts.journal.fold c.requires.short so_far.1 folded found so_far.2.fold

pub add_part-requires-clause-held : goal.add_part-requires-clause-held
add_part-requires-clause-held g c =
    let so_far = c.parts.invariant.added in
    let core = c.args.core.now in
    payloads_still g.D.Disk c.args.journal.now c.parts.journal core.end core.places (take c.parts.part so_far.0) c.parts.gates.items so_far.2 c.parts.invariant.tells c.requires.held

pub returns-in_err-add_part-clause-starved : goal.returns-in_err-add_part-clause-starved
returns-in_err-add_part-clause-starved g c starved =
    let so_far = c.parts.invariant.added in
    let p = err_from_is_err_and c.from_residual.result c.from_residual.ensures.1 in
    let now = rw (p.1, p.2) at starved in
    let fault : c.in_err-add_part.field-0.0 ≡ NoMemory = cc (now) in
    let keeps = c.in_err-add_part.ensures.starved (ap (λ (e : JournalFault). Err e) fault) in
    added_then g.D.Disk c.args.journal.now c.parts.journal c.add_part.new.journal (take c.parts.part so_far.0) c.parts.gates.items so_far.2 keeps

pub returns-in_err-add_part-clause-any_moment : goal.returns-in_err-add_part-clause-any_moment
returns-in_err-add_part-clause-any_moment g c =
    let so_far = c.parts.invariant in
    fold_run_on g.D.Disk c.args.journal.now c.parts.journal c.add_part.new.journal (take c.parts.part so_far.added.0) c.parts.gates.items so_far.added.2 so_far.run c.add_part.ensures.any_moment

pub returns-in-Past-clause-any_moment : goal.returns-in-Past-clause-any_moment
returns-in-Past-clause-any_moment g c =
    let so_far = c.parts.invariant in
    fold_run_on g.D.Disk c.args.journal.now c.parts.journal c.add_part.new.journal (take c.parts.part so_far.added.0) c.parts.gates.items so_far.added.2 so_far.run c.add_part.ensures.any_moment

pub returns-in-Lost-clause-any_moment : goal.returns-in-Lost-clause-any_moment
returns-in-Lost-clause-any_moment g c =
    let so_far = c.parts.invariant in
    fold_run_on g.D.Disk c.args.journal.now c.parts.journal c.add_part.new.journal (take c.parts.part so_far.added.0) c.parts.gates.items so_far.added.2 so_far.run c.add_part.ensures.any_moment

pub returns-in-Past-clause-kept : goal.returns-in-Past-clause-kept
returns-in-Past-clause-kept g c =
    let so_far = c.parts.invariant.added in
    added_then g.D.Disk c.args.journal.now c.parts.journal c.add_part.new.journal (take c.parts.part so_far.0) c.parts.gates.items so_far.2 c.in_ok-add_part.ensures.kept

pub returns-in-Lost-clause-kept : goal.returns-in-Lost-clause-kept
returns-in-Lost-clause-kept g c =
    let so_far = c.parts.invariant.added in
    added_then g.D.Disk c.args.journal.now c.parts.journal c.add_part.new.journal (take c.parts.part so_far.0) c.parts.gates.items so_far.2 c.in_ok-add_part.ensures.kept

pub returns-in-Lost-clause-lost : goal.returns-in-Lost-clause-lost
returns-in-Lost-clause-lost g c gate is =
    let same : c.in-Lost.gate ≡ gate = cc in
    let lost = c.in_ok-add_part.ensures.lost gate (c.in-Lost.is ∙ ap part.Lost same) in
    (lost.0, lost_before g.D.Disk c.args.journal.now c.parts.journal c.parts.invariant.tells lost.1)

pub returns-in-Past-clause-added : goal.returns-in-Past-clause-added
returns-in-Past-clause-added g c is =
    let so_far = c.parts.invariant.added in
    let all = so_far.0 in
    let first = c.args.journal.now in
    let past = c.in_ok-add_part.ensures.past c.in-Past.is in
    let none : slice_get all c.parts.part ≡ None = ap (λ (l : List Effect). slice_get l c.parts.part) (one_fold c.args.core.now.end all past.0 so_far.1 past.1) ∙ past.2 in
    let done : HasAdded g.D.Disk first c.parts.journal all c.parts.gates.items = added_all g.D.Disk first c.parts.journal all c.parts.part c.parts.gates.items none so_far.2 in
    let P : Journal g.row.D.Denot → List ℕ → Type 0 = λ j gates. HasAdded g.D.Disk first j all gates in
    (all, so_far.1, subst (P c.add_part.new.journal) (sym past.4) (subst (λ (j : Journal g.row.D.Denot). P j c.parts.gates.items) (sym past.3) done))

pub parts-preserved : goal.parts-preserved
parts-preserved g c =
    let so_far = c.parts.invariant in
    let first = c.args.journal.now in
    let old = c.parts.journal in
    let new = c.add_part.new.journal in
    let all = so_far.added.0 in
    let more = c.in_ok-add_part.ensures.added c.in-Added.is in
    let found : slice_get all c.parts.part ≡ Some more.1 = ap (λ (l : List Effect). slice_get l c.parts.part) (one_fold c.args.core.now.end all more.0 so_far.added.1 more.2) ∙ more.3 in
    record {
      added = (all, so_far.added.1, added_more g.D.Disk first old new all c.parts.part more.1 c.parts.gates.items c.add_part.new.gates.items found so_far.added.2 more.4);
      few = part_few c.args.core.now.end all c.parts.part more.1 c.requires.short so_far.added.1 found;
      run = fold_run_on g.D.Disk first old new (take c.parts.part all) c.parts.gates.items so_far.added.2 so_far.run c.add_part.ensures.any_moment;
      tells = c.add_part.ensures.counts.tells ∙ so_far.tells;
      counted = c.in_ok-add_part.ensures.counts.cause ∙ so_far.counted;
    }
