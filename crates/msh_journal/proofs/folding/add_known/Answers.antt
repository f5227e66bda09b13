use Rattle.std.proofs.Common.{◌∷◌, ◌++◌, [], List, ℕ, subst}
use Rattle.journal.specs.State.{HasFold}
use Rattle.msh_journal.proofs.FoldingLemmas.{fold_grows, room_of_one, still_fold}
use Rattle.msh_journal.proofs.folding.add_known.Goals as goal

pub returns-in_default-clause-any_moment : goal.returns-in_default-clause-any_moment
returns-in_default-clause-any_moment g c bodies folded has =
    still_fold g.D.Disk g.met.D.Disk.only_now c.args.journal.now bodies folded has

pub fold_add-added-requires-clause-room : goal.fold_add-added-requires-clause-room
fold_add-added-requires-clause-room g c =
    room_of_one c.args.journal.now.fold c.args.effect c.in-Ok.frame c.in-Ok.ensures.body c.requires.room

pub returns-clause-added : goal.returns-clause-added
returns-clause-added g c =
    let old = c.args.journal.now in
    let new = c.fold_add-added.new.self in
    let frame = c.in-Ok.frame in
    let added = c.in_ok-added.ensures in
    record {
      gate = c.fold_add-added.ensures.same.0;
      version = c.fold_add-added.ensures.same.1;
      fold = λ place was. fold_grows old.fold new.fold c.in_ok-added.field-0 place c.args.effect frame c.in-Ok.ensures.body added.gate added.place was;
      added = λ bodies folded has.
          let P : List ℕ → Type 0 = λ l. HasFold g.D.Disk new bodies (folded ++ l ∷ []) in
          (c.in-Ok.ensures.spelled, subst P c.in-Ok.ensures.body (added.added bodies folded has));
    }
