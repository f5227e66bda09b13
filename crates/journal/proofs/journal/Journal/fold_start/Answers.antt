use Rattle.std.proofs.Common.{◌≡◌, ℕ, [], ◌∷◌, ◌++◌, Some, length, ap, arith}
use Rattle.as4_disk.specs.Image.{Image}
use Rattle.as4_disk.proofs.RunLemmas.{weaken}
use Rattle.journal.specs.declared.version.Version.TheVariants.{Two}
use Rattle.journal.specs.Leaf.{front_of}
use Rattle.journal.specs.Store.{picked_leaf, InVersion, OpensSettled}
use Rattle.journal.proofs.LeafLemmas.{length-front}
use Rattle.journal.proofs.StoreLemmas.{closed_in}
use Rattle.journal.proofs.journal.Journal.fold_start.Goals as goal

pub returns-in-Ok-clause-open : goal.returns-in-Ok-clause-open
returns-in-Ok-clause-open g c bodies has =
    let leaf = front_of c.args.self.now.version bodies ++ 0 ∷ has.rest in
    let kept = c.in-Ok.ensures.kept leaf has.settled in
    let len : 8 ≡ length (front_of Two []) = omega (arith, length-front Two []) in
    record {
      rest = has.rest;
      settled = kept.0;
      place = has.place;
      within = has.within;
      ahead = has.ahead;
      other = kept.1;
      fold_place = ap (λ (n : ℕ). Some n) len;
      fold_within = omega (arith, length-front Two []);
    }

pub returns-in-Ok-clause-any_moment : goal.returns-in-Ok-clause-any_moment
returns-in-Ok-clause-any_moment g c bodies has =
    let leaf = front_of c.args.self.now.version bodies ++ 0 ∷ has.rest in
    weaken g.D.Disk c.args.self.now.disk c.empty_other.new.disk (λ (image : Image). picked_leaf image ≡ leaf) (InVersion c.args.self.now.version (OpensSettled bodies))
    (λ image same. closed_in c.args.self.now.version bodies has.rest image has.within same) (c.empty_other.ensures.any_moment leaf has.settled)

pub returns-in-Err-clause-any_moment : goal.returns-in-Err-clause-any_moment
returns-in-Err-clause-any_moment g c bodies has =
    let leaf = front_of c.args.self.now.version bodies ++ 0 ∷ has.rest in
    weaken g.D.Disk c.args.self.now.disk c.empty_other.new.disk (λ (image : Image). picked_leaf image ≡ leaf) (InVersion c.args.self.now.version (OpensSettled bodies))
    (λ image same. closed_in c.args.self.now.version bodies has.rest image has.within same) (c.empty_other.ensures.any_moment leaf has.settled)
