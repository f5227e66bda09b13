use Rattle.std.proofs.Common.{◌≡◌, ◌⊎◌, inl, inr, ⊎_elim, [], ◌∷◌, ◌++◌, length, sym, ap, ◌∙◌, arith}
use Rattle.std.proofs.lemmas.Option.{same_Some}
use Rattle.as4_disk.specs.Image.{Image}
use Rattle.journal.specs.declared.version.Version.TheVariants.{Two}
use Rattle.journal.specs.Leaf.{front_of}
use Rattle.journal.specs.Store.{picked_leaf, InVersion, OpensSettled, OpensToEither}
use Rattle.journal.proofs.StoreLemmas.{closed_in}
use Rattle.journal.proofs.OtherLemmas.{first_weaken}
use Rattle.journal.proofs.journal.Journal.fold_finish.Goals as goal

pub finish_other-requires : goal.finish_other-requires
finish_other-requires g c b told =
    let has = (c.requires.settled b told).2 in
    let gate : c.unwrap-gate.result ≡ length (front_of Two (c.requires.settled b told).1) = same_Some _ _ (sym c.unwrap-gate.ensures ∙ has.fold_place) in
    omega (arith, gate, ap length (has.other b told))

pub returns-in-Ok-clause-folded : goal.returns-in-Ok-clause-folded
returns-in-Ok-clause-folded g c bodies folded has =
    let leaf = front_of c.args.self.now.version bodies ++ 0 ∷ has.rest in
    let gate : c.unwrap-gate.result ≡ length (front_of Two folded) = same_Some _ _ (sym c.unwrap-gate.ensures ∙ has.fold_place) in
    record {
      rest = [];
      settled = c.in-Ok.ensures.picked leaf (front_of Two folded) gate has.settled has.other;
      place = gate;
      within = has.fold_within;
      ahead = has.ahead;
    }

pub returns-in-Ok-clause-any_moment : goal.returns-in-Ok-clause-any_moment
returns-in-Ok-clause-any_moment g c bodies folded has =
    let leaf = front_of c.args.self.now.version bodies ++ 0 ∷ has.rest in
    let other = front_of Two folded in
    let gate : c.unwrap-gate.result ≡ length other = same_Some _ _ (sym c.unwrap-gate.ensures ∙ has.fold_place) in
    first_weaken g.D.Disk c.args.self.now.disk c.finish_other.new.disk (λ (image : Image). picked_leaf image ≡ leaf) (λ (image : Image). (picked_leaf image ≡ leaf) ⊎ (picked_leaf image ≡ other ++ 0 ∷ [])) (InVersion c.args.self.now.version (OpensSettled bodies)) (OpensToEither c.args.self.now.version bodies folded)
    (λ image same. closed_in c.args.self.now.version bodies has.rest image has.within same)
    (λ image one. ⊎_elim (λ (same : picked_leaf image ≡ leaf). inl (closed_in c.args.self.now.version bodies has.rest image has.within same)) (λ (new : picked_leaf image ≡ other ++ 0 ∷ []). inr (closed_in Two folded [] image has.fold_within new)) one)
    (c.finish_other.ensures.any_moment leaf other gate has.settled has.other)

pub returns-in-Err-clause-any_moment : goal.returns-in-Err-clause-any_moment
returns-in-Err-clause-any_moment g c bodies folded has =
    let leaf = front_of c.args.self.now.version bodies ++ 0 ∷ has.rest in
    let other = front_of Two folded in
    let gate : c.unwrap-gate.result ≡ length other = same_Some _ _ (sym c.unwrap-gate.ensures ∙ has.fold_place) in
    first_weaken g.D.Disk c.args.self.now.disk c.finish_other.new.disk (λ (image : Image). picked_leaf image ≡ leaf) (λ (image : Image). (picked_leaf image ≡ leaf) ⊎ (picked_leaf image ≡ other ++ 0 ∷ [])) (InVersion c.args.self.now.version (OpensSettled bodies)) (OpensToEither c.args.self.now.version bodies folded)
    (λ image same. closed_in c.args.self.now.version bodies has.rest image has.within same)
    (λ image one. ⊎_elim (λ (same : picked_leaf image ≡ leaf). inl (closed_in c.args.self.now.version bodies has.rest image has.within same)) (λ (new : picked_leaf image ≡ other ++ 0 ∷ []). inr (closed_in Two folded [] image has.fold_within new)) one)
    (c.finish_other.ensures.any_moment leaf other gate has.settled has.other)
