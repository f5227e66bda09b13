use Rattle.std.proofs.Common.{◌≡◌, ◌<◌, ◌+◌, ◌^◌, ℕ, List, [], ◌∷◌, ◌++◌, Option, Some, length, sym, ap, subst, ◌∙◌, arith}
use Rattle.std.specs.Prelude.{IsSomeAnd}
use Rattle.std.proofs.lemmas.Option.{same_Some}
use Rattle.as4_disk.specs.Image.{Image}
use Rattle.as4_disk.specs.Bytes.{overwritten}
use Rattle.as4_disk.proofs.RunLemmas.{weaken}
use Rattle.journal.specs.declared.version.Version.TheVariants.{Two}
use Rattle.journal.specs.Leaf.{front_of, record_of}
use Rattle.journal.specs.Store.{picked_leaf, InVersion, OpensSettled}
use Rattle.journal.proofs.LeafLemmas.{length-front_more, front_more}
use Rattle.journal.proofs.StoreLemmas.{closed_in}
use Rattle.journal.proofs.OtherLemmas.{extended}
use Rattle.journal.proofs.journal.Journal.fold_add.Goals as goal

pub write_other-requires : goal.write_other-requires
write_other-requires g c b told =
    let has = (c.requires.settled b told).2 in
    let gate : c.unwrap-gate.result ≡ length (front_of Two (c.requires.settled b told).1) = same_Some _ _ (sym c.unwrap-gate.ensures ∙ has.fold_place) in
    omega (arith, gate, ap length (has.other b told))

pub returns-in-Ok-clause-added : goal.returns-in-Ok-clause-added
returns-in-Ok-clause-added g c bodies folded has =
    let leaf = front_of c.args.self.now.version bodies ++ 0 ∷ has.rest in
    let body = c.args.frame.now in
    let gate : c.unwrap-gate.result ≡ length (front_of Two folded) = same_Some _ _ (sym c.unwrap-gate.ensures ∙ has.fold_place) in
    let kept = c.in-Ok.ensures.kept leaf (front_of Two folded) has.settled has.other in
    let R : Option ℕ → Type 0 = λ o. IsSomeAnd o (λ place. place + length body + 10 < 2 ^ 32) in
    let room : c.unwrap-gate.result + length body + 10 < 2 ^ 32 = subst R c.unwrap-gate.ensures c.requires.room in
    let len : c.body_len.result ≡ length body = c.body_len.ensures.len in
    let place : c.unwrap-gate.result + 9 + c.body_len.result ≡ length (front_of Two (folded ++ body ∷ [])) = omega (arith, len, gate, length-front_more Two folded body) in
    record {
      rest = has.rest;
      settled = kept.0;
      place = has.place;
      within = has.within;
      ahead = has.ahead;
      other = λ b told. kept.1 b told ∙ ap (λ (l : List ℕ). overwritten c.unwrap-gate.result l (front_of Two folded)) c.head.ensures ∙ extended c.unwrap-gate.result (record_of Two body) (front_of Two folded) gate ∙ sym (front_more Two folded body);
      fold_place = ap (λ (n : ℕ). Some n) place;
      fold_within = omega (arith, room, gate, length-front_more Two folded body);
    }

pub returns-in-Ok-clause-any_moment : goal.returns-in-Ok-clause-any_moment
returns-in-Ok-clause-any_moment g c bodies folded has =
    let leaf = front_of c.args.self.now.version bodies ++ 0 ∷ has.rest in
    weaken g.D.Disk c.args.self.now.disk c.write_other.new.disk (λ (image : Image). picked_leaf image ≡ leaf) (InVersion c.args.self.now.version (OpensSettled bodies))
    (λ image same. closed_in c.args.self.now.version bodies has.rest image has.within same) (c.write_other.ensures.any_moment leaf has.settled)

pub returns-in-Err-clause-any_moment : goal.returns-in-Err-clause-any_moment
returns-in-Err-clause-any_moment g c bodies folded has =
    let leaf = front_of c.args.self.now.version bodies ++ 0 ∷ has.rest in
    weaken g.D.Disk c.args.self.now.disk c.write_other.new.disk (λ (image : Image). picked_leaf image ≡ leaf) (InVersion c.args.self.now.version (OpensSettled bodies))
    (λ image same. closed_in c.args.self.now.version bodies has.rest image has.within same) (c.write_other.ensures.any_moment leaf has.settled)
