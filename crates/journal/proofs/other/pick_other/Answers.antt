use Rattle.std.proofs.Common.{◌≡◌, ◌≢◌, ◌⊎◌, inl, inr, ⊎_elim, ℕ, Bool, true, false, not, is_some, List, [], ◌∷◌, Option, refl, sym, ap, ◌∙◌}
use Rattle.std.specs.Int.{from_bool}
use Rattle.as4_disk.specs.declared.disk.Disk.{Ghosts as DiskMeaning}
use Rattle.as4_disk.specs.declared.part.Part.TheVariants.{Selector}
use Rattle.as4_disk.specs.Bytes.{Torn}
use Rattle.as4_disk.specs.Image.{Image, TornFrom}
use Rattle.as4_disk.proofs.ImageLemmas.{only_elsewhere}
use Rattle.as4_disk.proofs.RunLemmas.{weaken}
use Rattle.journal.specs.Store.{picks, leaf_of, is_second_of, picked_leaf}
use Rattle.journal.specs.Settled.{IsSettled, ReadsSettled}
use Rattle.journal.proofs.StoreLemmas.{picked_at, tells_some, settled_left}
use Rattle.journal.proofs.other.pick_other.Goals as goal

byte_picks : (b : Bool) (rest : List ℕ) → picks (from_bool b ∷ rest) ≡ b
byte_picks true rest = refl
byte_picks false rest = refl

leaf_differs : (is_second : Bool) → leaf_of is_second ≢ Selector
leaf_differs true same = cc
leaf_differs false same = cc

one_or_other : (b is_second : Bool) → (leaf_of b ≡ leaf_of is_second) ⊎ (leaf_of b ≡ leaf_of (not is_second))
one_or_other true true = inl refl
one_or_other true false = inr refl
one_or_other false true = inr refl
one_or_other false false = inl refl

module _ {D : Type 0} (M : DiskMeaning D) (old : D) (is_second : Bool) (leaf other : List ℕ) (is : IsSettled M old is_second leaf) (reads : ReadsSettled M old is_second other) where
  -- whatever the selector is, one of the two is picked
  either_picked : (c : Image) → TornFrom Selector 0 1 (M.may_leave old) c → (picked_leaf c ≡ leaf) ⊎ (picked_leaf c ≡ other)
  either_picked c from =
      let was = settled_left M old is_second leaf from.0 is from.1 in
      let here : c (leaf_of is_second) ≡ leaf = from.2.elsewhere (leaf_of is_second) (leaf_differs is_second) ∙ was.1 in
      let there : c (leaf_of (not is_second)) ≡ other =
      from.2.elsewhere (leaf_of (not is_second)) (leaf_differs (not is_second)) ∙ (reads is.image is.told).1 from.0 from.1 ∙ (reads is.image is.told).0 in
      let picked : picked_leaf c ≡ c (leaf_of (is_second_of c)) = picked_at c (is_second_of c) refl in
      ⊎_elim (λ (same : leaf_of (is_second_of c) ≡ leaf_of is_second). inl (picked ∙ ap c same ∙ here)) (λ (differs : leaf_of (is_second_of c) ≡ leaf_of (not is_second)). inr (picked ∙ ap c differs ∙ there)) (one_or_other (is_second_of c) is_second)

pub returns-in_err-write_durably-clause-any_moment : goal.returns-in_err-write_durably-clause-any_moment
returns-in_err-write_durably-clause-any_moment g c leaf other is reads =
    weaken g.D.Disk c.args.disk.now c.write_durably.new.disk (TornFrom Selector 0 1 (g.D.Disk.may_leave c.args.disk.now)) (λ (image : Image). (picked_leaf image ≡ leaf) ⊎ (picked_leaf image ≡ other))
    (λ image from. either_picked g.D.Disk c.args.disk.now c.args.is_second leaf other is reads image from)
    c.write_durably.ensures.any_moment

pub returns-clause-any_moment : goal.returns-clause-any_moment
returns-clause-any_moment g c leaf other is reads =
    weaken g.D.Disk c.args.disk.now c.write_durably.new.disk (TornFrom Selector 0 1 (g.D.Disk.may_leave c.args.disk.now)) (λ (image : Image). (picked_leaf image ≡ leaf) ⊎ (picked_leaf image ≡ other))
    (λ image from. either_picked g.D.Disk c.args.disk.now c.args.is_second leaf other is reads image from)
    c.write_durably.ensures.any_moment

pub returns-clause-picked : goal.returns-clause-picked
returns-clause-picked g c leaf other is reads =
    let old = c.args.disk.now in
    let new = c.write_durably.new.disk in
    let s = c.args.is_second in
    let told = tells_some (g.D.Disk.seen new) (c.write_durably.ensures.counts.tells ∙ ap (λ (o : Option Image). is_some o) is.told) in
    let step = c.in_ok-write_durably.ensures.written is.image told.0 is.told told.1 in
    let both = reads is.image is.told in
    record {
      image = told.0;
      told = told.1;
      picked = ap picks step.there ∙ ap (λ (n : ℕ). picks (n ∷ [])) c.from.ensures ∙ byte_picks (not s) [];
      bytes = step.elsewhere (leaf_of (not s)) (leaf_differs (not s)) ∙ both.0;
      selector_only = λ image left. c.in_ok-write_durably.ensures.durable told.0 told.1 image left;
      leaf_only = λ image left. only_elsewhere (leaf_of (not s)) Selector (Torn 0 1) is.image (g.D.Disk.may_leave old) (g.D.Disk.may_leave new) (leaf_differs (not s)) c.write_durably.ensures.crash both.1 image left ∙ sym (step.elsewhere (leaf_of (not s)) (leaf_differs (not s)));
    }
