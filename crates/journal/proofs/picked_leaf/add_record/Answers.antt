use Rattle.std.proofs.Common.{◌≡◌, ℕ, ◌+◌, Bool, true, false, List, [], ◌∷◌, ◌++◌, length, drop, sym, ap, subst, ◌∙◌, arith, append_assoc, length-append}
use Rattle.std.proofs.lemmas.Result.{err_from_is_err_and}
use Rattle.as4_disk.specs.declared.disk.Disk.{Ghosts as DiskMeaning}
use Rattle.as4_disk.specs.Bytes.{Torn}
use Rattle.as4_disk.specs.Image.{Image}
use Rattle.as4_disk.proofs.RunLemmas.{then, weaken}
use Rattle.journal.specs.declared.version.Version.TheVariants.{Two}
use Rattle.journal.specs.Leaf.{front_of}
use Rattle.journal.specs.Store.{leaf_of, picked_leaf, InVersion, OpensToOneOf}
use Rattle.journal.specs.Settled.{IsSettled}
use Rattle.journal.proofs.AddLemmas.{tail_of, frame_tail, torn_tail, torn_open, after_tail, after_gate}
use Rattle.journal.proofs.CallLemmas.{record_made}
use Rattle.journal.proofs.picked_leaf.add_record.Goals as goal

-- the first write settles a closed gate, the rest of the record and what is left behind it
mid_settled : {D : Type 0} (M : DiskMeaning D) (old mid : D) (is_second : Bool) (bodies : List (List ℕ)) (body rest tail : List ℕ) (gate : ℕ) → gate ≡ length (front_of Two bodies) → tail ≡ tail_of body
    → ((front others : List ℕ) → gate + 1 ≡ length front → IsSettled M old is_second (front ++ others) → IsSettled M mid is_second (front ++ tail ++ drop (length tail) others))
    → IsSettled M old is_second (front_of Two bodies ++ 0 ∷ rest) → IsSettled M mid is_second (front_of Two bodies ++ 0 ∷ (tail_of body ++ drop (length tail) rest))
mid_settled M old mid is_second bodies body rest tail gate place is_tail settles is =
    let P : List ℕ → Type 0 = IsSettled M old is_second in
    let Q : List ℕ → Type 0 = IsSettled M mid is_second in
    let closed = front_of Two bodies ++ 0 ∷ [] in
    let written = settles closed rest (omega (arith, place, length-append (front_of Two bodies) (0 ∷ []))) (subst P (sym (append_assoc (front_of Two bodies) (0 ∷ []) rest)) is) in
    subst Q (ap (λ (l : List ℕ). closed ++ l ++ drop (length tail) rest) is_tail ∙ after_tail bodies body rest (drop (length tail) rest)) written

pub returns-in_err-write_picked-clause-any_moment : goal.returns-in_err-write_picked-clause-any_moment
returns-in_err-write_picked-clause-any_moment g c bodies rest place within is =
    weaken g.D.Disk c.args.disk.now c.write_picked.new.disk _ (InVersion Two (OpensToOneOf bodies c.args.frame.now))
    (λ image torn. torn_tail bodies c.args.frame.now rest c.args.gate _ image place within torn)
    (c.write_picked.ensures.any_moment (front_of Two bodies ++ 0 ∷ rest) is)

pub returns-in_err-write_picked-2-clause-any_moment : goal.returns-in_err-write_picked-2-clause-any_moment
returns-in_err-write_picked-2-clause-any_moment g c bodies rest place within is =
    let tail = c.tail.result.now in
    let is_tail : tail ≡ tail_of c.args.frame.now = c.tail.ensures ∙ frame_tail c.args.frame.now in
    let mid = mid_settled g.D.Disk c.args.disk.now c.write_picked.new.disk c.args.is_second bodies c.args.frame.now rest tail c.args.gate place is_tail c.in_ok-write_picked.ensures.settled is in
    then g.D.Disk c.args.disk.now c.write_picked.new.disk c.write_picked-2.new.disk (InVersion Two (OpensToOneOf bodies c.args.frame.now))
    (weaken g.D.Disk c.args.disk.now c.write_picked.new.disk _ (InVersion Two (OpensToOneOf bodies c.args.frame.now))
    (λ image torn. torn_tail bodies c.args.frame.now rest c.args.gate _ image place within torn)
    (c.write_picked.ensures.any_moment (front_of Two bodies ++ 0 ∷ rest) is))
    (weaken g.D.Disk c.write_picked.new.disk c.write_picked-2.new.disk (λ (image : Image). Torn c.args.gate 1 (front_of Two bodies ++ 0 ∷ (tail_of c.args.frame.now ++ drop (length tail) rest)) (picked_leaf image)) (InVersion Two (OpensToOneOf bodies c.args.frame.now))
    (λ image torn. torn_open bodies c.args.frame.now rest c.args.gate (drop (length tail) rest) image place within torn)
    (c.write_picked-2.ensures.any_moment (front_of Two bodies ++ 0 ∷ (tail_of c.args.frame.now ++ drop (length tail) rest)) mid))

pub returns-clause-any_moment : goal.returns-clause-any_moment
returns-clause-any_moment g c bodies rest place within is =
    let tail = c.tail.result.now in
    let is_tail : tail ≡ tail_of c.args.frame.now = c.tail.ensures ∙ frame_tail c.args.frame.now in
    let mid = mid_settled g.D.Disk c.args.disk.now c.write_picked.new.disk c.args.is_second bodies c.args.frame.now rest tail c.args.gate place is_tail c.in_ok-write_picked.ensures.settled is in
    then g.D.Disk c.args.disk.now c.write_picked.new.disk c.write_picked-2.new.disk (InVersion Two (OpensToOneOf bodies c.args.frame.now))
    (weaken g.D.Disk c.args.disk.now c.write_picked.new.disk _ (InVersion Two (OpensToOneOf bodies c.args.frame.now))
    (λ image torn. torn_tail bodies c.args.frame.now rest c.args.gate _ image place within torn)
    (c.write_picked.ensures.any_moment (front_of Two bodies ++ 0 ∷ rest) is))
    (weaken g.D.Disk c.write_picked.new.disk c.write_picked-2.new.disk (λ (image : Image). Torn c.args.gate 1 (front_of Two bodies ++ 0 ∷ (tail_of c.args.frame.now ++ drop (length tail) rest)) (picked_leaf image)) (InVersion Two (OpensToOneOf bodies c.args.frame.now))
    (λ image torn. torn_open bodies c.args.frame.now rest c.args.gate (drop (length tail) rest) image place within torn)
    (c.write_picked-2.ensures.any_moment (front_of Two bodies ++ 0 ∷ (tail_of c.args.frame.now ++ drop (length tail) rest)) mid))

pub returns-clause-settled : goal.returns-clause-settled
returns-clause-settled g c bodies rest place is =
    let tail = c.tail.result.now in
    let is_tail : tail ≡ tail_of c.args.frame.now = c.tail.ensures ∙ frame_tail c.args.frame.now in
    let mid = mid_settled g.D.Disk c.args.disk.now c.write_picked.new.disk c.args.is_second bodies c.args.frame.now rest tail c.args.gate place is_tail c.in_ok-write_picked.ensures.settled is in
    let behind = tail_of c.args.frame.now ++ drop (length tail) rest in
    let written = c.in_ok-write_picked-2.ensures.settled (front_of Two bodies) (0 ∷ behind) place mid in
    let P : List ℕ → Type 0 = IsSettled g.D.Disk c.write_picked-2.new.disk c.args.is_second in (
      drop (length tail) rest,
      subst P (after_gate bodies c.args.frame.now rest (drop (length tail) rest)) written,
    )

pub returns-in_err-write_picked-2-clause-calls : goal.returns-in_err-write_picked-2-clause-calls
returns-in_err-write_picked-2-clause-calls g c =
    let failed = err_from_is_err_and c.from_residual-in_err-write_picked-2.result c.from_residual-in_err-write_picked-2.ensures.1 in
    rw failed.1 (record_made g.D.Disk (leaf_of c.args.is_second) c.args.gate c.args.frame.now c.tail.result.now c.args.disk.now c.write_picked.new.disk c.write_picked-2.new.disk false
    c.tail.ensures c.in_ok-write_picked.ensures.calls c.in_err-write_picked-2.ensures.calls)

pub returns-clause-calls : goal.returns-clause-calls
returns-clause-calls g c =
    record_made g.D.Disk (leaf_of c.args.is_second) c.args.gate c.args.frame.now c.tail.result.now c.args.disk.now c.write_picked.new.disk c.write_picked-2.new.disk true
    c.tail.ensures c.in_ok-write_picked.ensures.calls c.in_ok-write_picked-2.ensures.calls
