use Rattle.std.proofs.Common.{◌≡◌, ◌∷◌, ◌++◌, [], ◌+◌, ◌-◌, ◌∙◌, ℕ, List, length, map, take, drop, get_or, sym, ap, subst, arith, length-drop}
use Rattle.std.proofs.lemmas.List.{take_all}
use Rattle.std.proofs.lemmas.Grind.{common_steps}
use Rattle.journal.specs.Leaf.{width_of, IsBroken}
use Rattle.journal.specs.Reading.{IsBodyAt, HasNoBody}
use Rattle.journal.proofs.LoopLemmas.{IsReadTo, at_byte, read_more, read_all, read_broken, read_none}
use Rattle.journal.proofs.leaf.lend_records.Goals as goal

-- the bytes behind a gate, as a slice
behind_is : (gate : ℕ) (leaf : List ℕ) → take (length leaf - (gate + 1)) (drop (gate + 1) leaf) ≡ drop (gate + 1) leaf
behind_is gate leaf = take_all _ _ (omega (arith, length-drop (gate + 1) leaf))

pub records-init : goal.records-init
records-init c =
    let P : List (List ℕ) → Type 0 = λ l. IsReadTo c.in-Some.version l 8 c.args.leaf.now in
    subst P (sym (ap (map (λ body. body.now)) c.new-bodies.ensures.items)) (read_none c.in-Some.version c.args.leaf.now c.in-Some.ensures.some (omega arith))

pub records-preserved : goal.records-preserved
records-preserved c =
    let leaf = c.args.leaf.now in
    let gate = c.records.gate in
    let version = c.in-Some.version in
    let body = c.in-Some-body_in.body.now in
    let lent = map (λ body. body.now) c.records.bodies.items in
    let is_open : drop gate leaf ≡ 1 ∷ drop (gate + 1) leaf = at_byte gate leaf c.records.invariant.inside ∙ ap (λ (n : ℕ). n ∷ drop (gate + 1) leaf) c.records-test.true in
    let Q : List ℕ → Type 0 = λ l. IsBodyAt version gate l body in
    let more = read_more version lent gate leaf c.records.invariant body is_open (subst Q (behind_is gate leaf) c.in-Some-body_in.ensures.some) in
    let pushed : map (λ body. body.now) c.push.new.self.items ≡ lent ++ body ∷ [] = grind (arith, common_steps) in
    let place : gate + 1 + width_of version + length body ≡ gate + (1 + c.width.result + length body) = omega (arith, c.width.ensures) in
    let P : List (List ℕ) → Type 0 = λ l. IsReadTo version l (gate + (1 + c.width.result + length body)) leaf in
    let R : ℕ → Type 0 = λ n. IsReadTo version (lent ++ body ∷ []) n leaf in
    subst P (sym pushed) (subst R place more)

pub returns-in_default-body_in-clause-not_journal : goal.returns-in_default-body_in-clause-not_journal
returns-in_default-body_in-clause-not_journal c at is =
    let leaf = c.args.leaf.now in
    let gate = c.records.gate in
    let version = c.in-Some.version in
    let same : gate ≡ at = cc in
    let is_open : drop gate leaf ≡ 1 ∷ drop (gate + 1) leaf = at_byte gate leaf c.records.invariant.inside ∙ ap (λ (n : ℕ). n ∷ drop (gate + 1) leaf) c.records-test.true in
    let Q : List ℕ → Type 0 = λ l. HasNoBody version gate l in
    let none : HasNoBody version gate (take (length leaf - (gate + 1)) (drop (gate + 1) leaf)) = grind (arith, common_steps) in
    let P : ℕ → Type 0 = λ n. IsBroken n leaf in
    subst P same (read_broken version (map (λ body. body.now) c.records.bodies.items) gate leaf c.records.invariant is_open (subst Q (behind_is gate leaf) none))

pub returns-clause-records : goal.returns-clause-records
returns-clause-records c =
    let leaf = c.args.leaf.now in
    let gate = c.records.gate in
    read_all c.in-Some.version (map (λ body. body.now) c.records.bodies.items) gate leaf c.records.invariant (get_or leaf gate 0) (drop (gate + 1) leaf) c.records-test.false (at_byte gate leaf c.records.invariant.inside)
