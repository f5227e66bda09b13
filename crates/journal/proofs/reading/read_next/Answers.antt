use Rattle.std.proofs.Common.{◌≡◌, ℕ, ◌+◌, ◌≤◌, List, ◌∷◌, refl, length, length-take, replicate, take, drop, get_or, sym, ◌∙◌, ap, subst, arith}
use Rattle.std.proofs.lemmas.Option.{IfSome_then}
use Rattle.std.proofs.lemmas.Grind.{common_steps}
use Rattle.std.proofs.lemmas.List.{drop-drop, take-take}
use Rattle.journal.specs.Leaf.{width_of}
use Rattle.journal.specs.Reading.{IsBodyAt, HasNoBody}
use Rattle.journal.proofs.ReadingLemmas.{at_gate, read_ahead}
use Rattle.journal.proofs.reading.read_next.Goals as goal

pub returns-then-byte-ne1-clause-next : goal.returns-then-byte-ne1-clause-next
returns-then-byte-ne1-clause-next g c b told ahead =
    let read = at_gate c.args.version c.args.gate c.in_ok-size.size c.min.result (b c.args.part) _ c.read_head.new.head (c.in_ok-size.ensures.value b told) (omega (arith, c.if-size-gate.false)) (omega (arith, c.min.ensures, c.width-most.ensures)) refl (c.in_ok-read_head.ensures.head b (c.len.ensures.seen ∙ told) c.args.version (omega (arith, c.min.ensures, c.width-most.ensures, length-take {A = ℕ} c.min.result (replicate 9 0))) ahead) in
    (c.if-byte-ne1.true, drop (c.args.gate + 1) (b c.args.part), read.0)

pub returns-in_default-clause-next : goal.returns-in_default-clause-next
returns-in_default-clause-next g c b told ahead byte rest is =
    let read = at_gate c.args.version c.args.gate c.in_ok-size.size c.min.result (b c.args.part) _ c.read_head.new.head (c.in_ok-size.ensures.value b told) (omega (arith, c.if-size-gate.false)) (omega (arith, c.min.ensures, c.width-most.ensures)) refl (c.in_ok-read_head.ensures.head b (c.len.ensures.seen ∙ told) c.args.version (omega (arith, c.min.ensures, c.width-most.ensures, length-take {A = ℕ} c.min.result (replicate 9 0))) ahead) in
    let none : HasNoBody c.args.version c.args.gate (drop (c.args.gate + 1) (b c.args.part)) = c.in_default.ensures.none (drop (c.args.gate + 1) (b c.args.part)) read.1 in
    let same = sym is ∙ read.0 in
    let P : List ℕ → Type 0 = HasNoBody c.args.version c.args.gate in
    let is_open : get_or c.read_head.new.head 0 0 ≡ 1 = grind (arith, common_steps) in
    (ap (λ (l : List ℕ). get_or l 0 0) same ∙ is_open, subst P (sym (ap (λ (l : List ℕ). drop 1 l) same)) none)

pub returns-clause-next : goal.returns-clause-next
returns-clause-next g c b told ahead =
    let leaf = b c.args.part in
    let len = c.in-Some.len in
    let read = at_gate c.args.version c.args.gate c.in_ok-size.size c.min.result (b c.args.part) _ c.read_head.new.head (c.in_ok-size.ensures.value b told) (omega (arith, c.if-size-gate.false)) (omega (arith, c.min.ensures, c.width-most.ensures)) refl (c.in_ok-read_head.ensures.head b (c.len.ensures.seen ∙ told) c.args.version (omega (arith, c.min.ensures, c.width-most.ensures, length-take {A = ℕ} c.min.result (replicate 9 0))) ahead) in
    let is_open : get_or c.read_head.new.head 0 0 ≡ 1 = grind (arith, common_steps) in
    let P : List ℕ → Type 0 = IsBodyAt c.args.version c.args.gate (drop (c.args.gate + 1) leaf) in
    let at = c.args.gate + (1 + c.width-most.result) in
    let bytes = c.in_ok-bytes.bytes.items in
    let are : bytes ≡ take c.min-2.result (drop at leaf) = c.in_ok-bytes.ensures.bytes b (c.read_head.ensures.quiet.same ∙ c.len.ensures.seen ∙ told) in
    let below : len ≤ c.min-2.result = omega (arith, c.min-2.ensures, c.in-Some.ensures.there, c.width-most.ensures) in
    let place : drop at leaf ≡ drop (width_of c.args.version) (drop (c.args.gate + 1) leaf) =
    ap (λ (n : ℕ). drop n leaf) (omega (arith, c.width-most.ensures)) ∙ sym (drop-drop (width_of c.args.version) (c.args.gate + 1) leaf) in
    let body : c.split_body-body.result.0 ≡ take len (drop (width_of c.args.version) (drop (c.args.gate + 1) leaf)) =
    c.split_body-body.ensures.body ∙ ap (λ (l : List ℕ). take len l) are ∙ take-take len c.min-2.result (drop at leaf) below ∙ ap (λ (l : List ℕ). take len l) place in
    let body_len : length c.split_body-body.result.0 ≡ len = omega (arith, below, ap length c.split_body-body.ensures.body, length-take len bytes, c.in_ok-bytes.ensures.len) in (
      (drop (c.args.gate + 1) leaf, read.0 ∙ ap (λ (n : ℕ). n ∷ drop (c.args.gate + 1) leaf) is_open, subst P (sym body) (c.in-Some.ensures.body (drop (c.args.gate + 1) leaf) read.1)),
      IfSome_then c.split_body-body.result.1 c.split_body-body.ensures.ahead
          (λ head found.
          ap (λ (n : ℕ). take (1 + width_of c.args.version) (drop n leaf)) (omega (arith, body_len, c.width-most.ensures))
          ∙ read_ahead c.args.version at len c.min-2.result leaf bytes head are (omega (arith, c.min-2.ensures, c.width-most.ensures)) found.0 found.1),
    )
