use Rattle.std.proofs.Common.{◌≡◌, ℕ, ◌+◌, ◌≤◌, ◌++◌, List, Option, length, take, sym, ◌∙◌, ap, arith}
use Rattle.as4_flow.specs.Flow.{before}
use Rattle.as4_flow.proofs.FlowLemmas.{before_append}
use Rattle.drill_script.proofs.FrontLemmas.{resized_front, read_behind}
use Rattle.drill_script.proofs.pieces.read_piece.Goals as goal

pub returns-in-Gave-clause-whole : goal.returns-in-Gave-clause-whole
returns-in-Gave-clause-whole g c =
    let old = c.args.bytes.now.items in
    let piece = take c.in-Gave.n c.read-got.new.room in
    let left = g.S.Source.left c.read-got.new.self in
    let len = c.len-len.result in
    let count : len ≡ length old = omega (arith, c.args.bytes.now.ok.0, c.len-len.ensures) in
    let buffer = c.deref_mut.result.now in
    let front : take len buffer ≡ old = ap (λ (l : List ℕ). take len l) c.deref_mut.ensures.value ∙ resized_front old c.resize.new.self.items _ len (len + 65536) _ count (omega arith) c.resize.ensures.items in
    let front_count : length (take len buffer) ≡ len = ap length front ∙ sym count in
    let within : len + c.in-Gave.n ≤ c.resize.new.self.len = omega (arith, c.in-Gave.ensures.some, c.resize.new.self.ok.0, ap length c.deref_mut.ensures.value, c.read-got.auto.room) in
    let text : c.truncate.new.self.items ≡ old ++ piece =
    c.truncate.ensures.items
    ∙ read_behind (take len buffer) c.read-got.new.room _ _ len c.in-Gave.n c.resize.new.self.len front_count c.in-Gave.ensures.some.1 within
    ∙ ap (λ (l : List ℕ). l ++ piece) front in
    ap (λ (told : Option (List ℕ)). before old told) c.in-Gave.ensures.bytes ∙ before_append old piece left ∙ ap (λ (l : List ℕ). before l left) (sym text)
