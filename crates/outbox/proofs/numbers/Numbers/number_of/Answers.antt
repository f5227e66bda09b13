use Rattle.std.proofs.Common.{◌≡◌, Some, None, length, cond, nat_lt, true, false, sym, ap, ◌∙◌, arith}
use Rattle.std.specs.Option.{option_and_then}
use Rattle.std.proofs.lemmas.Bool.{cond-true, cond-false}
use Rattle.std.proofs.lemmas.Bool.Decides.{nat_tests}
use Rattle.outbox.proofs.NumberingLemmas.{number_found}
use Rattle.outbox.proofs.numbers.Numbers.number_of.Goals as goal

pub returns-in_err-place : goal.returns-in_err-place
returns-in_err-place c = λ sent long are numbered.
    let found = number_found c.args.id.now c.args.self.now.ids.keys sent c.get_index_of.result are.ids numbered c.get_index_of.ensures.index in
    c.from_residual.ensures ∙ sym (found ∙ ap (option_and_then (λ n. cond (nat_lt n (length sent)) (Some n) None)) c.in_err-place.was)

pub returns-then-place-count : goal.returns-then-place-count
returns-then-place-count c = λ sent long are numbered.
    let within : nat_lt c.in_ok-place.place (length sent) ≡ true = grind (arith, nat_tests, long, c.if-place-count.true) in
    let found = number_found c.args.id.now c.args.self.now.ids.keys sent c.get_index_of.result are.ids numbered c.get_index_of.ensures.index in
    sym (found ∙ ap (option_and_then (λ n. cond (nat_lt n (length sent)) (Some n) None)) c.in_ok-place.was ∙ cond-true _ _ _ within)

pub returns-else-place-count : goal.returns-else-place-count
returns-else-place-count c = λ sent long are numbered.
    let past : nat_lt c.in_ok-place.place (length sent) ≡ false = grind (arith, nat_tests, long, c.if-place-count.false) in
    let found = number_found c.args.id.now c.args.self.now.ids.keys sent c.get_index_of.result are.ids numbered c.get_index_of.ensures.index in
    sym (found ∙ ap (option_and_then (λ n. cond (nat_lt n (length sent)) (Some n) None)) c.in_ok-place.was ∙ cond-false _ _ _ past)
