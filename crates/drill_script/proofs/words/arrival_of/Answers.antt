use Rattle.std.proofs.Common.{◌≡◌, ℕ, ◌^◌, ◌<◌, List, Option, Some, None, sym, ◌∙◌}
use Rattle.std.specs.Fmt.{decimal}
use Rattle.std.proofs.lemmas.Fmt.{decimal_injective}
use Rattle.drill_script.specs.Lacking.{spaced}
use Rattle.drill_script.specs.LineText.{end_text}
use Rattle.drill_script.specs.LineParts.{arrival_text}
use Rattle.drill_script.specs.declared.line.EndName.{EndName}
use Rattle.drill_script.proofs.WordLemmas.{number_is_alone}
use Rattle.drill_script.proofs.words.arrival_of.Goals as goal

-- the endpoint and the rest of these words
abbrev IsCut : List ℕ → EndName → List ℕ → Type 0
IsCut words found behind =
    (end : EndName) (rest : List ℕ) → words ≡ spaced (end_text end) rest → (found ≡ end) × (behind ≡ rest)

-- where the rest is a number, no endpoint is named
number_only : (words behind : List ℕ) (found : EndName) (n : ℕ) → IsCut words found behind → behind ≡ decimal n → n < 2 ^ 64
    → (end : EndName) (from : Option EndName) (number : ℕ) → number < 2 ^ 64 → words ≡ arrival_text end from number
    → ◌≡◌ {A = Option (EndName × Option EndName × ℕ)} (Some (found, None, n)) (Some (end, from, number))
number_only words behind found n cuts is small end None number low said =
    let cut = cuts end (decimal number) said in
    let numbers : n ≡ number = decimal_injective n number small low (sym is ∙ cut.1) in
    λ i. Some (cut.0 i, None, numbers i)
number_only words behind found n cuts is small end (Some from) number low said =
    let cut = cuts end (spaced (end_text from) (decimal number)) said in
    absurd (number_is_alone n from (decimal number) small (sym is ∙ cut.1))

pub returns-in-Some-clause-only : goal.returns-in-Some-clause-only
returns-in-Some-clause-only c =
    number_only c.args.words.now c.in_ok-end.rest.now c.in_ok-end.end c.in-Some.number c.in_ok-end.ensures.only c.in-Some.ensures.found c.in-Some.ensures.range
