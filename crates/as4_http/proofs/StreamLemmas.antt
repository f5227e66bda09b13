-- Lemmas on a stream: what an intake holds, and then what a source has left, where that is told.
use Rattle.std.proofs.Common.{◌≡◌, ℕ, ◌≤◌, List, [], ◌++◌, length, take, drop, Option, None, Some, refl, sym, ◌∙◌, ap, subst, append_assoc}
use Rattle.std.proofs.lemmas.List.{take_at, take-append-le, take-append-drop, append-nil}
use Rattle.as4_flow.specs.Flow.{Told, before}
use Rattle.as4_flow.proofs.FlowLemmas.{before_append}
use Rattle.as4_http.specs.Refused.{Dooms}

-- of two fronts of the same bytes the shorter begins the longer
pub front_is : (held text more rest : List ℕ) → held ++ more ≡ text ++ rest → length text ≤ length held → held ≡ text ++ drop (length text) held
front_is held text more rest same short =
    let front : take (length text) held ≡ text =
    sym (take-append-le (length text) held more short) ∙ ap (λ (l : List ℕ). take (length text) l) same ∙ take_at text rest (length text) refl in
    sym (take-append-drop (length text) held) ∙ ap (λ (l : List ℕ). l ++ drop (length text) held) front

-- what holds however the held bytes go on holds of the stream
pub told_on : (P : List ℕ → Type 0) (start left : Option (List ℕ)) (held : List ℕ) → start ≡ before held left → ((more : List ℕ) → P (held ++ more)) → Told start P
told_on P start None held is on stream told = let clash : None ≡ Some stream = sym is ∙ told in cc
told_on P start (Some more) held is on stream told =
    let same : held ++ more ≡ stream = cc (sym is ∙ told) in
    subst P same (on more)

-- and where nothing is left, what holds of the held bytes
pub told_end : (P : List ℕ → Type 0) (start left : Option (List ℕ)) (held : List ℕ) → start ≡ before held left → Told left (λ bytes. bytes ≡ []) → P held → Told start P
told_end P start None held is none end stream told = let clash : None ≡ Some stream = sym is ∙ told in cc
told_end P start (Some more) held is none end stream told =
    let same : held ++ more ≡ stream = cc (sym is ∙ told) in
    let ended : held ++ more ≡ held = ap (λ (l : List ℕ). held ++ l) (none more refl) ∙ append-nil held in
    subst P (sym ended ∙ same) end

-- what holds of the rest of a stream, and says something of the whole
pub told_behind : (P Q : List ℕ → Type 0) (start now : Option (List ℕ)) (front : List ℕ) → start ≡ before front now → ((rest : List ℕ) → P rest → Q (front ++ rest)) → Told now P → Told start Q
told_behind P Q start None front is on none stream told = let clash : None ≡ Some stream = sym is ∙ told in cc
told_behind P Q start (Some rest) front is on fact stream told =
    let same : front ++ rest ≡ stream = cc (sym is ∙ told) in
    subst Q same (on rest (fact rest refl))

-- what dooms the rest of a stream, and says something of the whole
pub dooms_behind : (P Q : List ℕ → Type 0) (told now left : Option (List ℕ)) (front : List ℕ) → told ≡ before front now → ((rest : List ℕ) → P rest → Q (front ++ rest)) → Dooms P now left → Dooms Q told left
dooms_behind P Q told now left front is on dooms = record {
  read = front ++ dooms.read;
  taken = is ∙ ap (λ (t : Option (List ℕ)). before front t) dooms.taken ∙ before_append front dooms.read left;
  doomed = λ more. subst Q (sym (append_assoc front dooms.read more)) (on (dooms.read ++ more) (dooms.doomed more));
}

-- what is doomed doesn't hold of the stream
pub dooms_told : (P : List ℕ → Type 0) (told left : Option (List ℕ)) → Dooms P told left → Told told P
dooms_told P told left dooms = told_on P told left dooms.read dooms.taken dooms.doomed
