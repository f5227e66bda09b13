-- Lemmas on pieces that came behind what was held.
use Rattle.std.proofs.Common.{◌≡◌, ℕ, ◌-◌, List, [], ◌++◌, length, take, drop, min, Option, ◌⊎◌, inl, inr, sym, ◌∙◌, ap, subst, arith, append_assoc, length-append, length-drop}
use Rattle.std.proofs.lemmas.Bool.{cases_lt}
use Rattle.std.proofs.lemmas.List.{length-take-le, take-append-drop, nil_from_length}
use Rattle.as4_flow.specs.Flow.{before}
use Rattle.as4_flow.proofs.FlowLemmas.{before_nil, before_append}
use Rattle.as4_http.specs.Came.{Came}

-- two fronts, one of which is empty, change places
swap_fronts : (front next : List ℕ) (told : Option (List ℕ)) → (front ≡ []) ⊎ (next ≡ []) → before front (before next told) ≡ before next (before front told)
swap_fronts front next told (inl none) =
    subst (λ (l : List ℕ). before l (before next told) ≡ before next (before l told)) (sym none) (before_nil (before next told) ∙ ap (λ (t : Option (List ℕ)). before next t) (sym (before_nil told)))
swap_fronts front next told (inr none) =
    subst (λ (l : List ℕ). before front (before l told) ≡ before l (before front told)) (sym none) (ap (λ (t : Option (List ℕ)). before front t) (before_nil told) ∙ sym (before_nil (before front told)))

-- what was at hand, and then what came from the source
pub came_behind : (n at_hand : ℕ) (old mid new held bytes : List ℕ) (left rest : Option (List ℕ)) → at_hand ≡ min (length held) n → bytes ≡ held → mid ≡ old ++ take at_hand bytes → Came (n - at_hand) mid new left rest → Came n old new (before held left) (before (drop at_hand held) rest)
came_behind n at_hand old mid new held bytes left rest least same first came =
    let front = take at_hand held in
    let behind = drop at_hand held in
    let count : length front ≡ at_hand = length-take-le at_hand held (omega arith) in
    let one_is_empty : (behind ≡ []) ⊎ (came.piece ≡ []) = elim (cases_lt n (length held)) [
      | inl more ↦ inr (nil_from_length came.piece (omega (arith, came.count)))
      | inr less ↦ inl (nil_from_length behind (omega (arith, length-drop at_hand held)))
    ] in record {
      piece = front ++ came.piece;
      count = omega (arith, length-append front came.piece, count, came.count);
      held = came.held ∙ ap (λ (l : List ℕ). l ++ came.piece) (first ∙ ap (λ (l : List ℕ). old ++ take at_hand l) same) ∙ append_assoc old front came.piece;
      taken =
          ap (λ (l : List ℕ). before l left) (sym (take-append-drop at_hand held))
          ∙ sym (before_append front behind left)
          ∙ ap (λ (t : Option (List ℕ)). before front (before behind t)) came.taken
          ∙ ap (λ (t : Option (List ℕ)). before front t) (swap_fronts behind came.piece rest one_is_empty)
          ∙ before_append front came.piece (before behind rest);
    }
