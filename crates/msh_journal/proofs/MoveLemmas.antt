-- Places that get their gates one after another.
use Rattle.std.proofs.Common.{◌≡◌, ℕ, zero, suc, ◌+◌, ◌<◌, List, [], ◌∷◌, Some, length, take, get_or, refl, sym, ap, ◌∙◌, arith}
use Rattle.std.specs.Prelude.{set, slice_get}
use Rattle.std.proofs.lemmas.List.{length-take, take_more}
use Rattle.inbox.specs.Spots.{Spot}
use Rattle.payload_gates.specs.Gates.{moved}
use Rattle.payload_gates.proofs.GateLemmas.{moved_length, moved_more}

got_there : {X : Type 0} (xs : List X) (i : ℕ) → i < length xs → (x : X) × (slice_get xs i ≡ Some x)
got_there [] i within = absurd (omega (arith, within))
got_there (x ∷ xs) zero within = (x, refl)
got_there (x ∷ xs) (suc i) within = got_there xs i (omega (arith, within))

-- the next place gets the next gate
pub place_moved : (confirmed index n : ℕ) (gates : List ℕ) (old now new : List Spot) → n ≡ confirmed + index → index < length gates → now ≡ moved confirmed (take index gates) old → n < length old
    → ((p : Spot) → slice_get now n ≡ Some p → new ≡ set now n (record p { gate = get_or gates index 0 })) → new ≡ moved confirmed (take (index + 1) gates) old
place_moved confirmed index n gates old now new at within now_is there moves =
    let gate = get_or gates index 0 in
    let long : length now ≡ length old = ap length now_is ∙ moved_length confirmed (take index gates) old in
    let got = got_there now n (omega (arith, there, long)) in
    let before : n ≡ confirmed + length (take index gates) = omega (arith, at, within, length-take index gates) in
    let was : slice_get (moved confirmed (take index gates) old) n ≡ Some got.0 = ap (λ (l : List Spot). slice_get l n) (sym now_is) ∙ got.1 in
    moves got.0 got.1
    ∙ ap (λ (l : List Spot). set l n (record got.0 { gate = gate })) now_is
    ∙ moved_more confirmed (take index gates) gate n old got.0 before was
    ∙ ap (λ (l : List ℕ). moved confirmed l old) (sym (take_more gates index 0 within))
