-- Where the blanks at the end of bytes begin.
use Rattle.std.proofs.Common.{◌≡◌, ℕ, zero, suc, ◌+◌, ◌-◌, ◌<◌, ◌≤◌, inl, inr, List, [], Bool, true, false, length, take, drop, get_or, arith, refl, sym, ◌∙◌}
use Rattle.std.specs.Prelude.{IsTrue, slice_index}
use Rattle.std.specs.List.{AllWithin}
use Rattle.std.proofs.lemmas.Bool.{cases_Bool, cases_lt, false≢true}
use Rattle.std.proofs.lemmas.List.{get_or_default}
use Rattle.byte_forms.specs.Classes.{is_blank}
use Rattle.byte_forms.specs.Trimmed.{end_of}

-- the end

pub end_more : (bytes : List ℕ) (n : ℕ) → is_blank (slice_index bytes n) ≡ true → end_of bytes (suc n) ≡ end_of bytes n
unfolding end_of
end_more bytes n blank = rw blank refl

pub end_stays : (bytes : List ℕ) (n : ℕ) → is_blank (slice_index bytes n) ≡ false → end_of bytes (suc n) ≡ suc n
unfolding end_of
end_stays bytes n blank = rw blank refl

pub end_none : (bytes : List ℕ) → end_of bytes 0 ≡ 0
unfolding end_of
end_none bytes = refl

pub end_within : (bytes : List ℕ) (n : ℕ) → end_of bytes n ≤ n
end_within bytes zero = omega (arith, end_none bytes)
end_within bytes (suc n) =
    elim (cases_Bool (is_blank (slice_index bytes n))) [
      | inl blank ↦ omega (arith, end_more bytes n blank, end_within bytes n)
      | inr other ↦ omega (arith, end_stays bytes n other)
    ]

pub end_blank : (bytes : List ℕ) (n k : ℕ) → end_of bytes n ≤ k → k < n → is_blank (slice_index bytes k) ≡ true
end_blank bytes zero k above below = absurd (omega arith)
end_blank bytes (suc n) k above below =
    elim (cases_Bool (is_blank (slice_index bytes n))) [
      | inl blank ↦ elim (cases_lt k n) [
        | inl less ↦ end_blank bytes n k (omega (arith, end_more bytes n blank)) less
        | inr last ↦ let here : n ≡ k = omega arith in rw (← here) blank
      ]
      | inr other ↦ absurd (omega (arith, end_stays bytes n other))
    ]

pub end_stops : (bytes : List ℕ) (n : ℕ) → 0 < end_of bytes n → is_blank (slice_index bytes (end_of bytes n - 1)) ≡ false
end_stops bytes zero some = absurd (omega (arith, end_none bytes))
end_stops bytes (suc n) some =
    elim (cases_Bool (is_blank (slice_index bytes n))) [
      | inl blank ↦ let more = end_more bytes n blank in rw more (end_stops bytes n (omega arith))
      | inr other ↦ let here : end_of bytes (suc n) - 1 ≡ n = omega (arith, end_stays bytes n other) in rw here other
    ]

pub end_is : (bytes : List ℕ) (e n : ℕ) → e ≤ n → ((k : ℕ) → e ≤ k → k < n → is_blank (slice_index bytes k) ≡ true) → (0 < e → is_blank (slice_index bytes (e - 1)) ≡ false) → end_of bytes n ≡ e
end_is bytes e n le blank last =
    let within : end_of bytes n ≤ n = end_within bytes n in
    elim (cases_lt (end_of bytes n) e) as (λ _. end_of bytes n ≡ e) [
      | inl less ↦ absurd (false≢true (sym (last (omega arith)) ∙ end_blank bytes n (e - 1) (omega arith) (omega arith)))
      | inr rest ↦ elim (cases_lt e (end_of bytes n)) as (λ _. end_of bytes n ≡ e) [
        | inl more ↦ absurd (false≢true (sym (end_stops bytes n (omega arith)) ∙ blank (end_of bytes n - 1) (omega arith) (omega arith)))
        | inr same ↦ omega arith
      ]
    ]

-- one step of the loop that looks for the end
pub end_step : (bytes : List ℕ) (n : ℕ) → 0 < n → is_blank (slice_index bytes (n - 1)) ≡ true → end_of bytes (n - 1) ≡ end_of bytes n
end_step bytes zero some blank = absurd (omega arith)
end_step bytes (suc n) some blank =
    let here : suc n - 1 ≡ n = omega arith in
    let is : is_blank (slice_index bytes n) ≡ true = rw here at blank in
    rw here (sym (end_more bytes n is))

pub end_here : (bytes : List ℕ) (n : ℕ) → 0 < n → is_blank (slice_index bytes (n - 1)) ≡ false → end_of bytes n ≡ n
end_here bytes zero some blank = absurd (omega arith)
end_here bytes (suc n) some blank =
    let here : suc n - 1 ≡ n = omega arith in
    let is : is_blank (slice_index bytes n) ≡ false = rw here at blank in
    end_stays bytes n is

pub part_between : (bytes : List ℕ) (start end : ℕ) → end ≤ start → [] ≡ take (end - start) (drop start bytes)
part_between bytes start end none = let nothing : end - start ≡ 0 = omega arith in rw nothing refl

-- from the end on there are blanks alone
pub end_blanks : (bytes : List ℕ) → AllWithin (λ b. IsTrue (is_blank b)) bytes (end_of bytes (length bytes)) (length bytes)
end_blanks bytes k d low high = rw (get_or_default bytes k d 0 high) (end_blank bytes (length bytes) k low high)
