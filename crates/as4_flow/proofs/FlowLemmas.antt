-- Lemmas on observable bytes, in the shape in which loops over a source or a sink have them, and on counts of faults.
use Rattle.std.proofs.Common.{◌≡◌, ℕ, ◌+◌, ◌-◌, ◌≤◌, List, [], ◌++◌, length, take, drop, Option, None, Some, refl, sym, ◌∙◌, ap, arith, append_assoc, length-append}
use Rattle.std.proofs.lemmas.List.{append-nil, take_rest, take-append-le}
use Rattle.std.proofs.Math.Seq.{take-add, take-append-add}
use Rattle.as4_flow.specs.Flow.{Told, before, appended, TakesFront, Rose}

-- an empty prefix changes nothing
pub before_nil : (told : Option (List ℕ)) → before [] told ≡ told
before_nil None = refl
before_nil (Some rest) = refl

-- a prefix, and another after it, are one prefix
pub before_append : (front next : List ℕ) (told : Option (List ℕ)) → before front (before next told) ≡ before (front ++ next) told
before_append front next None = refl
before_append front next (Some rest) = ap Some (sym (append_assoc front next rest))

-- nothing more changes nothing
pub appended_nil : (told : Option (List ℕ)) → appended told [] ≡ told
appended_nil None = refl
appended_nil (Some taken) = ap Some (append-nil taken)

-- more, and then more, is all of it
pub appended_append : (told : Option (List ℕ)) (more next : List ℕ) → appended (appended told more) next ≡ appended told (more ++ next)
appended_append None more next = refl
appended_append (Some taken) more next = ap Some (append_assoc taken more next)

-- a source's loop: the bytes so far are a prefix of what was left, and one more piece follows them
pub before_more : (start left now : Option (List ℕ)) (bytes piece : List ℕ) → start ≡ before bytes left → left ≡ before piece now → start ≡ before (bytes ++ piece) now
before_more start left now bytes piece so_far more = so_far ∙ ap (λ told. before bytes told) more ∙ before_append bytes piece now

-- where nothing is left, the bytes that came are all that was left
pub read_whole : (start end : Option (List ℕ)) (bytes : List ℕ) → start ≡ before bytes end → Told end (λ rest. rest ≡ []) → Told start (λ all. all ≡ bytes)
read_whole start None bytes came none all told = cc
read_whole start (Some rest) bytes came none all told =
    let whole : bytes ++ rest ≡ bytes = ap (λ (l : List ℕ). bytes ++ l) (none rest refl) ∙ append-nil bytes in
    let same : all ≡ bytes ++ rest = cc in
    same ∙ whole

-- a sink's loop: what was taken is a prefix of the bytes, and a prefix of the others follows it
pub appended_more : (start taken now : Option (List ℕ)) (bytes : List ℕ) (done n : ℕ) → taken ≡ appended start (take done bytes) → now ≡ appended taken (take n (take (length bytes - done) (drop done bytes))) → now ≡ appended start (take (done + n) bytes)
appended_more start taken now bytes done n so_far more =
    more
    ∙ ap (λ (others : List ℕ). appended taken (take n others)) (take_rest bytes done)
    ∙ ap (λ (told : Option (List ℕ)). appended told (take n (drop done bytes))) so_far
    ∙ appended_append start (take done bytes) (take n (drop done bytes))
    ∙ ap (λ (more : List ℕ). appended start more) (sym (take-add done n bytes))

-- a prefix of some bytes is a prefix of those and more
pub takes_longer : (bytes more : List ℕ) (start now : Option (List ℕ)) → TakesFront bytes start now → TakesFront (bytes ++ more) start now
takes_longer bytes more start now front =
    (front.0, omega (arith, length-append bytes more, front.1), front.2 ∙ ap (λ (l : List ℕ). appended start l) (sym (take-append-le front.0 bytes more front.1)))

-- all of some bytes, and then a prefix of more
pub takes_more : (bytes more : List ℕ) (start taken now : Option (List ℕ)) → taken ≡ appended start bytes → TakesFront more taken now → TakesFront (bytes ++ more) start now
takes_more bytes more start taken now all front = (
  length bytes + front.0,
  omega (arith, length-append bytes more, front.1),
  front.2
      ∙ ap (λ (told : Option (List ℕ)). appended told (take front.0 more)) all
      ∙ appended_append start bytes (take front.0 more)
      ∙ ap (λ (l : List ℕ). appended start l) (sym (take-append-add bytes more front.0)),
)

-- a count that rose has risen from each lower count
pub Rose_from : (lower count later : ℕ) → lower ≤ count → Rose count later → Rose lower later
Rose_from lower count later below rose = omega arith
