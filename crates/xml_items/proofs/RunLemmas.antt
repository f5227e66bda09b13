-- Runs of bytes of a class, in terms of the grammar.
use Rattle.std.proofs.Common.{◌≡◌, ℕ, ◌<◌, Bool, true, false, List, [], ◌∷◌, ◌++◌, length, get_or, Some, None, arith}
use Rattle.std.specs.List.{take_while, AllPass}
use Rattle.std.proofs.lemmas.List.Sums.{AllPass-from_list_all, list_all-from_AllPass}
use Rattle.byte_forms.specs.Cuts.{skip, run_at}
use Rattle.byte_forms.proofs.CutLemmas as cut
use Rattle.xml_items.specs.Grammar.{IsSome, Stops}

pub pass_nil : (class : ℕ → Bool) → AllPass class []
pass_nil class k d below = absurd (omega arith)

pub pass_head : (class : ℕ → Bool) (b : ℕ) (bytes : List ℕ) → AllPass class (b ∷ bytes) → class b ≡ true
pass_head class b bytes pass = pass 0 0 (omega arith)

-- a nonempty prefix of one class isn't of another class
pub stops_some : (class other : ℕ → Bool) (front rest : List ℕ) → ((b : ℕ) → class b ≡ true → other b ≡ false) → IsSome class front → Stops other (front ++ rest)
stops_some class other [] rest apart some = absurd (omega (arith, some.some))
stops_some class other (b ∷ front) rest apart some = apart b (pass_head class b front some.pass)

pub stops_behind : (class other : ℕ → Bool) (front rest : List ℕ) → ((b : ℕ) → class b ≡ true → other b ≡ false) → AllPass class front → Stops other rest → Stops other (front ++ rest)
stops_behind class other [] rest apart pass stops = stops
stops_behind class other (b ∷ front) rest apart pass stops = apart b (pass_head class b front pass)

-- ---- a run is a prefix of the bytes

pub run_passes : (class : ℕ → Bool) (bytes : List ℕ) → AllPass class (take_while class bytes)
run_passes class bytes = AllPass-from_list_all class (take_while class bytes) (cut.run_passes class bytes)

-- a run that contains the first byte
pub some_run : (class : ℕ → Bool) (b : ℕ) (bytes : List ℕ) → class b ≡ true → IsSome class (take_while class (b ∷ bytes))
some_run class b bytes is = record {
  some = rw cut.length-run (rw is (omega arith));
  pass = run_passes class (b ∷ bytes);
}

pub run_takes : (class : ℕ → Bool) (bytes : List ℕ) (x : List ℕ × List ℕ) → run_at class bytes ≡ Some x → (bytes ≡ x.0 ++ x.1) × IsSome class x.0 × Stops class x.1
run_takes class bytes x e =
    let taken = cut.run_takes class bytes x e in
    (taken.0, record { some = taken.1.0; pass = AllPass-from_list_all class x.0 taken.1.1 }, taken.2)

-- and a prefix of the class is a run

pub take_again : (class : ℕ → Bool) (front rest : List ℕ) → AllPass class front → Stops class rest → take_while class (front ++ rest) ≡ front
take_again class front rest pass stops = cut.take_again class front rest (list_all-from_AllPass class front pass) stops

pub skip_again : (class : ℕ → Bool) (front rest : List ℕ) → AllPass class front → Stops class rest → skip class (front ++ rest) ≡ rest
skip_again class front rest pass stops = cut.skip_again class front rest (list_all-from_AllPass class front pass) stops

pub run_again : (class : ℕ → Bool) (front rest : List ℕ) → IsSome class front → Stops class rest → run_at class (front ++ rest) ≡ Some (front, rest)
run_again class front rest some stops = cut.run_again class front rest (some.some, list_all-from_AllPass class front some.pass) stops

-- there is no run
pub run_none : (class : ℕ → Bool) (bytes : List ℕ) → Stops class bytes → run_at class bytes ≡ None
run_none class bytes stops = cut.run_none class bytes stops
