-- A leaf in memory, read record by record.
use Rattle.std.proofs.Common.{◌≡◌, ◌≢◌, inr, ℕ, ◌+◌, ◌<◌, List, [], ◌∷◌, ◌++◌, length, take, drop, get_or, refl, sym, ◌∙◌, ap, arith, length-append, add-one}
use Rattle.std.proofs.lemmas.List.{drop_at}
use Rattle.std.proofs.Math.Seq.{drop-cons}
use Rattle.journal.specs.declared.version.Version.{Version}
use Rattle.journal.specs.declared.version.Version.TheVariants.{One, Two}
use Rattle.journal.specs.Leaf.{magic_of, width_of, limit_of, front_of, Lists, IsBroken}
use Rattle.journal.specs.Reading.{IsBodyAt, HasNoBody}
use Rattle.journal.proofs.LeafLemmas.{length-front_more, length-front}
use Rattle.journal.proofs.StoreLemmas.{opened}
use Rattle.journal.proofs.StartLemmas.{has_gate}

-- these records were read, and the next gate is inside the leaf and the limit
pub record IsReadTo (version : Version) (bodies : List (List ℕ)) (gate : ℕ) (leaf : List ℕ) : Type 0 where
  pub front : leaf ≡ front_of version bodies ++ drop gate leaf
  pub place : gate ≡ length (front_of version bodies)
  pub inside : gate < length leaf
  pub within : gate < limit_of version
  pub long : 9 < length leaf

-- the byte at a place inside
pub at_byte : (gate : ℕ) (leaf : List ℕ) → gate < length leaf → drop gate leaf ≡ get_or leaf gate 0 ∷ drop (gate + 1) leaf
at_byte gate leaf inside = rw (add-one, drop-cons leaf gate 0) refl

module _ (version : Version) (bodies : List (List ℕ)) (gate : ℕ) (leaf : List ℕ) (is : IsReadTo version bodies gate leaf) where
  pub read_more : (body : List ℕ) → drop gate leaf ≡ 1 ∷ drop (gate + 1) leaf → IsBodyAt version gate (drop (gate + 1) leaf) body → IsReadTo version (bodies ++ body ∷ []) (gate + 1 + width_of version + length body) leaf
  read_more body is_open whole =
      let next = whole.1 in
      let after = whole.2 in
      let more = front_of version (bodies ++ body ∷ []) in
      let bytes : leaf ≡ more ++ next ∷ after =
      is.front ∙ ap (λ (l : List ℕ). front_of version bodies ++ l) (is_open ∙ ap (λ (l : List ℕ). 1 ∷ l) whole.3) ∙ opened version bodies body after next in
      let place : gate + 1 + width_of version + length body ≡ length more = omega (arith, is.place, length-front_more version bodies body) in
      let behind : drop (gate + 1 + width_of version + length body) leaf ≡ next ∷ after =
      ap (λ (l : List ℕ). drop (gate + 1 + width_of version + length body) l) bytes ∙ drop_at more (next ∷ after) (gate + 1 + width_of version + length body) (sym place) in
      record {
        front = bytes ∙ ap (λ (l : List ℕ). more ++ l) (sym behind);
        place = place;
        inside = omega (arith, place, ap length bytes, length-append more (next ∷ after));
        within = whole.0;
        long = is.long;
      }

  pub read_all : (byte : ℕ) (rest : List ℕ) → byte ≢ 1 → drop gate leaf ≡ byte ∷ rest → Lists bodies leaf
  read_all byte rest closed is_closed =
      inr (
        version,
        byte,
        rest,
        record {
          bytes = is.front ∙ ap (λ (l : List ℕ). front_of version bodies ++ l) is_closed;
          closed = closed;
          within = omega (arith, is.within, is.place);
        },
      )

  pub read_broken : drop gate leaf ≡ 1 ∷ drop (gate + 1) leaf → HasNoBody version gate (drop (gate + 1) leaf) → IsBroken gate leaf
  read_broken is_open none = (
    is.long,
    inr (
      version,
      bodies,
      drop (gate + 1) leaf,
      is.place,
      record {
        bytes = is.front ∙ ap (λ (l : List ℕ). front_of version bodies ++ l) is_open;
        within = omega (arith, is.within, is.place);
        not_whole = λ body after next are. omega (arith, none body after next are, is.place, length-front_more version bodies body);
      },
    ),
  )

pub read_none : (version : Version) (leaf : List ℕ) → take 8 leaf ≡ magic_of version → 9 < length leaf → IsReadTo version [] 8 leaf
read_none version leaf magic long =
    let gate = has_gate version leaf magic long in
    let place : 8 ≡ length (front_of version []) = omega (arith, length-front version []) in
    record {
      front = gate.2 ∙ ap (λ (l : List ℕ). front_of version [] ++ l) (sym (ap (λ (l : List ℕ). drop 8 l) gate.2 ∙ drop_at (front_of version []) (gate.0 ∷ gate.1) 8 (sym place)));
      place = place;
      inside = omega (arith, long);
      within = small version;
      long = long;
    }
  where
    small : (v : Version) → 8 < limit_of v
    small One = omega arith
    small Two = omega arith
