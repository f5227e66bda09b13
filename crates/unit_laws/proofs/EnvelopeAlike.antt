-- An envelope's units are found alike in trees that are read alike.
use Rattle.std.proofs.Common.{◌≡◌, ℕ, ◌+◌, ◌≤◌, ◌⊎◌, inl, inr, List, [], ◌∷◌, Bool, true, false, ◌&&◌, ◌||◌, length, arith, refl, sym, ap, ◌∙◌}
use Rattle.std.specs.Prelude.{Option, Some, None, Result, Ok, Err, if◌then◌else◌, bytes_eq, codes}
use Rattle.std.specs.List.{filter, AllByRecursion}
use Rattle.std.proofs.Math.Bool.{and-false}
use Rattle.std.proofs.lemmas.Bool.{and_parts, cases_Bool, false≢true}
use Rattle.std.proofs.lemmas.Slice.Eq.{bytes_eq-Decides}
use Rattle.as4_envelope.specs.declared.tree.Element.{Element}
use Rattle.as4_envelope.specs.declared.tree.Element.TheViews.{out-Element}
use Rattle.header_reader.specs.Elements.{children_of, is_ebms, is_named, named}
use Rattle.header_reader.specs.Envelope.{asks_for_more, blocks_in, blocks_of, elements_among, elements_below, elements_in, is_soap_named, is_unit, meaning_of, only, or_refused, read_together, unit_elements, unit_of}
use Rattle.header_reader.specs.Names.{element_name}
use Rattle.header_reader.specs.declared.names.ElementName.TheVariants as name
use Rattle.header_reader.specs.declared.refusal.HeaderRefusal.{HeaderRefusal}
use Rattle.header_reader.specs.declared.refusal.HeaderRefusal.TheVariants.{Invalid, Unsupported}
use Rattle.unit_laws.specs.Alike.{ReadAlike, SameBlocks}
use Rattle.unit_laws.specs.Pairs.{Pairwise}
use Rattle.unit_laws.proofs.AlikeLemmas.{AreRead, below, named_ebms, named_read, opened, same_soap_named}
use Rattle.unit_laws.proofs.PairLemmas.{pairs_map, pairs_passed}
use Rattle.unit_laws.proofs.UnitAlike.{one_unit_same, signal_same}

-- the units of `eb:Messaging`, name by name

is_user : Element → Bool
is_user e = is_named name.UserMessage e

is_signal : Element → Bool
is_signal e = is_named name.SignalMessage e

abbrev signals_alone : List Element → Result (List Element) HeaderRefusal
signals_alone [] = Err Invalid
signals_alone (s ∷ []) = Ok (s ∷ [])
signals_alone (s ∷ t ∷ []) = Ok (s ∷ t ∷ [])
signals_alone (s ∷ t ∷ r ∷ signals) = Err Unsupported

abbrev users_alone : Element → List Element → Result (List Element) HeaderRefusal
users_alone u [] = Ok (u ∷ [])
users_alone u (v ∷ users) = Err Unsupported

-- the units to be read together, from the user messages and the signals
abbrev units_from : List Element → List Element → Result (List Element) HeaderRefusal
units_from [] signals = signals_alone signals
units_from (u ∷ users) [] = users_alone u users
units_from (u ∷ users) (s ∷ signals) = Err Unsupported

-- a unit is a user message or a signal, and not both
abbrev IsOne : Element → Type 0
IsOne e = ((is_user e ≡ true) × (is_signal e ≡ false)) ⊎ ((is_user e ≡ false) × (is_signal e ≡ true))

no_signal : (e : Element) → is_user e ≡ true → is_signal e ≡ false
unfolding is_user is_signal is_named element_name
no_signal e is =
    let local : (out-Element e).local ≡ element_name name.UserMessage =
    (bytes_eq-Decides (out-Element e).local (element_name name.UserMessage)).0
    (and_parts (is_ebms e) (bytes_eq (out-Element e).local (element_name name.UserMessage)) is).1 in
    rw local (and-false (is_ebms e))

one_of : (e : Element) → is_unit e ≡ true → IsOne e
unfolding is_user is_signal
one_of e is = elim (cases_Bool (is_user e)) [
  | inl user ↦ inl (user, no_signal e user)
  | inr other ↦ inr (other, rw other at is)
]

all_one : (es : List Element) → AllByRecursion IsOne (filter is_unit es)
all_one [] = tt
all_one (e ∷ es) = by_test (is_unit e) refl (all_one es)
  where
    by_test : (b : Bool) → is_unit e ≡ b → AllByRecursion IsOne (filter is_unit es) → AllByRecursion IsOne (if b then e ∷ filter is_unit es else filter is_unit es)
    by_test true is rest = (one_of e is, rest)
    by_test false is rest = rest

counted : (es : List Element) → AllByRecursion IsOne es → length (filter is_user es) + length (filter is_signal es) ≡ length es
counted [] all = refl
counted (e ∷ es) all = by_kind all.0 (counted es all.1)
  where
    by_kind : IsOne e → length (filter is_user es) + length (filter is_signal es) ≡ length es
        → length (filter is_user (e ∷ es)) + length (filter is_signal (e ∷ es)) ≡ length (e ∷ es)
    by_kind (inl is) rest = rw (is.0, is.1) (omega (arith, rest))
    by_kind (inr is) rest = rw (is.0, is.1) (omega (arith, rest))

too_many : (users signals : List Element) → 3 ≤ length users + length signals → Err Unsupported ≡ units_from users signals
too_many [] [] many = absurd (omega arith)
too_many [] (s ∷ []) many = absurd (omega arith)
too_many [] (s ∷ t ∷ []) many = absurd (omega arith)
too_many [] (s ∷ t ∷ r ∷ signals) many = refl
too_many (u ∷ []) [] many = absurd (omega arith)
too_many (u ∷ v ∷ users) [] many = refl
too_many (u ∷ users) (s ∷ signals) many = refl

among : (es : List Element) → AllByRecursion IsOne es → elements_among es ≡ units_from (filter is_user es) (filter is_signal es)
unfolding is_user is_signal
among [] all = refl
among (e ∷ []) all = by_kind all.0
  where
    by_kind : IsOne e → elements_among (e ∷ []) ≡ units_from (filter is_user (e ∷ [])) (filter is_signal (e ∷ []))
    by_kind (inl is) = rw (is.0, is.1) refl
    by_kind (inr is) = rw (is.0, is.1) refl
among (e ∷ f ∷ []) all = by_kinds all.0 all.1.0
  where
    by_kinds : IsOne e → IsOne f → elements_among (e ∷ f ∷ []) ≡ units_from (filter is_user (e ∷ f ∷ [])) (filter is_signal (e ∷ f ∷ []))
    by_kinds (inl is) (inl also) = rw (is.0, is.1, also.0, also.1) refl
    by_kinds (inl is) (inr also) = rw (is.0, is.1, also.0, also.1) refl
    by_kinds (inr is) (inl also) = rw (is.0, is.1, also.0, also.1) refl
    by_kinds (inr is) (inr also) = rw (is.0, is.1, also.0, also.1) refl
among (e ∷ f ∷ g ∷ es) all =
    let whole = counted (e ∷ f ∷ g ∷ es) all in
    too_many (filter is_user (e ∷ f ∷ g ∷ es)) (filter is_signal (e ∷ f ∷ g ∷ es)) (omega (arith, whole))

-- the units among all children
filter_twice : {X : Type 0} (p q : X → Bool) (xs : List X) → ((x : X) → p x ≡ true → q x ≡ true) → filter p (filter q xs) ≡ filter p xs
filter_twice p q [] within = refl
filter_twice p q (x ∷ xs) within = by_tests (p x) (q x) refl refl (filter_twice p q xs within)
  where
    by_tests : (b c : Bool) → p x ≡ b → q x ≡ c → filter p (filter q xs) ≡ filter p xs
        → filter p (if c then x ∷ filter q xs else filter q xs) ≡ (if b then x ∷ filter p xs else filter p xs)
    by_tests true true is also rest = rw is (ap (λ ys. x ∷ ys) rest)
    by_tests false true is also rest = rw is rest
    by_tests true false is also rest = absurd (false≢true (sym also ∙ within x is))
    by_tests false false is also rest = rest

units_by_name : (es : List Element) → elements_among (filter is_unit es) ≡ units_from (named name.UserMessage es) (named name.SignalMessage es)
unfolding is_user is_signal
units_by_name es =
    among (filter is_unit es) (all_one es)
    ∙ rw (
      filter_twice is_user is_unit es (λ e is. rw is refl),
      filter_twice is_signal is_unit es (λ e is. or_second (is_user e) (is_signal e) is),
    ) refl
  where
    or_second : (a b : Bool) → b ≡ true → (a || b) ≡ true
    or_second true b e = refl
    or_second false b e = e

-- the same refusal, or related elements

abbrev SameFound : (Element → Element → Type 0) → Result (List Element) HeaderRefusal → Result (List Element) HeaderRefusal → Type 0
SameFound related (Err refusal) (Err other) = refusal ≡ other
SameFound related (Ok es) (Ok fs) = Pairwise related es fs
SameFound related found other = ⊥

signals_same : (R : Element → Element → Type 0) (ss ts : List Element) → Pairwise R ss ts → SameFound R (signals_alone ss) (signals_alone ts)
signals_same R [] [] pairs = refl
signals_same R [] (t ∷ ts) pairs = absurd pairs
signals_same R (s ∷ ss) [] pairs = absurd pairs
signals_same R (s ∷ []) (t ∷ []) pairs = pairs
signals_same R (s ∷ []) (t ∷ u ∷ ts) pairs = absurd pairs.1
signals_same R (s ∷ r ∷ ss) (t ∷ []) pairs = absurd pairs.1
signals_same R (s ∷ r ∷ []) (t ∷ u ∷ []) pairs = pairs
signals_same R (s ∷ r ∷ []) (t ∷ u ∷ v ∷ ts) pairs = absurd pairs.1.1
signals_same R (s ∷ r ∷ q ∷ ss) (t ∷ u ∷ []) pairs = absurd pairs.1.1
signals_same R (s ∷ r ∷ q ∷ ss) (t ∷ u ∷ v ∷ ts) pairs = refl

users_same : (R : Element → Element → Type 0) (u v : Element) (us vs : List Element) → R u v → Pairwise R us vs → SameFound R (users_alone u us) (users_alone v vs)
users_same R u v [] [] one pairs = (one, tt)
users_same R u v [] (w ∷ vs) one pairs = absurd pairs
users_same R u v (w ∷ us) [] one pairs = absurd pairs
users_same R u v (w ∷ us) (x ∷ vs) one pairs = refl

units_same : (R : Element → Element → Type 0) (us vs ss ts : List Element) → Pairwise R us vs → Pairwise R ss ts
    → SameFound R (units_from us ss) (units_from vs ts)
units_same R [] [] ss ts users signals = signals_same R ss ts signals
units_same R [] (v ∷ vs) ss ts users signals = absurd users
units_same R (u ∷ us) [] ss ts users signals = absurd users
units_same R (u ∷ us) (v ∷ vs) [] [] users signals = users_same R u v us vs users.0 users.1
units_same R (u ∷ us) (v ∷ vs) [] (t ∷ ts) users signals = absurd signals
units_same R (u ∷ us) (v ∷ vs) (s ∷ ss) [] users signals = absurd signals
units_same R (u ∷ us) (v ∷ vs) (s ∷ ss) (t ∷ ts) users signals = refl

-- the units in `eb:Messaging`
among_same : (levels : ℕ) (a b : Element) → AreRead levels a b
    → SameFound (AreRead (below levels)) (elements_among (filter is_unit (children_of a))) (elements_among (filter is_unit (children_of b)))
among_same levels a b read =
    rw (units_by_name (children_of a), units_by_name (children_of b))
    (units_same (AreRead (below levels)) _ _ _ _ (named_read name.UserMessage levels a b read) (named_read name.SignalMessage levels a b read))

-- the units below the blocks of a header
below_same : (levels : ℕ) (es fs ms ns : List Element) → asks_for_more es ≡ asks_for_more fs → Pairwise (AreRead levels) ms ns
    → SameFound (AreRead (below levels)) (elements_below es (only ms)) (elements_below fs (only ns))
below_same levels es fs [] [] asks pairs = refl
below_same levels es fs [] (n ∷ ns) asks pairs = absurd pairs
below_same levels es fs (m ∷ ms) [] asks pairs = absurd pairs
below_same levels es fs (m ∷ []) (n ∷ []) asks pairs = rw asks (by_test _ _ (asks_for_more fs) (among_same levels m n pairs.0))
  where
    by_test : (u v : Result (List Element) HeaderRefusal) (b : Bool) → SameFound (AreRead (below levels)) u v
        → SameFound (AreRead (below levels)) (if b then Err Unsupported else u) (if b then Err Unsupported else v)
    by_test u v true same = refl
    by_test u v false same = same
below_same levels es fs (m ∷ []) (n ∷ o ∷ ns) asks pairs = absurd pairs.1
below_same levels es fs (m ∷ o ∷ ms) (n ∷ []) asks pairs = absurd pairs.1
below_same levels es fs (m ∷ o ∷ ms) (n ∷ q ∷ ns) asks pairs = refl

-- the blocks of the header

abbrev SameHeader : (Element → Element → Type 0) → Option (List Element) → Option (List Element) → Type 0
SameHeader related None None = Unit {0}
SameHeader related (Some es) (Some fs) = SameBlocks related es fs
SameHeader related found other = ⊥

blocks_in_same : (levels : ℕ) (es fs : List Element) → Pairwise (ReadAlike levels) es fs → SameHeader (ReadAlike (below levels)) (blocks_in es) (blocks_in fs)
blocks_in_same levels [] [] pairs = tt
blocks_in_same levels [] (f ∷ fs) pairs = absurd pairs
blocks_in_same levels (e ∷ es) [] pairs = absurd pairs
blocks_in_same levels (e ∷ []) (f ∷ []) pairs = tt
blocks_in_same levels (e ∷ []) (f ∷ g ∷ fs) pairs = absurd pairs.1
blocks_in_same levels (e ∷ d ∷ es) (f ∷ []) pairs = absurd pairs.1
blocks_in_same levels (e ∷ d ∷ []) (f ∷ g ∷ []) pairs =
    let first = opened levels e f pairs.0 in
    let second = opened levels d g pairs.1.0 in
    rw (← same_soap_named (codes "Header") e f first.name, ← same_soap_named (codes "Body") d g second.name)
    (by_tests (is_soap_named (codes "Header") e) (is_soap_named (codes "Body") d) first.header)
  where
    by_tests : (b c : Bool) → (b ≡ true → SameBlocks (ReadAlike (below levels)) (children_of e) (children_of f))
        → SameHeader (ReadAlike (below levels)) (if b && c then Some (children_of e) else None) (if b && c then Some (children_of f) else None)
    by_tests true true same = same refl
    by_tests true false same = tt
    by_tests false c same = tt
blocks_in_same levels (e ∷ d ∷ []) (f ∷ g ∷ h ∷ fs) pairs = absurd pairs.1.1
blocks_in_same levels (e ∷ d ∷ c ∷ es) (f ∷ g ∷ []) pairs = absurd pairs.1.1
blocks_in_same levels (e ∷ d ∷ c ∷ es) (f ∷ g ∷ h ∷ fs) pairs = tt

blocks_same : (levels : ℕ) (a b : Element) → ReadAlike levels a b → SameHeader (ReadAlike (below (below levels))) (blocks_of a) (blocks_of b)
unfolding blocks_of
blocks_same levels a b alike =
    let same = opened levels a b alike in
    rw (← same_soap_named (codes "Envelope") a b same.name)
    (by_test _ _ (is_soap_named (codes "Envelope") a) (λ is. blocks_in_same (below levels) _ _ (same.envelope is)))
  where
    by_test : (o p : Option (List Element)) (h : Bool) → (h ≡ true → SameHeader (ReadAlike (below (below levels))) o p)
        → SameHeader (ReadAlike (below (below levels))) (if h then o else None) (if h then p else None)
    by_test o p true same = same refl
    by_test o p false same = tt

in_same : (levels : ℕ) (o p : Option (List Element)) → SameHeader (ReadAlike levels) o p
    → SameFound (AreRead (below levels)) (elements_in o) (elements_in p)
in_same levels None None same = refl
in_same levels None (Some fs) same = absurd same
in_same levels (Some es) None same = absurd same
in_same levels (Some es) (Some fs) same =
    below_same levels es fs (named name.Messaging es) (named name.Messaging fs) same.asks
    (pairs_map (λ x y. ReadAlike levels x y × (is_named name.Messaging x ≡ true)) (AreRead levels) (named name.Messaging es) (named name.Messaging fs)
    (λ x y both. record { ebms = named_ebms name.Messaging x both.1; alike = both.0 })
    (pairs_passed (ReadAlike levels) (is_named name.Messaging) es fs same.messaging))

-- what they mean together

together_same : (levels : ℕ) (es fs : List Element) → Pairwise (AreRead levels) es fs → read_together es ≡ read_together fs
together_same levels [] [] pairs = refl
together_same levels [] (f ∷ fs) pairs = absurd pairs
together_same levels (e ∷ es) [] pairs = absurd pairs
together_same levels (e ∷ []) (f ∷ []) pairs = ap (or_refused Invalid) (one_unit_same levels e f pairs.0)
together_same levels (e ∷ []) (f ∷ g ∷ fs) pairs = absurd pairs.1
together_same levels (e ∷ d ∷ es) (f ∷ []) pairs = absurd pairs.1
together_same levels (e ∷ d ∷ []) (f ∷ g ∷ []) pairs = rw (signal_same levels e f pairs.0, signal_same levels d g pairs.1.0) refl
together_same levels (e ∷ d ∷ []) (f ∷ g ∷ h ∷ fs) pairs = absurd pairs.1.1
together_same levels (e ∷ d ∷ c ∷ es) (f ∷ g ∷ []) pairs = absurd pairs.1.1
together_same levels (e ∷ d ∷ c ∷ es) (f ∷ g ∷ h ∷ fs) pairs = refl

meaning_same : (levels : ℕ) (u v : Result (List Element) HeaderRefusal) → SameFound (AreRead levels) u v → meaning_of u ≡ meaning_of v
meaning_same levels (Err refusal) (Err other) same = ap Err same
meaning_same levels (Err refusal) (Ok fs) same = absurd same
meaning_same levels (Ok es) (Err other) same = absurd same
meaning_same levels (Ok es) (Ok fs) same = together_same levels es fs same

pub unit_same : (levels : ℕ) (a b : Element) → ReadAlike levels a b → unit_of a ≡ unit_of b
unfolding unit_of unit_elements
unit_same levels a b alike =
    meaning_same (below (below (below levels))) (elements_in (blocks_of a)) (elements_in (blocks_of b))
    (in_same (below (below levels)) (blocks_of a) (blocks_of b) (blocks_same levels a b alike))
