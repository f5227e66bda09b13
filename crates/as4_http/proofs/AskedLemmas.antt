-- Lemmas on how far a source is read.
use Rattle.std.proofs.Common.{◌≡◌, ℕ, ◌+◌, ◌-◌, ◌≤◌, List, [], ◌∷◌, ◌++◌, length, take, drop, min, Option, None, Some, ◌⊎◌, inl, inr, refl, sym, ◌∙◌, ap, subst, arith, append_assoc, append-nil, length-append, length-drop}
use Rattle.std.proofs.lemmas.List.{append_cancel_right, take-append-drop, length-take-le, nil_from_length}
use Rattle.as4_flow.specs.Flow.{before, LosesFront}
use Rattle.as4_flow.proofs.FlowLemmas.{before_nil, before_append, before_more}
use Rattle.as4_http.specs.Asked.{AsksOnlyAsNeeded, GivesToLimit, AsksForBody}
use Rattle.as4_http.specs.Bodies.{HasNoBody}
use Rattle.as4_http.specs.Came.{Came, IsShorter}
use Rattle.as4_http.specs.Limits.{the_limits}
use Rattle.as4_http.specs.declared.framing.Framing.{Framing}
use Rattle.as4_http.specs.declared.framing.Framing.TheVariants.{ToEnd}
use Rattle.as4_http.specs.declared.limits.TheConstants.{MAX_PIECE}

-- ---- one step

-- the source gave nothing
pub asks_nothing : (P : List ℕ → Type 0) (held : List ℕ) (old new : Option (List ℕ)) → old ≡ new → AsksOnlyAsNeeded P held old new
asks_nothing P held old new same = record { prefix = []; piece = []; given = same ∙ sym (before_nil new); short = omega arith; needed = inl refl }

-- it gave one piece, where there was nothing whole
asks_piece : (P : List ℕ → Type 0) (held more : List ℕ) (n : ℕ) (left rest : Option (List ℕ)) → Came n held more left rest → n ≤ MAX_PIECE → P held → AsksOnlyAsNeeded P held left rest
asks_piece P held more n left rest came few none = record {
  prefix = [];
  piece = came.piece;
  given = came.taken;
  short = omega (arith, came.count, few);
  needed = inr (subst P (sym (append-nil held)) none);
}

pub asks_as : (P Q : List ℕ → Type 0) (held : List ℕ) (old new : Option (List ℕ)) → ((bytes : List ℕ) → P bytes → Q bytes) → AsksOnlyAsNeeded P held old new → AsksOnlyAsNeeded Q held old new
asks_as P Q held old new on asks = record {
  prefix = asks.prefix;
  piece = asks.piece;
  given = asks.given;
  short = asks.short;
  needed = elim asks.needed [ inl nothing ↦ inl nothing | inr none ↦ inr (on (held ++ asks.prefix) none) ];
}

-- fewer bytes than are wanted: all but the last that came
pub asks_counted : (n at_hand : ℕ) (held : List ℕ) (old new : Option (List ℕ)) → at_hand ≡ min (length held) n → LosesFront (n - at_hand) old new → AsksOnlyAsNeeded (IsShorter n) held old new
asks_counted n at_hand held old new least ([], few, given) = asks_nothing (IsShorter n) held old new (given ∙ before_nil new)
asks_counted n at_hand held old new least (b ∷ bytes, few, given) =
    let others : List ℕ = take (length bytes) (b ∷ bytes) in
    let count : length others ≡ length bytes = length-take-le (length bytes) (b ∷ bytes) (omega arith) in record {
      prefix = others;
      piece = drop (length bytes) (b ∷ bytes);
      given = given ∙ ap (λ (l : List ℕ). before l new) (sym (take-append-drop (length bytes) (b ∷ bytes)));
      short = omega (arith, length-drop (length bytes) (b ∷ bytes));
      needed = inr (omega (arith, length-append held others, count, few, least));
    }

-- ---- one step, and then another

-- what was held and what the source gave, split in two ways
pub same_bytes : (held bytes part now rest : List ℕ) (old mid : Option (List ℕ)) → mid ≡ Some rest → old ≡ before bytes mid → before held old ≡ before part (before now mid) → held ++ bytes ≡ part ++ now
same_bytes held bytes part now rest old mid told given parts =
    let all : Some (held ++ (bytes ++ rest)) ≡ Some (part ++ (now ++ rest)) =
    sym (ap (λ (t : Option (List ℕ)). before held t) (given ∙ ap (λ (t : Option (List ℕ)). before bytes t) told)) ∙ parts ∙ ap (λ (t : Option (List ℕ)). before part (before now t)) told in
    let same : held ++ (bytes ++ rest) ≡ part ++ (now ++ rest) = cc in
    append_cancel_right (held ++ bytes) (part ++ now) rest (append_assoc held bytes rest ∙ same ∙ sym (append_assoc part now rest))

-- a part was read, and then what follows it: where nothing whole follows, there is nothing whole
pub asks_after : (A P Q : List ℕ → Type 0) (part held now : List ℕ) (old mid new : Option (List ℕ)) → before held old ≡ before part (before now mid) → ((bytes : List ℕ) → A bytes → Q bytes) → ((rest : List ℕ) → P rest → Q (part ++ rest)) → AsksOnlyAsNeeded A held old mid → AsksOnlyAsNeeded P now mid new → AsksOnlyAsNeeded Q held old new
asks_after A P Q part held now old mid None parts begun on first second = record {
  prefix = [];
  piece = [];
  given = first.given ∙ ap (λ (t : Option (List ℕ)). before (first.prefix ++ first.piece) t) second.given;
  short = omega arith;
  needed = inl refl;
}
asks_after A P Q part held now old mid (Some rest) parts begun on first second =
    let bytes = first.prefix ++ first.piece in
    elim second.needed [
      | inl nothing ↦ asks_as A Q held old (Some rest) begun (record {
        prefix = first.prefix;
        piece = first.piece;
        given = first.given ∙ ap (λ (t : Option (List ℕ)). before bytes t) (second.given ∙ ap (λ (l : List ℕ). before l (Some rest)) nothing);
        short = first.short;
        needed = first.needed;
      })
      | inr none ↦ record {
        prefix = bytes ++ second.prefix;
        piece = second.piece;
        given = first.given ∙ ap (λ (t : Option (List ℕ)). before bytes t) second.given ∙ before_append bytes (second.prefix ++ second.piece) (Some rest) ∙ ap (λ (l : List ℕ). before l (Some rest)) (sym (append_assoc bytes second.prefix second.piece));
        short = second.short;
        needed = inr (subst Q (sym (append_assoc part now second.prefix) ∙ ap (λ (l : List ℕ). l ++ second.prefix) (sym (same_bytes held bytes part now ((second.prefix ++ second.piece) ++ rest) old mid second.given first.given parts)) ∙ append_assoc held bytes second.prefix) (on (now ++ second.prefix) none));
      }
    ]

-- ---- a loop that reads piece by piece

-- what is held goes on by the piece
pub held_more : (start held more : List ℕ) (n : ℕ) (old left new : Option (List ℕ)) → before start old ≡ before held left → Came n held more left new → before start old ≡ before more new
held_more start held more n old left new whole came =
    before_more (before start old) left new held came.piece whole came.taken ∙ ap (λ (l : List ℕ). before l new) (sym came.held)

-- and where there was nothing whole, the piece was needed
pub asks_more : (P : List ℕ → Type 0) (start held more : List ℕ) (n : ℕ) (old left new : Option (List ℕ)) → before start old ≡ before held left → AsksOnlyAsNeeded P start old left → Came n held more left new → n ≤ MAX_PIECE → P held → AsksOnlyAsNeeded P start old new
asks_more P start held more n old left new whole asks came few none =
    asks_after P P P [] start held old left new (whole ∙ sym (before_nil (before held left))) (λ bytes not. not) (λ rest not. not) asks (asks_piece P held more n left new came few none)

-- nothing is held, and a piece leaves it so
pub empty_stays : (held piece : List ℕ) (left new : Option (List ℕ)) → before held left ≡ left → left ≡ before piece new → before held new ≡ new
empty_stays held piece left None same taken = refl
empty_stays held piece left (Some rest) same taken =
    let all : Some (held ++ (piece ++ rest)) ≡ Some (piece ++ rest) = sym (ap (λ (t : Option (List ℕ)). before held t) taken) ∙ same ∙ taken in
    let lists : held ++ (piece ++ rest) ≡ piece ++ rest = cc in
    let empty : held ≡ [] = nil_from_length held (omega (arith, ap length lists, length-append held (piece ++ rest))) in
    ap (λ (l : List ℕ). before l (Some rest)) empty

-- a piece of a body that runs to the end of the stream
limit_given : (start bytes held more : List ℕ) (n : ℕ) (old left : Option (List ℕ)) (rest : List ℕ) → before start old ≡ before held left → old ≡ before bytes left → Came n held more left (Some rest) → length more ≤ the_limits.body + 1 → GivesToLimit start old (Some rest)
limit_given start bytes held more n old left rest whole given came within =
    let same : start ++ bytes ≡ held = same_bytes start bytes [] held (came.piece ++ rest) old left came.taken given (whole ∙ sym (before_nil (before held left))) in
    let all : start ++ (bytes ++ came.piece) ≡ more = sym (append_assoc start bytes came.piece) ∙ ap (λ (l : List ℕ). l ++ came.piece) same ∙ sym came.held in record {
      bytes = bytes ++ came.piece;
      given = before_more old left (Some rest) bytes came.piece given came.taken;
      within = omega (arith, within, ap length all);
    }

pub limit_more : (start held more : List ℕ) (n : ℕ) (old left new : Option (List ℕ)) → before start old ≡ before held left → (old ≡ left) ⊎ GivesToLimit start old left → Came n held more left new → length more ≤ the_limits.body + 1 → (old ≡ new) ⊎ GivesToLimit start old new
limit_more start held more n old left None whole (inl same) came within = inl (same ∙ came.taken)
limit_more start held more n old left None whole (inr gives) came within = inl (gives.given ∙ ap (λ (t : Option (List ℕ)). before gives.bytes t) came.taken)
limit_more start held more n old left (Some rest) whole (inl same) came within = inr (limit_given start [] held more n old left rest whole (same ∙ sym (before_nil left)) came within)
limit_more start held more n old left (Some rest) whole (inr gives) came within = inr (limit_given start gives.bytes held more n old left rest whole gives.given came within)

-- ---- bodies

-- of a body of any framing but that to the end
pub body_asks : (P : List ℕ → Type 0) (framing : Framing) (held : List ℕ) (old new : Option (List ℕ)) → ((bytes : List ℕ) → P bytes → HasNoBody framing the_limits bytes) → AsksOnlyAsNeeded P held old new → AsksForBody framing held old new
body_asks P framing held old new on asks = inl (asks_as P (HasNoBody framing the_limits) held old new on asks)

-- and of one to the end
pub rest_asks : (framing : Framing) (held : List ℕ) (old new : Option (List ℕ)) → framing ≡ ToEnd → (old ≡ new) ⊎ GivesToLimit held old new → AsksForBody framing held old new
rest_asks framing held old new is (inl same) = inl (asks_nothing (HasNoBody framing the_limits) held old new same)
rest_asks framing held old new is (inr gives) = inr (is, gives)
