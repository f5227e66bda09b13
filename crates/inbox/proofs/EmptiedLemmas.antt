-- An inbox as it is seen: its entries, of which the first have no payloads, and the places of the payloads.
use Rattle.std.proofs.Common.{◌≡◌, ℕ, zero, suc, ◌+◌, ◌<◌, ◌≤◌, List, [], ◌∷◌, ◌++◌, length, map, get_or, option_map, Option, Some, None, refl, sym, ap, subst, ◌∙◌, arith, add-one}
use Rattle.std.specs.Prelude.{slice_get}
use Rattle.std.proofs.Math.ListN.{set}
use Rattle.std.proofs.Math.Seq.{map-set_same}
use Rattle.std.proofs.lemmas.List.{length-map, map-append, map-set}
use Rattle.std.proofs.lemmas.Option.{slice_get-get_or, slice_get-map, slice_get_within}
use Rattle.as4_values.specs.declared.payload.Payload.{Payload}
use Rattle.exchange_model.specs.Apply.{emptied}
use Rattle.exchange_model.specs.declared.inbox_entry.InboxEntry.{InboxEntry}
use Rattle.inbox.specs.Entries.{entry_of, spot_of}
use Rattle.inbox.specs.Spots.{Spot}
use Rattle.inbox.specs.declared.entry.Entry.{Entry}

-- a new entry isn't changed
emptied_push : (n : ℕ) (xs : List InboxEntry) (x : InboxEntry) → n ≤ length xs
    → emptied n (xs ++ x ∷ []) ≡ emptied n xs ++ x ∷ []
unfolding emptied
emptied_push zero xs x h = refl
emptied_push (suc n) [] x h = absurd (omega arith)
emptied_push (suc n) (y ∷ xs) x h =
    ap (λ ys. record y { payloads = [] } ∷ ys) (emptied_push n xs x (omega arith))

-- one that has no payloads may count as empty too
emptied_last : (n : ℕ) (xs : List InboxEntry) (x : InboxEntry) → n ≡ length xs → x.payloads ≡ []
    → emptied (suc n) (xs ++ x ∷ []) ≡ emptied n xs ++ x ∷ []
unfolding emptied
emptied_last zero [] x e none = ap (λ (p : List Payload). record x { payloads = p } ∷ []) (sym none)
emptied_last zero (y ∷ xs) x e none = absurd (omega arith)
emptied_last (suc n) [] x e none = absurd (omega arith)
emptied_last (suc n) (y ∷ xs) x e none = ap (λ ys. record y { payloads = [] } ∷ ys) (emptied_last n xs x (omega arith) none)

-- emptying more entries
emptied_more : (n m : ℕ) (xs : List InboxEntry) → n ≤ m → emptied m (emptied n xs) ≡ emptied m xs
unfolding emptied
emptied_more zero m xs h = refl
emptied_more (suc n) zero xs h = absurd (omega arith)
emptied_more (suc n) (suc m) [] h = refl
emptied_more (suc n) (suc m) (y ∷ xs) h = ap (λ ys. record y { payloads = [] } ∷ ys) (emptied_more n m xs (omega arith))

emptied_length : (n : ℕ) (xs : List InboxEntry) → length (emptied n xs) ≡ length xs
unfolding emptied
emptied_length zero xs = refl
emptied_length (suc n) [] = refl
emptied_length (suc n) (y ∷ xs) = ap suc (emptied_length n xs)

-- headers stay
emptied_header : (n k : ℕ) (xs : List InboxEntry)
    → option_map (λ (e : InboxEntry). e.header) (slice_get (emptied n xs) k) ≡ option_map (λ (e : InboxEntry). e.header) (slice_get xs k)
unfolding emptied
emptied_header zero k xs = refl
emptied_header (suc n) k [] = refl
emptied_header (suc n) zero (y ∷ xs) = refl
emptied_header (suc n) (suc k) (y ∷ xs) = emptied_header n k xs

-- the entries of an inbox with one more
pub entries_push : (n : ℕ) (xs : List Entry) (x : Entry) → n ≤ length xs
    → emptied n (map entry_of (xs ++ x ∷ [])) ≡ emptied n (map entry_of xs) ++ entry_of x ∷ []
entries_push n xs x h =
    ap (emptied n) (map-append entry_of xs (x ∷ []))
    ∙ emptied_push n (map entry_of xs) (entry_of x) (subst (λ k. n ≤ k) (sym (length-map xs entry_of)) h)

pub places_push : (xs : List Entry) (x : Entry) → map spot_of (xs ++ x ∷ []) ≡ map spot_of xs ++ spot_of x ∷ []
places_push xs x = map-append spot_of xs (x ∷ [])

-- an inbox whose entries are all confirmed, with one more that is: `more` is its list of entries behind the push
pub entries_keep : (n : ℕ) (more : List Entry) (xs : List InboxEntry) (x : InboxEntry) → n ≡ length xs → x.payloads ≡ []
    → emptied n xs ≡ xs → emptied n (map entry_of more) ≡ xs ++ x ∷ [] → emptied (n + 1) (map entry_of more) ≡ xs ++ x ∷ []
entries_keep n more xs x e none kept are =
    rw add-one
    (sym (emptied_more n (suc n) (map entry_of more) (omega arith))
    ∙ ap (emptied (suc n)) are
    ∙ emptied_last n xs x e none
    ∙ ap (λ ys. ys ++ x ∷ []) kept)

-- the entries that are seen have no payloads where they count as empty
pub seen_emptied : (n : ℕ) (xs : List Entry) → emptied n (emptied n (map entry_of xs)) ≡ emptied n (map entry_of xs)
seen_emptied n xs = emptied_more n n (map entry_of xs) (omega arith)

pub seen_more : (n m : ℕ) (xs : List Entry) → n ≤ m → emptied m (map entry_of xs) ≡ emptied m (emptied n (map entry_of xs))
seen_more n m xs h = sym (emptied_more n m (map entry_of xs) h)

pub seen_length : (n : ℕ) (xs : List Entry) → length (emptied n (map entry_of xs)) ≡ length xs
seen_length n xs = emptied_length n (map entry_of xs) ∙ length-map xs entry_of

pub seen_places : (xs : List Entry) → length (map spot_of xs) ≡ length xs
seen_places xs = length-map xs spot_of

pub seen_header : (n k : ℕ) (xs : List Entry)
    → option_map (λ (e : Entry). e.header) (slice_get xs k) ≡ option_map (λ (e : InboxEntry). e.header) (slice_get (emptied n (map entry_of xs)) k)
seen_header n k xs =
    by_entry (slice_get xs k)
    ∙ ap (option_map (λ (e : InboxEntry). e.header)) (sym (slice_get-map entry_of xs k)) ∙ sym (emptied_header n k (map entry_of xs))
  where
    by_entry : (o : Option Entry)
        → option_map (λ (e : Entry). e.header) o ≡ option_map (λ (e : InboxEntry). e.header) (option_map entry_of o)
    by_entry None = refl
    by_entry (Some e) = refl

-- what is read of the entry at a number
pub header_at : (n k : ℕ) (xs : List Entry) (x : Entry) → slice_get xs k ≡ Some x
    → option_map (λ (e : InboxEntry). e.header) (slice_get (emptied n (map entry_of xs)) k) ≡ Some x.header
header_at n k xs x there = sym (seen_header n k xs) ∙ ap (option_map (λ (e : Entry). e.header)) there

pub place_at : (k : ℕ) (xs : List Entry) (x : Entry) → slice_get xs k ≡ Some x → slice_get (map spot_of xs) k ≡ Some (spot_of x)
place_at k xs x there = slice_get-map spot_of xs k ∙ ap (option_map spot_of) there

-- none is at a number past the end
past_the_end : (k : ℕ) (xs : List Entry) → slice_get xs k ≡ None → length xs ≤ k
past_the_end k [] none = omega arith
past_the_end zero (x ∷ xs) none = absurd cc
past_the_end (suc k) (x ∷ xs) none = let rest : length xs ≤ k = past_the_end k xs none in omega arith

pub none_past : (n k : ℕ) (xs : List Entry) → slice_get xs k ≡ None → length (emptied n (map entry_of xs)) ≤ k
none_past n k xs none = subst (λ long. long ≤ k) (sym (seen_length n xs)) (past_the_end k xs none)

-- an entry that moves keeps all but its gate
pub moved_entry : (k gate : ℕ) (xs : List Entry) (x : Entry) → x ≡ get_or xs k x
    → map entry_of (set xs k (record x { gate = gate })) ≡ map entry_of xs
moved_entry k gate xs x there = map-set_same entry_of xs k (record x { gate = gate }) x (ap entry_of there)

pub moved_place : (k gate : ℕ) (xs : List Entry) (x : Entry) (p : Spot) → x ≡ get_or xs k x → slice_get (map spot_of xs) k ≡ Some p
    → map spot_of (set xs k (record x { gate = gate })) ≡ set (map spot_of xs) k (record p { gate = gate })
moved_place k gate xs x p there spot =
    let within : k < length xs = subst (λ n. k < n) (length-map xs spot_of) (slice_get_within (map spot_of xs) k p spot) in
    let found : slice_get xs k ≡ Some (get_or xs k x) = slice_get-get_or xs k x within in
    let same : spot_of x ≡ p = ap spot_of there ∙ some_is (sym (place_at k xs (get_or xs k x) found) ∙ spot) in
    map-set spot_of xs k (record x { gate = gate })
    ∙ ap (λ (s : Spot). set (map spot_of xs) k (record s { gate = gate })) same
  where
    some_is : {X : Type 0} {a b : X} → Some a ≡ Some b → a ≡ b
    some_is e = cc
