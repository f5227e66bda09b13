-- How an event changes an inbox.
use Rattle.std.proofs.Common.{◌≡◌, ℕ, zero, suc, ◌≤◌, ◌⊎◌, inl, inr, List, [], ◌∷◌, ◌++◌, false, Some, take, drop, map, refl, sym, ap, ◌∙◌, subst, arith}
use Rattle.std.specs.Prelude.{slice_get}
use Rattle.std.proofs.lemmas.List.{map_push}
use Rattle.as4_values.specs.declared.message.Message.TheVariants as message
use Rattle.exchange_model.specs.Apply.{emptied}
use Rattle.exchange_model.specs.Questions.{is_known}
use Rattle.exchange_model.specs.declared.inbox_entry.InboxEntry.{InboxEntry}
use Rattle.exchange_model.specs.declared.what.What.{What}
use Rattle.exchange_model.specs.declared.what.What.TheVariants.{Came}
use Rattle.exchange_model.proofs.ListLemmas.{Has}
use Rattle.exchange_laws.proofs.ListLemmas.{had_left, got_left}
use Rattle.exchange_laws.proofs.InboxLemmas.{id_of, ids, Apart, apart_push, unknown_new}

-- an entry that was at this place before; where its payloads must remain, they were there before too
pub record Stood (old : List InboxEntry) (confirmed : ℕ) (n : ℕ) (entry : InboxEntry) (is_kept : Type 0) : Type 0 where
  pub before : InboxEntry
  pub there : slice_get old n ≡ Some before
  pub header : entry.header ≡ before.header
  pub payloads : is_kept → entry.payloads ≡ before.payloads
  pub unconfirmed : is_kept → confirmed ≤ n

-- an entry that is at this place later; where its payloads must remain, they do
pub record Stays (new : List InboxEntry) (n : ℕ) (entry : InboxEntry) (is_kept : Type 0) : Type 0 where
  pub later : InboxEntry
  pub there : slice_get new n ≡ Some later
  pub header : later.header ≡ entry.header
  pub payloads : is_kept → later.payloads ≡ entry.payloads

-- from before an event to after it, with the counts of confirmed entries
pub record InboxGoes (what : What) (old : List InboxEntry) (before : ℕ) (new : List InboxEntry) (after : ℕ) : Type 0 where
  pub apart : Apart (ids old) → Apart (ids new)
  pub known : (id : List ℕ) → Has (ids old) id → Has (ids new) id
  pub entries : (n : ℕ) (entry : InboxEntry) → slice_get new n ≡ Some entry
      → Stood old before n entry (after ≤ n) ⊎ (what ≡ Came (message.User entry.header entry.payloads))
  pub stays : (n : ℕ) (entry : InboxEntry) → slice_get old n ≡ Some entry → Stays new n entry (after ≤ n)
  pub grows : before ≤ after

-- nothing changes
pub inbox_stays : (what : What) (inbox : List InboxEntry) (confirmed : ℕ) → InboxGoes what inbox confirmed inbox confirmed
inbox_stays what inbox confirmed = record {
  apart = λ apart. apart;
  known = λ id h. h;
  entries = λ n entry at. inl (record { before = entry; there = at; header = refl; payloads = λ k. refl; unconfirmed = λ k. k });
  stays = λ n entry at. record { later = entry; there = at; header = refl; payloads = λ k. refl };
  grows = omega arith;
}

-- an entry of a longer inbox is an old one or the new one
got_either : (xs : List InboxEntry) (y : InboxEntry) (n : ℕ) (x : InboxEntry) → slice_get (xs ++ y ∷ []) n ≡ Some x
    → (slice_get xs n ≡ Some x) ⊎ (y ≡ x)
got_either [] y zero x e = inr cc
got_either [] y (suc n) x e = absurd cc
got_either (z ∷ xs) y zero x e = inl e
got_either (z ∷ xs) y (suc n) x e = got_either xs y n x e

-- a message is delivered
pub inbox_push : (what : What) (inbox : List InboxEntry) (confirmed : ℕ) (entry : InboxEntry)
    → is_known entry.header.id inbox ≡ false
    → what ≡ Came (message.User entry.header entry.payloads) → InboxGoes what inbox confirmed (inbox ++ entry ∷ []) confirmed
inbox_push what inbox confirmed entry unknown came = record {
  apart = λ apart. subst Apart (sym pushed) (apart_push (ids inbox) entry.header.id apart (unknown_new entry.header.id inbox unknown));
  known = λ id h. subst (λ (xs : List (List ℕ)). Has xs id) (sym pushed) (had_left (ids inbox) (entry.header.id ∷ []) id h);
  entries = λ n x at. entries_by n x (got_either inbox entry n x at);
  stays = λ n x at. record { later = x; there = got_left inbox (entry ∷ []) n x at; header = refl; payloads = λ k. refl };
  grows = omega arith;
}
  where
    pushed : ids (inbox ++ entry ∷ []) ≡ ids inbox ++ entry.header.id ∷ []
    pushed = map_push id_of inbox entry

    entries_by : (n : ℕ) (x : InboxEntry) → (slice_get inbox n ≡ Some x) ⊎ (entry ≡ x)
        → Stood inbox confirmed n x (confirmed ≤ n) ⊎ (what ≡ Came (message.User x.header x.payloads))
    entries_by n x (inl at) = inl (record { before = x; there = at; header = refl; payloads = λ k. refl; unconfirmed = λ k. k })
    entries_by n x (inr same) = inr (came ∙ ap (λ (e : InboxEntry). Came (message.User e.header e.payloads)) same)

abbrev stripped : InboxEntry → InboxEntry
stripped entry = record entry { payloads = [] }

-- emptied entries keep their identifiers
ids_emptied : (count : ℕ) (inbox : List InboxEntry) → ids (map stripped (take count inbox) ++ drop count inbox) ≡ ids inbox
ids_emptied zero inbox = refl
ids_emptied (suc count) [] = refl
ids_emptied (suc count) (e ∷ es) = ap (λ xs. e.header.id ∷ xs) (ids_emptied count es)

-- an entry that remains existed before, and has its payloads unless it is emptied
got_emptied : (count : ℕ) (inbox : List InboxEntry) (n : ℕ) (x : InboxEntry)
    → slice_get (map stripped (take count inbox) ++ drop count inbox) n ≡ Some x
    → (before : InboxEntry) × (slice_get inbox n ≡ Some before) × (x.header ≡ before.header) × (count ≤ n → x.payloads ≡ before.payloads)
got_emptied zero inbox n x at = (x, at, refl, λ k. refl)
got_emptied (suc count) [] n x at = absurd cc
got_emptied (suc count) (e ∷ es) zero x at =
    let same : stripped e ≡ x = cc in (e, refl, ap (λ (y : InboxEntry). y.header) (sym same), λ k. absurd (omega arith))
got_emptied (suc count) (e ∷ es) (suc n) x at =
    let h = got_emptied count es n x at in (h.0, h.1, h.2, λ k. h.3 (omega arith))

-- an entry that existed before remains, and has its payloads unless it is emptied
emptied_got : (count : ℕ) (inbox : List InboxEntry) (n : ℕ) (x : InboxEntry) → slice_get inbox n ≡ Some x
    → Stays (map stripped (take count inbox) ++ drop count inbox) n x (count ≤ n)
emptied_got zero inbox n x at = record { later = x; there = at; header = refl; payloads = λ k. refl }
emptied_got (suc count) [] n x at = absurd cc
emptied_got (suc count) (e ∷ es) zero x at =
    let same : e ≡ x = cc in
    record { later = stripped e; there = refl; header = ap (λ (y : InboxEntry). y.header) same; payloads = λ k. absurd (omega arith) }
emptied_got (suc count) (e ∷ es) (suc n) x at =
    let h = emptied_got count es n x at in
    record { later = h.later; there = h.there; header = h.header; payloads = λ k. h.payloads (omega arith) }

-- the consumer confirmed more
pub inbox_emptied : (what : What) (inbox : List InboxEntry) (confirmed count : ℕ) → confirmed ≤ count
    → InboxGoes what inbox confirmed (emptied count inbox) count
unfolding emptied
inbox_emptied what inbox confirmed count more = record {
  apart = λ apart. subst Apart (sym (ids_emptied count inbox)) apart;
  known = λ id h. subst (λ (xs : List (List ℕ)). Has xs id) (sym (ids_emptied count inbox)) h;
  entries = λ n x at. let h = got_emptied count inbox n x at in
      inl (record { before = h.0; there = h.1; header = h.2; payloads = h.3; unconfirmed = λ k. omega arith });
  stays = emptied_got count inbox;
  grows = more;
}
