-- Whether an identifier is held, after a change of the map at one key.
use Rattle.std.proofs.Common.{zero, suc, [], ◌∷◌, ◌++◌, ◌≡◌, ℕ, ◌||◌, List, map, Bool, true, false, cond, is_some, Option, Some, None, refl, sym, ap, ◌∙◌}
use Rattle.std.specs.Prelude.{IsSome}
use Rattle.std.specs.BTreeMap.{BTreeMap, get, Updates}
use Rattle.std.proofs.lemmas.Bool.{true≢false}
use Rattle.std.specs.Cmp.Lexicographic.{slice_cmp}
use Rattle.std.specs.Ordering.{is_eq, nat_cmp}
use Rattle.std.specs.Str.{bytes_eq}
use Rattle.std.proofs.lemmas.Map.Text.{is_eq-slice_cmp}
use Rattle.std.proofs.lemmas.Slice.Eq.{bytes_eq-Decides}
use Rattle.exchange_model.specs.Apply.{emptied}
use Rattle.exchange_model.specs.Questions.{is_known}
use Rattle.exchange_model.specs.declared.inbox_entry.InboxEntry.{InboxEntry}
use Rattle.std.proofs.lemmas.List.Folds.{list_any-append}
use Rattle.std.proofs.lemmas.List.{map-append}
use Rattle.inbox.specs.Holding.{AreOf, HasPlace, has_come, is_held}
use Rattle.inbox.specs.Entries.{entry_of}
use Rattle.inbox.specs.declared.entry.Entry.{Entry}
use Rattle.inbox.specs.declared.identifiers.Identifiers.{Identifiers}
use Rattle.inbox.specs.declared.identifiers.Hold.{Hold}
use Rattle.inbox.specs.declared.identifiers.Hold.TheVariants as hold

abbrev at_id : BTreeMap (List ℕ) Hold → List ℕ → Option Hold
at_id map id = get (slice_cmp nat_cmp) map id

-- the written value says the same as the previous value of its key
chosen : (b : Bool) (key id : List ℕ) (old : BTreeMap (List ℕ) Hold) (w : Option Hold) → (b ≡ true → key ≡ id)
    → has_come w ≡ has_come (at_id old key) → has_come (cond b w (at_id old id)) ≡ has_come (at_id old id)
chosen true key id old w is same = same ∙ ap (λ k. has_come (at_id old k)) (is refl)
chosen false key id old w is same = refl

pub same_held : (old new : BTreeMap (List ℕ) Hold) (key : List ℕ) (w : Option Hold) → Updates (slice_cmp nat_cmp) old new key w
    → has_come w ≡ has_come (at_id old key) → (id : List ℕ) → has_come (at_id new id) ≡ has_come (at_id old id)
same_held old new key w updates same id =
    ap has_come (updates.0 id)
    ∙ chosen (is_eq (slice_cmp nat_cmp key id)) key id old w
    (λ equal. (bytes_eq-Decides key id).0 (sym (is_eq-slice_cmp key id) ∙ equal)) same

or_false : (b : Bool) → (b || false) ≡ b
or_false true = refl
or_false false = refl

-- a message with the key was received
either : (b : Bool) (was : Option Hold) → has_come (cond b (Some hold.Came) was) ≡ (has_come was || b)
either true was = elim (has_come was) as (λ (held : Bool). true ≡ (held || true)) [
  | true ↦ refl
  | false ↦ refl
]
either false was = sym (or_false (has_come was))

pub one_more_held : (old new : BTreeMap (List ℕ) Hold) (key : List ℕ) → Updates (slice_cmp nat_cmp) old new key (Some hold.Came)
    → (id : List ℕ) → has_come (at_id new id) ≡ (has_come (at_id old id) || bytes_eq key id)
one_more_held old new key updates id =
    ap has_come (updates.0 id ∙ ap (λ b. cond b (Some hold.Came) (at_id old id)) (is_eq-slice_cmp key id))
    ∙ either (bytes_eq key id) (at_id old id)

-- an identifier that isn't in the map wasn't received
pub not_there : (o : Option Hold) → is_some o ≡ false → has_come None ≡ has_come o
not_there None out = refl
not_there (Some h) out = absurd (true≢false out)

-- at first there are no messages, and none is held
pub none_held : (ids : Identifiers) → ((id : List ℕ) → is_held id ids ≡ false) → HasPlace ids → AreOf ids []
unfolding is_known
none_held ids none place = record { held = none; place = place }

-- one more message
pub held_push : (old new : Identifiers) (entries : List Entry) (entry : Entry) → AreOf old (map entry_of entries)
    → ((id : List ℕ) → is_held id new ≡ (is_held id old || bytes_eq entry.header.id id)) → HasPlace new
    → AreOf new (map entry_of (entries ++ entry ∷ []))
unfolding is_known
held_push old new entries entry are more place = record {
  held = λ id. more id
      ∙ (ap (λ held. held || bytes_eq entry.header.id id) (are.held id)
      ∙ (sym (list_any-append (λ (e : InboxEntry). bytes_eq e.header.id id) (map entry_of entries) (entry_of entry ∷ [])
      ∙ ap (λ last. is_known id (map entry_of entries) || last) (or_false (bytes_eq entry.header.id id)))
      ∙ ap (is_known id) (sym (map-append entry_of entries (entry ∷ [])))));
  place = place;
}

-- the same messages, some without their payloads
known_emptied : (id : List ℕ) (count : ℕ) (entries : List InboxEntry) → is_known id (emptied count entries) ≡ is_known id entries
unfolding is_known emptied
known_emptied id zero entries = refl
known_emptied id (suc count) [] = refl
known_emptied id (suc count) (entry ∷ entries) = ap (λ rest. bytes_eq entry.header.id id || rest) (known_emptied id count entries)

-- the map answers of the entries as they are seen
pub held_seen : (id : List ℕ) (ids : Identifiers) (count : ℕ) (entries : List Entry) → AreOf ids (map entry_of entries)
    → is_held id ids ≡ is_known id (emptied count (map entry_of entries))
held_seen id ids count entries are = are.held id ∙ sym (known_emptied id count (map entry_of entries))

-- no room contradicts some room
pub no_room : (room : Option (List ℕ)) → room ≡ None → IsSome room → ⊥
no_room None none some = cc
no_room (Some id) none some = cc
