-- Arrays of tables, as the tables are read one by one.
use Rattle.std.proofs.Common.{◌≡◌, ℕ, ◌+◌, ◌<◌, List, [], ◌∷◌, ◌++◌, Option, Some, None, Result, Ok, Err, length, map, drop, get_or, refl, sym, ap, append_assoc}
use Rattle.std.proofs.Common.{option_map, Bor, Vec, Global, nat_le, ◌&&◌}
use Rattle.std.proofs.lemmas.List.{drop_more, drop_all, append-nil, length-map, map-append}
use Rattle.std.proofs.lemmas.List.Folds.{list_all-map, list_all-append}
use Rattle.std.specs.List.{list_all}
use Rattle.toml.specs.Data.{Data, Items}
use Rattle.toml.specs.View.{view, items_of, array_view}
use Rattle.toml.specs.declared.value.Value.{Value}
use Rattle.as4_values.specs.declared.header.Party.{Party}
use Rattle.pmodes.specs.ModeParts.{list_of, is_table, are_tables, party_of, parties_in}
use Rattle.std.specs.Prelude.{IsTrue}
use Rattle.std.proofs.Common.{◌≤◌}
use Rattle.mode_values.specs.ModeRanges.{is_short_party}
use Rattle.mode_values.specs.ModeFields.{mode_fields}
use Rattle.mode_values.specs.declared.mode.Mode.{Mode}
use Rattle.pmodes.specs.ModeFile.{mode_of_item, modes_from, at_place}
use Rattle.pmodes.specs.Verdicts.{and_then}
use Rattle.pmodes.specs.declared.fault.Fault.{Fault}

pub list_of-items : (ds : List Data) → list_of (items_of ds) ≡ ds
list_of-items [] = refl
list_of-items (d ∷ ds) = ap (λ (es : List Data). d ∷ es) (list_of-items ds)

pub items_listed : (r : Option (Bor (Vec Value Global))) (o : Option Items) → option_map (λ v. array_view v.now) r ≡ o
    → option_map (λ v. map view v.now.items) r ≡ option_map list_of o
items_listed None o same = rw (← same)
items_listed (Some v) o same = rw (← same) (sym (ap (λ (ds : List Data). Some ds) (list_of-items (map view v.now.items))))

pub tables_counted : (low high : ℕ) (items : List Value)
    → are_tables low high (map view items) ≡ (nat_le low (length items) && (nat_le (length items) high && list_all (λ item. is_table (view item)) items))
unfolding are_tables
tables_counted low high items = rw (length-map items view, list_all-map is_table view items)

-- the items read so far, with the result for the rest
abbrev pub go_on : {A E : Type 0} → List A → Result (List A) E → Result (List A) E
go_on read rest = and_then rest (λ more. Ok (read ++ more))

go_on_one : {A E : Type 0} (read : List A) (a : A) (rest : Result (List A) E) → go_on read (and_then rest (λ more. Ok (a ∷ more))) ≡ go_on (read ++ a ∷ []) rest
go_on_one read a (Ok more) = rw append_assoc
go_on_one read a (Err e) = refl

-- one more party
pub party_step : (items : List Value) (i : ℕ) (item : Value) (read : List Party) (party : Party) → i < length items → item ≡ get_or items i item
    → party_of (view item) ≡ Ok party
    → go_on read (parties_in (map view (drop i items))) ≡ go_on (read ++ party ∷ []) (parties_in (map view (drop (i + 1) items)))
unfolding parties_in
party_step items i item read party short is found =
    rw (drop_more items i item short, ← is, found) (go_on_one read party (parties_in (map view (drop (i + 1) items))))

-- an item that is no party
pub party_stop : (items : List Value) (i : ℕ) (item : Value) (read : List Party) (e : Fault) → i < length items → item ≡ get_or items i item
    → party_of (view item) ≡ Err e → go_on read (parties_in (map view (drop i items))) ≡ Err e
unfolding parties_in
party_stop items i item read e short is refused =
    rw (drop_more items i item short, ← is, refused)

-- no more parties
pub parties_end : (items : List Value) (i : ℕ) (read : List Party) → length items ≤ i → go_on read (parties_in (map view (drop i items))) ≡ Ok read
unfolding parties_in
parties_end items i read all = rw (drop_all i items all, append-nil)

pub one_more_party : (parties : List Party) (party : Party) → IsTrue (list_all is_short_party parties) → IsTrue (is_short_party party)
    → IsTrue (list_all is_short_party (parties ++ party ∷ []))
one_more_party parties party each this = rw (list_all-append is_short_party parties (party ∷ []), each, this)

-- one more mode
pub mode_step : (items : List Value) (i : ℕ) (item : Value) (read : List Mode) (mode : Mode) → i < length items → item ≡ get_or items i item
    → mode_of_item (view item) ≡ Ok (mode_fields mode)
    → go_on (map mode_fields read) (modes_from i (map view (drop i items))) ≡ go_on (map mode_fields (read ++ mode ∷ [])) (modes_from (i + 1) (map view (drop (i + 1) items)))
unfolding modes_from
mode_step items i item read mode short is found =
    rw (drop_more items i item short, ← is, found, map-append mode_fields read (mode ∷ [])) (go_on_one (map mode_fields read) (mode_fields mode) (modes_from (i + 1) (map view (drop (i + 1) items))))

-- an item that is no mode
pub mode_stop : (items : List Value) (i : ℕ) (item : Value) (read : List Mode) (e : Fault) → i < length items → item ≡ get_or items i item
    → mode_of_item (view item) ≡ Err e → go_on (map mode_fields read) (modes_from i (map view (drop i items))) ≡ Err (at_place i e)
unfolding modes_from
mode_stop items i item read e short is refused =
    rw (drop_more items i item short, ← is, refused)

-- no more modes
pub modes_end : (items : List Value) (i : ℕ) (read : List Mode) → length items ≤ i → go_on (map mode_fields read) (modes_from i (map view (drop i items))) ≡ Ok (map mode_fields read)
unfolding modes_from
modes_end items i read all = rw (drop_all i items all, append-nil)
