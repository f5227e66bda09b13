-- An item that is cut was written there.
use Rattle.std.proofs.Common.{◌≡◌, ℕ, zero, suc, Bool, true, false, cond, List, [], ◌∷◌, ◌++◌, length, map, Option, Some, None, subst, refl, sym, ap, ◌∙◌, inl, inr, append_assoc, ◌==◌}
use Rattle.std.specs.List.{take_while, flat_map, AllByRecursion, AllPass}
use Rattle.std.specs.Option.{option_map}
use Rattle.std.proofs.lemmas.Bool.{eqb-true, cases_Bool, cond-false}
use Rattle.std.proofs.lemmas.Option.{same_Some, cond_some}
use Rattle.std.proofs.lemmas.List.Concat.{flat_map-cons}
use Rattle.byte_forms.specs.Classes.{is_blank}
use Rattle.xml_items.specs.Classes.{is_name_byte, is_quote, is_value_byte, is_text_byte, declares}
use Rattle.xml_items.specs.Items.{Written, Item, declaration, comment, start, finish, run}
use Rattle.byte_forms.specs.Cuts.{◌>>=◌, skip, run_at, strip_prefix}
use Rattle.xml_items.specs.Cutting.{value_in, value_at, attribute_at, attributes_within, attributes_at, tag_end_at, start_at, finish_at, dashes_at, comment_at, declaration_at, markup_at, item_at}
use Rattle.xml_items.specs.Grammar.{IsSome, WrittenAttribute, print_attribute, IsAttribute, written, WrittenTag, print_tag_end, print_tag, IsTag, xml_declaration, remark, start_tag, end_tag, text, print_item, IsRemark, IsItem, meaning, BeginsItem}
use Rattle.byte_forms.proofs.CutLemmas.{cases_option, bind_some, run_whole, run_stops, strip_prefix_takes, strip_prefix_again}
use Rattle.xml_items.proofs.RunLemmas.{run_passes, run_takes, some_run}

-- replaces the second of two parts by an equal one
onto : (bytes front middle rest : List ℕ) → bytes ≡ front ++ middle → middle ≡ rest → bytes ≡ front ++ rest
onto bytes front middle rest e f = e ∙ ap (λ (r : List ℕ). front ++ r) f

cons-append : (b : ℕ) (xs ys : List ℕ) → (b ∷ xs) ++ ys ≡ b ∷ (xs ++ ys)
cons-append b xs ys = refl

pub three : (first second third rest : List ℕ) → (first ++ (second ++ third)) ++ rest ≡ first ++ (second ++ (third ++ rest))
three first second third rest = simp append_assoc

-- ---- attributes

value_in_takes : (quote : ℕ) (bytes : List ℕ) (x : List ℕ × List ℕ) → value_in quote bytes ≡ Some x → (bytes ≡ x.0 ++ quote ∷ x.1) × AllPass (is_value_byte quote) x.0
unfolding value_in
value_in_takes quote bytes x e =
    bind_some (strip_prefix (quote ∷ []) (skip (is_value_byte quote) bytes)) (λ rest. Some (take_while (is_value_byte quote) bytes, rest)) x e λ rest ends same.
    let front : List ℕ = take_while (is_value_byte quote) bytes in
    subst (λ (y : List ℕ × List ℕ). (bytes ≡ y.0 ++ quote ∷ y.1) × AllPass (is_value_byte quote) y.0) (same_Some (front, rest) x same)
    (onto bytes front (skip (is_value_byte quote) bytes) (quote ∷ rest) (run_whole (is_value_byte quote) bytes) (strip_prefix_takes (quote ∷ []) (skip (is_value_byte quote) bytes) rest ends), run_passes (is_value_byte quote) bytes)

-- a value was cut between two quotes
record ValueTaken (bytes : List ℕ) (x : List ℕ × List ℕ) : Type 0 where
  quote : ℕ
  is : is_quote quote ≡ true
  parts : bytes ≡ quote ∷ (x.0 ++ quote ∷ x.1)
  pass : AllPass (is_value_byte quote) x.0

guarded : {A : Type 0} (b : Bool) (o : Option A) (x : A) → cond b o None ≡ Some x → (b ≡ true) × (o ≡ Some x)
guarded true o x e = (refl, e)
guarded false o x e = absurd cc

value_takes : (bytes : List ℕ) (x : List ℕ × List ℕ) → value_at bytes ≡ Some x → ValueTaken bytes x
unfolding value_at
value_takes [] x e = absurd cc
value_takes (b ∷ bytes) x e =
    let cut = guarded (is_quote b) (value_in b bytes) x e in
    let inner = value_in_takes b bytes x cut.1 in
    record { quote = b; is = cut.0; parts = ap (λ (r : List ℕ). b ∷ r) inner.0; pass = inner.1 }

pub print_attribute-append : (a : WrittenAttribute) (rest : List ℕ) → print_attribute a ++ rest ≡ a.blanks ++ (a.name ++ (a.left ++ 61 ∷ (a.right ++ a.quote ∷ (a.value ++ a.quote ∷ rest))))
unfolding print_attribute
print_attribute-append a rest = regroup a.blanks a.name a.left a.right a.value rest a.quote
  where
    regroup : (blanks name left right value rest : List ℕ) (quote : ℕ) → (blanks ++ (name ++ (left ++ 61 ∷ (right ++ quote ∷ (value ++ quote ∷ []))))) ++ rest ≡ blanks ++ (name ++ (left ++ 61 ∷ (right ++ quote ∷ (value ++ quote ∷ rest))))
    regroup blanks name left right value rest quote = simp (append_assoc, cons-append)

abbrev AttributeTaken : List ℕ → Written × List ℕ → Type 0
AttributeTaken bytes x = (w : WrittenAttribute) × IsAttribute w × (written w ≡ x.0) × (bytes ≡ print_attribute w ++ x.1)

pub attribute_takes : (bytes : List ℕ) (x : Written × List ℕ) → attribute_at bytes ≡ Some x → AttributeTaken bytes x
unfolding attribute_at
attribute_takes bytes x e =
    bind_some (run_at is_blank bytes) (λ blanks. run_at is_name_byte blanks.1 >>= λ name. strip_prefix (61 ∷ []) (skip is_blank name.1) >>= λ rest. value_at (skip is_blank rest) >>= λ value. Some (record { name = name.0; value = value.0 }, value.1)) x e λ blanks e0 f0.
    bind_some (run_at is_name_byte blanks.1) (λ name. strip_prefix (61 ∷ []) (skip is_blank name.1) >>= λ rest. value_at (skip is_blank rest) >>= λ value. Some (record { name = name.0; value = value.0 }, value.1)) x f0 λ name e1 f1.
    bind_some (strip_prefix (61 ∷ []) (skip is_blank name.1)) (λ rest. value_at (skip is_blank rest) >>= λ value. Some (record { name = name.0; value = value.0 }, value.1)) x f1 λ rest e2 f2.
    bind_some (value_at (skip is_blank rest)) (λ value. Some (record { name = name.0; value = value.0 }, value.1)) x f2 λ value e3 f3.
    let t0 = run_takes is_blank bytes blanks e0 in
    let t1 = run_takes is_name_byte blanks.1 name e1 in
    let t2 = strip_prefix_takes (61 ∷ []) (skip is_blank name.1) rest e2 in
    let t3 = value_takes (skip is_blank rest) value e3 in
    let w : WrittenAttribute = record { blanks = blanks.0; name = name.0; left = take_while is_blank name.1; right = take_while is_blank rest; quote = t3.quote; value = value.0 } in
    let right : rest ≡ w.right ++ w.quote ∷ (w.value ++ w.quote ∷ value.1) = onto rest w.right (skip is_blank rest) (w.quote ∷ (w.value ++ w.quote ∷ value.1)) (run_whole is_blank rest) t3.parts in
    let left : name.1 ≡ w.left ++ 61 ∷ (w.right ++ w.quote ∷ (w.value ++ w.quote ∷ value.1)) = onto name.1 w.left (skip is_blank name.1) (61 ∷ (w.right ++ w.quote ∷ (w.value ++ w.quote ∷ value.1))) (run_whole is_blank name.1) (t2 ∙ ap (λ (r : List ℕ). 61 ∷ r) right) in
    let named : blanks.1 ≡ w.name ++ (w.left ++ 61 ∷ (w.right ++ w.quote ∷ (w.value ++ w.quote ∷ value.1))) = onto blanks.1 w.name name.1 (w.left ++ 61 ∷ (w.right ++ w.quote ∷ (w.value ++ w.quote ∷ value.1))) t1.0 left in
    let whole : bytes ≡ w.blanks ++ (w.name ++ (w.left ++ 61 ∷ (w.right ++ w.quote ∷ (w.value ++ w.quote ∷ value.1)))) = onto bytes w.blanks blanks.1 (w.name ++ (w.left ++ 61 ∷ (w.right ++ w.quote ∷ (w.value ++ w.quote ∷ value.1)))) t0.0 named in
    let is : IsAttribute w = record { blanks = t0.1; name = t1.1; left = run_passes is_blank name.1; right = run_passes is_blank rest; quote = t3.is; value = t3.pass } in
    subst (λ (y : Written × List ℕ). AttributeTaken bytes y) (same_Some (written w, value.1) x f3) (w, is, refl, whole ∙ sym (print_attribute-append w value.1))

-- attributes were cut, one after another
pub record AttributesTaken (bytes : List ℕ) (x : List Written × List ℕ) : Type 0 where
  pub parts : List WrittenAttribute
  pub each : AllByRecursion IsAttribute parts
  pub means : map written parts ≡ x.0
  pub whole : bytes ≡ flat_map print_attribute parts ++ x.1

none_taken : (bytes : List ℕ) → AttributesTaken bytes ([], bytes)
none_taken bytes = record { parts = []; each = tt; means = refl; whole = refl }

one_more : (bytes : List ℕ) (first : Written × List ℕ) (others : List Written × List ℕ) → AttributeTaken bytes first → AttributesTaken first.1 others → AttributesTaken bytes (first.0 ∷ others.0, others.1)
one_more bytes first others one more = record {
  parts = one.0 ∷ more.parts;
  each = (one.1, more.each);
  means = cc (one.2, more.means);
  whole = rw (flat_map-cons, append_assoc) (onto bytes (print_attribute one.0) first.1 (flat_map print_attribute more.parts ++ others.1) one.3 more.whole);
}

attributes_within_take : (n : ℕ) (bytes : List ℕ) → AttributesTaken bytes (attributes_within n bytes)
unfolding attributes_within
attributes_within_take zero bytes = none_taken bytes
attributes_within_take (suc n) bytes =
    elim (cases_option (attribute_at bytes)) [
      | inl none ↦ rw (none, attributes_within) (none_taken bytes)
      | inr some ↦ rw (some.1, attributes_within) (one_more bytes some.0 (attributes_within n some.0.1) (attribute_takes bytes some.0 some.1) (attributes_within_take n some.0.1))
    ]

pub attributes_take : (bytes : List ℕ) → AttributesTaken bytes (attributes_at bytes)
unfolding attributes_at
attributes_take bytes = attributes_within_take (length bytes) bytes

-- ---- items

-- an item was cut
abbrev pub ItemTaken : List ℕ → Item × List ℕ → Type 0
ItemTaken bytes x = BeginsItem bytes x.0 x.1

tag_end_takes : (bytes : List ℕ) (x : Bool × List ℕ) → tag_end_at bytes ≡ Some x → bytes ≡ print_tag_end x.0 ++ x.1
unfolding tag_end_at
tag_end_takes bytes x e = closes (strip_prefix (47 ∷ 62 ∷ []) bytes) refl e
  where
    opens : (o : Option (List ℕ)) → strip_prefix (62 ∷ []) bytes ≡ o → option_map (λ rest. (false, rest)) o ≡ Some x → bytes ≡ print_tag_end x.0 ++ x.1
    opens None is e = absurd cc
    opens (Some rest) is e = subst (λ (y : Bool × List ℕ). bytes ≡ print_tag_end y.0 ++ y.1) (same_Some (false, rest) x e) (strip_prefix_takes (62 ∷ []) bytes rest is)

    closes : (o : Option (List ℕ)) → strip_prefix (47 ∷ 62 ∷ []) bytes ≡ o → elim o [ Some rest ↦ Some (true, rest) | None ↦ option_map (λ rest. (false, rest)) (strip_prefix (62 ∷ []) bytes) ] ≡ Some x → bytes ≡ print_tag_end x.0 ++ x.1
    closes None is e = opens (strip_prefix (62 ∷ []) bytes) refl e
    closes (Some rest) is e = subst (λ (y : Bool × List ℕ). bytes ≡ print_tag_end y.0 ++ y.1) (same_Some (true, rest) x e) (strip_prefix_takes (47 ∷ 62 ∷ []) bytes rest is)

pub print_tag-append : (t : WrittenTag) (rest : List ℕ) → print_tag t ++ rest ≡ 60 ∷ (t.name ++ (flat_map print_attribute t.attributes ++ (t.blanks ++ (print_tag_end t.closed ++ rest))))
print_tag-append t rest = regroup t.name (flat_map print_attribute t.attributes) t.blanks (print_tag_end t.closed) rest
  where
    regroup : (name attributes blanks last rest : List ℕ) → (60 ∷ (name ++ (attributes ++ (blanks ++ last)))) ++ rest ≡ 60 ∷ (name ++ (attributes ++ (blanks ++ (last ++ rest))))
    regroup name attributes blanks last rest = simp append_assoc

start_takes : (bytes : List ℕ) (x : Item × List ℕ) → start_at bytes ≡ Some x → ItemTaken (60 ∷ bytes) x
unfolding start_at IsItem print_item meaning
start_takes bytes x e =
    bind_some (run_at is_name_byte bytes) (λ name. tag_end_at (skip is_blank (attributes_at name.1).1) >>= λ last. Some (start (record { name = name.0; attributes = (attributes_at name.1).0; closed = last.0 }), last.1)) x e λ name e0 f0.
    bind_some (tag_end_at (skip is_blank (attributes_at name.1).1)) (λ last. Some (start (record { name = name.0; attributes = (attributes_at name.1).0; closed = last.0 }), last.1)) x f0 λ last e1 f1.
    let t0 = run_takes is_name_byte bytes name e0 in
    let some = attributes_take name.1 in
    let behind_them : List ℕ = (attributes_at name.1).1 in
    let t : WrittenTag = record { name = name.0; attributes = some.parts; blanks = take_while is_blank behind_them; closed = last.0 } in
    let ends : behind_them ≡ t.blanks ++ (print_tag_end t.closed ++ last.1) = onto behind_them t.blanks (skip is_blank behind_them) (print_tag_end t.closed ++ last.1) (run_whole is_blank behind_them) (tag_end_takes (skip is_blank behind_them) last e1) in
    let attributes : name.1 ≡ flat_map print_attribute t.attributes ++ (t.blanks ++ (print_tag_end t.closed ++ last.1)) = onto name.1 (flat_map print_attribute t.attributes) behind_them (t.blanks ++ (print_tag_end t.closed ++ last.1)) some.whole ends in
    let whole : bytes ≡ t.name ++ (flat_map print_attribute t.attributes ++ (t.blanks ++ (print_tag_end t.closed ++ last.1))) = onto bytes t.name name.1 (flat_map print_attribute t.attributes ++ (t.blanks ++ (print_tag_end t.closed ++ last.1))) t0.0 attributes in
    let grouped : print_tag t ++ last.1 ≡ 60 ∷ (t.name ++ (flat_map print_attribute t.attributes ++ (t.blanks ++ (print_tag_end t.closed ++ last.1)))) = print_tag-append t last.1 in
    let is : IsTag t = record { name = t0.1; attributes = some.each; blanks = run_passes is_blank behind_them } in
    let means : start (record { name = t.name; attributes = map written t.attributes; closed = t.closed }) ≡ start (record { name = name.0; attributes = (attributes_at name.1).0; closed = last.0 }) = ap (λ (all : List Written). start (record { name = name.0; attributes = all; closed = last.0 })) some.means in
    subst (λ (y : Item × List ℕ). ItemTaken (60 ∷ bytes) y) (same_Some (start (record { name = name.0; attributes = (attributes_at name.1).0; closed = last.0 }), last.1) x f1)
    (start_tag t, is, means, ap (λ (r : List ℕ). 60 ∷ r) whole ∙ sym grouped)

finish_takes : (bytes : List ℕ) (x : Item × List ℕ) → finish_at bytes ≡ Some x → ItemTaken (60 ∷ 47 ∷ bytes) x
unfolding finish_at IsItem print_item meaning
finish_takes bytes x e =
    bind_some (run_at is_name_byte bytes) (λ name. strip_prefix (62 ∷ []) (skip is_blank name.1) >>= λ rest. Some (finish name.0, rest)) x e λ name e0 f0.
    bind_some (strip_prefix (62 ∷ []) (skip is_blank name.1)) (λ rest. Some (finish name.0, rest)) x f0 λ rest e1 f1.
    let t0 = run_takes is_name_byte bytes name e0 in
    let blanks : List ℕ = take_while is_blank name.1 in
    let ends : name.1 ≡ blanks ++ 62 ∷ rest = onto name.1 blanks (skip is_blank name.1) (62 ∷ rest) (run_whole is_blank name.1) (strip_prefix_takes (62 ∷ []) (skip is_blank name.1) rest e1) in
    let whole : bytes ≡ name.0 ++ (blanks ++ 62 ∷ rest) = onto bytes name.0 name.1 (blanks ++ 62 ∷ rest) t0.0 ends in
    let grouped : (name.0 ++ (blanks ++ 62 ∷ [])) ++ rest ≡ name.0 ++ (blanks ++ 62 ∷ rest) = three name.0 blanks (62 ∷ []) rest in
    subst (λ (y : Item × List ℕ). ItemTaken (60 ∷ 47 ∷ bytes) y) (same_Some (finish name.0, rest) x f1)
    (end_tag name.0 blanks, (t0.1, run_passes is_blank name.1), refl, ap (λ (r : List ℕ). 60 ∷ 47 ∷ r) (whole ∙ sym grouped))

-- ---- comments

dashes_take : (bytes : List ℕ) (x : List ℕ × List ℕ) → dashes_at bytes ≡ Some x → IsRemark x.0 × (bytes ≡ x.0 ++ 45 ∷ 45 ∷ x.1)
unfolding dashes_at
dashes_take [] x e = absurd cc
dashes_take (b ∷ bytes) x e = here (strip_prefix (45 ∷ 45 ∷ []) (b ∷ bytes)) refl (dashes_take bytes) e
  where
    -- two dashes don't occur here, so a comment with one more byte contains none
    one_more : (t r : List ℕ) → strip_prefix (45 ∷ 45 ∷ []) (b ∷ (t ++ 45 ∷ 45 ∷ r)) ≡ None → IsRemark t → IsRemark (b ∷ t)
    one_more [] r none is = λ b-is. (let found = strip_prefix_again (45 ∷ 45 ∷ []) (45 ∷ r) in let here : strip_prefix (45 ∷ 45 ∷ []) (45 ∷ 45 ∷ 45 ∷ r) ≡ None = subst (λ (y : ℕ). strip_prefix (45 ∷ 45 ∷ []) (y ∷ 45 ∷ 45 ∷ r) ≡ None) b-is none in cc)
    one_more (c ∷ t) r none is = (
      λ both. let found = strip_prefix_again (45 ∷ 45 ∷ []) (t ++ 45 ∷ 45 ∷ r) in let front : b ∷ c ∷ (t ++ 45 ∷ 45 ∷ r) ≡ 45 ∷ 45 ∷ (t ++ 45 ∷ 45 ∷ r) = cc in let here : strip_prefix (45 ∷ 45 ∷ []) (45 ∷ 45 ∷ (t ++ 45 ∷ 45 ∷ r)) ≡ None = subst (λ (y : List ℕ). strip_prefix (45 ∷ 45 ∷ []) y ≡ None) front none in cc,
      is,
    )

    later : (o : Option (List ℕ × List ℕ)) → dashes_at bytes ≡ o → ((cut : List ℕ × List ℕ) → dashes_at bytes ≡ Some cut → IsRemark cut.0 × (bytes ≡ cut.0 ++ 45 ∷ 45 ∷ cut.1)) → strip_prefix (45 ∷ 45 ∷ []) (b ∷ bytes) ≡ None → option_map (λ cut. (b ∷ cut.0, cut.1)) o ≡ Some x → IsRemark x.0 × (b ∷ bytes ≡ x.0 ++ 45 ∷ 45 ∷ x.1)
    later None is inner none e = absurd cc
    later (Some cut) is taken none e =
        let inner = taken cut is in
        let no_dashes : strip_prefix (45 ∷ 45 ∷ []) (b ∷ (cut.0 ++ 45 ∷ 45 ∷ cut.1)) ≡ None = subst (λ (y : List ℕ). strip_prefix (45 ∷ 45 ∷ []) (b ∷ y) ≡ None) inner.1 none in
        subst (λ (y : List ℕ × List ℕ). IsRemark y.0 × (b ∷ bytes ≡ y.0 ++ 45 ∷ 45 ∷ y.1)) (same_Some (b ∷ cut.0, cut.1) x e)
        (one_more cut.0 cut.1 no_dashes inner.0, ap (λ (r : List ℕ). b ∷ r) inner.1)

    here : (o : Option (List ℕ)) → strip_prefix (45 ∷ 45 ∷ []) (b ∷ bytes) ≡ o → ((cut : List ℕ × List ℕ) → dashes_at bytes ≡ Some cut → IsRemark cut.0 × (bytes ≡ cut.0 ++ 45 ∷ 45 ∷ cut.1)) → elim o [ Some rest ↦ Some ([], rest) | None ↦ option_map (λ cut. (b ∷ cut.0, cut.1)) (dashes_at bytes) ] ≡ Some x → IsRemark x.0 × (b ∷ bytes ≡ x.0 ++ 45 ∷ 45 ∷ x.1)
    here (Some rest) is taken e = subst (λ (y : List ℕ × List ℕ). IsRemark y.0 × (b ∷ bytes ≡ y.0 ++ 45 ∷ 45 ∷ y.1)) (same_Some ([], rest) x e) (tt, strip_prefix_takes (45 ∷ 45 ∷ []) (b ∷ bytes) rest is)
    here None is taken e = later (dashes_at bytes) refl taken is e

comment_takes : (bytes : List ℕ) (x : Item × List ℕ) → comment_at bytes ≡ Some x → ItemTaken (60 ∷ 33 ∷ bytes) x
unfolding comment_at IsItem print_item meaning
comment_takes bytes x e =
    bind_some (strip_prefix (45 ∷ 45 ∷ []) bytes) (λ text. dashes_at text >>= λ cut. strip_prefix (62 ∷ []) cut.1 >>= λ rest. Some (comment cut.0, rest)) x e λ front e0 f0.
    bind_some (dashes_at front) (λ cut. strip_prefix (62 ∷ []) cut.1 >>= λ rest. Some (comment cut.0, rest)) x f0 λ cut e1 f1.
    bind_some (strip_prefix (62 ∷ []) cut.1) (λ rest. Some (comment cut.0, rest)) x f1 λ rest e2 f2.
    let t0 = strip_prefix_takes (45 ∷ 45 ∷ []) bytes front e0 in
    let t1 = dashes_take front cut e1 in
    let t2 = strip_prefix_takes (62 ∷ []) cut.1 rest e2 in
    let whole : front ≡ cut.0 ++ 45 ∷ 45 ∷ 62 ∷ rest = t1.1 ∙ ap (λ (r : List ℕ). cut.0 ++ 45 ∷ 45 ∷ r) t2 in
    let grouped : (cut.0 ++ 45 ∷ 45 ∷ 62 ∷ []) ++ rest ≡ cut.0 ++ 45 ∷ 45 ∷ 62 ∷ rest = append_assoc cut.0 (45 ∷ 45 ∷ 62 ∷ []) rest in
    subst (λ (y : Item × List ℕ). ItemTaken (60 ∷ 33 ∷ bytes) y) (same_Some (comment cut.0, rest) x f2)
    (remark cut.0, t1.0, refl, ap (λ (r : List ℕ). 60 ∷ 33 ∷ r) (t0 ∙ ap (λ (r : List ℕ). 45 ∷ 45 ∷ r) (whole ∙ sym grouped)))

-- ---- declarations

declaration_takes : (bytes : List ℕ) (x : Item × List ℕ) → declaration_at bytes ≡ Some x → ItemTaken (60 ∷ 63 ∷ bytes) x
unfolding declaration_at IsItem print_item meaning
declaration_takes bytes x e =
    bind_some (strip_prefix (120 ∷ 109 ∷ 108 ∷ []) bytes) (λ parts. strip_prefix (63 ∷ 62 ∷ []) (skip is_blank (attributes_at parts).1) >>= λ rest. cond (declares (attributes_at parts).0) (Some (declaration, rest)) None) x e λ front e0 f0.
    bind_some (strip_prefix (63 ∷ 62 ∷ []) (skip is_blank (attributes_at front).1)) (λ rest. cond (declares (attributes_at front).0) (Some (declaration, rest)) None) x f0 λ rest e1 f1.
    let t0 = strip_prefix_takes (120 ∷ 109 ∷ 108 ∷ []) bytes front e0 in
    let some = attributes_take front in
    let behind_them : List ℕ = (attributes_at front).1 in
    let blanks : List ℕ = take_while is_blank behind_them in
    let says = cond_some (declares (attributes_at front).0) (declaration, rest) x f1 in
    let ends : behind_them ≡ blanks ++ 63 ∷ 62 ∷ rest = onto behind_them blanks (skip is_blank behind_them) (63 ∷ 62 ∷ rest) (run_whole is_blank behind_them) (strip_prefix_takes (63 ∷ 62 ∷ []) (skip is_blank behind_them) rest e1) in
    let whole : front ≡ flat_map print_attribute some.parts ++ (blanks ++ 63 ∷ 62 ∷ rest) = onto front (flat_map print_attribute some.parts) behind_them (blanks ++ 63 ∷ 62 ∷ rest) some.whole ends in
    let grouped : (flat_map print_attribute some.parts ++ (blanks ++ 63 ∷ 62 ∷ [])) ++ rest ≡ flat_map print_attribute some.parts ++ (blanks ++ 63 ∷ 62 ∷ rest) = three (flat_map print_attribute some.parts) blanks (63 ∷ 62 ∷ []) rest in
    let declared : declares (map written some.parts) ≡ true = rw some.means says.0 in
    subst (λ (y : Item × List ℕ). ItemTaken (60 ∷ 63 ∷ bytes) y) says.1
    (xml_declaration some.parts blanks, (some.each, declared, run_passes is_blank behind_them), refl, ap (λ (r : List ℕ). 60 ∷ 63 ∷ r) (t0 ∙ ap (λ (r : List ℕ). 120 ∷ 109 ∷ 108 ∷ r) (whole ∙ sym grouped)))

-- ---- any item

markup_takes : (bytes : List ℕ) (x : Item × List ℕ) → markup_at bytes ≡ Some x → ItemTaken (60 ∷ bytes) x
unfolding markup_at
markup_takes [] x e = absurd cc
markup_takes (b ∷ bytes) x e = elim (cases_Bool (b == 47)) [
  | inl is ↦ rw (eqb-true b 47 is) (finish_takes bytes x (rw is at e))
  | inr not_slash ↦ elim (cases_Bool (b == 33)) [
    | inl is ↦ rw (eqb-true b 33 is) (comment_takes bytes x (rw (not_slash, is) at e))
    | inr not_bang ↦ elim (cases_Bool (b == 63)) [
      | inl is ↦ rw (eqb-true b 63 is) (declaration_takes bytes x (rw (not_slash, not_bang, is) at e))
      | inr not_question ↦ start_takes (b ∷ bytes) x (rw (not_slash, not_bang, not_question) at e)
    ]
  ]
]

text_takes : (b : ℕ) (bytes : List ℕ) → (b == 60) ≡ false → ItemTaken (b ∷ bytes) (run (take_while is_text_byte (b ∷ bytes)), skip is_text_byte (b ∷ bytes))
unfolding IsItem print_item meaning
text_takes b bytes other =
    let some : IsSome is_text_byte (take_while is_text_byte (b ∷ bytes)) = some_run is_text_byte b bytes (rw other refl) in
    (text (take_while is_text_byte (b ∷ bytes)), (some, run_stops is_text_byte (b ∷ bytes)), refl, run_whole is_text_byte (b ∷ bytes))

-- an item that is cut was written there
pub item_taken : (bytes : List ℕ) (x : Item × List ℕ) → item_at bytes ≡ Some x → ItemTaken bytes x
unfolding item_at
item_taken [] x e = absurd cc
item_taken (b ∷ bytes) x e = elim (cases_Bool (b == 60)) [
  | inl is ↦ rw (eqb-true b 60 is) (markup_takes bytes x (rw is at e))
  | inr other ↦ subst (λ (y : Item × List ℕ). ItemTaken (b ∷ bytes) y) (same_Some (run (take_while is_text_byte (b ∷ bytes)), skip is_text_byte (b ∷ bytes)) x (sym (cond-false (b == 60) (markup_at bytes) (Some (run (take_while is_text_byte (b ∷ bytes)), skip is_text_byte (b ∷ bytes))) other) ∙ e)) (text_takes b bytes other)
]
