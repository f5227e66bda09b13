-- A media type that is read was written there.
use Rattle.std.proofs.Common.{◌≡◌, ◌<◌, ℕ, zero, suc, true, false, List, [], ◌∷◌, ◌++◌, length, map, Option, Some, None, option_map, All, refl, sym, ap, subst, ◌∙◌, inl, inr, append_assoc, length-append, arith, ◌==◌}
use Rattle.std.specs.Prelude.{IsTrue}
use Rattle.std.specs.List.{list_all, take_while, flat_map}
use Rattle.std.proofs.lemmas.Bool.{eqb-true, eqb-false, cases_Bool}
use Rattle.std.proofs.lemmas.Option.{same_Some, cond_some}
use Rattle.std.proofs.lemmas.List.Elements.{All-nil, All-cons}
use Rattle.byte_forms.specs.Classes.{is_space}
use Rattle.byte_forms.specs.Cuts.{skip, run_at, strip_prefix}
use Rattle.byte_forms.proofs.CutLemmas.{bind_some, run_whole, run_passes, run_takes, strip_prefix_takes}
use Rattle.mime_fields.specs.MediaTypes.{Parameter, MediaType, is_token_byte, quoted_at, value_at, parameter_at, parameters_within, media_type_of}
use Rattle.mime_fields.specs.WrittenTypes.{QuotedByte, WrittenValue, token, quoted, WrittenParameter, WrittenType, quoted_text, value_text, parameter_text, type_text, value_meant, parameter_meant, type_meant, IsQuoted, IsValue, IsParameter, IsWritten, IsMediaType}

-- replaces the second of two parts by an equal one
onto : (bytes front middle rest : List ℕ) → bytes ≡ front ++ middle → middle ≡ rest → bytes ≡ front ++ rest
onto bytes front middle rest e f = e ∙ ap (λ (r : List ℕ). front ++ r) f

-- ---- values

-- the bytes of a quoted string, up to its closing quote
record QuotedTaken (bytes : List ℕ) (x : List ℕ × List ℕ) : Type 0 where
  parts : List QuotedByte
  each : All IsQuoted parts
  means : map (λ q. q.byte) parts ≡ x.0
  whole : bytes ≡ flat_map quoted_text parts ++ (34 ∷ x.1)

none_quoted : (bytes : List ℕ) → QuotedTaken (34 ∷ bytes) ([], bytes)
none_quoted bytes = record { parts = []; each = All-nil IsQuoted; means = refl; whole = refl }

one_quoted : (q : QuotedByte) (bytes : List ℕ) (o : Option (List ℕ × List ℕ)) (x : List ℕ × List ℕ) → IsQuoted q → ((y : List ℕ × List ℕ) → o ≡ Some y → QuotedTaken bytes y) → option_map (λ more. (q.byte ∷ more.0, more.1)) o ≡ Some x → QuotedTaken (quoted_text q ++ bytes) x
one_quoted q bytes None x is taken e = absurd cc
one_quoted q bytes (Some y) x is taken e =
    let others = taken y refl in
    subst (λ (z : List ℕ × List ℕ). QuotedTaken (quoted_text q ++ bytes) z) (same_Some (q.byte ∷ y.0, y.1) x e) (record {
      parts = q ∷ others.parts;
      each = All-cons IsQuoted q others.parts is others.each;
      means = ap (λ (r : List ℕ). q.byte ∷ r) others.means;
      whole = ap (λ (r : List ℕ). quoted_text q ++ r) others.whole ∙ sym (append_assoc (quoted_text q) (flat_map quoted_text others.parts) (34 ∷ y.1));
    })

quoted_takes : (bytes : List ℕ) (x : List ℕ × List ℕ) → quoted_at bytes ≡ Some x → QuotedTaken bytes x
unfolding quoted_at
quoted_takes [] x e = absurd cc
quoted_takes (b ∷ []) x e =
    let cut = cond_some (b == 34) ([], []) x e in
    rw (eqb-true b 34 cut.0) (subst (λ (z : List ℕ × List ℕ). QuotedTaken (34 ∷ []) z) cut.1 (none_quoted []))
quoted_takes (b ∷ c ∷ bytes) x e = elim (cases_Bool (b == 34)) [
  | inl quote ↦ rw (eqb-true b 34 quote) (subst (λ (z : List ℕ × List ℕ). QuotedTaken (34 ∷ c ∷ bytes) z) (same_Some ([], c ∷ bytes) x (rw quote at e)) (none_quoted (c ∷ bytes)))
  | inr no_quote ↦ elim (cases_Bool (b == 92)) [
    | inl slash ↦ rw (eqb-true b 92 slash) (one_quoted (record { escaped = true; byte = c }) bytes (quoted_at bytes) x (inl refl) (quoted_takes bytes) (rw (no_quote, slash) at e))
    | inr no_slash ↦ one_quoted (record { escaped = false; byte = b }) (c ∷ bytes) (quoted_at (c ∷ bytes)) x (inr (eqb-false b 34 no_quote, eqb-false b 92 no_slash)) (quoted_takes (c ∷ bytes)) (rw (no_quote, no_slash) at e)
  ]
]

record ValueTaken (bytes : List ℕ) (x : List ℕ × List ℕ) : Type 0 where
  written : WrittenValue
  is : IsValue written
  means : value_meant written ≡ x.0
  whole : bytes ≡ value_text written ++ x.1

quoted_value : (bytes : List ℕ) (x : List ℕ × List ℕ) → QuotedTaken bytes x → ValueTaken (34 ∷ bytes) x
quoted_value bytes x taken = record {
  written = quoted taken.parts;
  is = taken.each;
  means = taken.means;
  whole = ap (λ (r : List ℕ). 34 ∷ r) (taken.whole ∙ sym (append_assoc (flat_map quoted_text taken.parts) (34 ∷ []) x.1));
}

value_takes : (bytes : List ℕ) (x : List ℕ × List ℕ) → value_at bytes ≡ Some x → ValueTaken bytes x
unfolding value_at
value_takes [] x e = absurd cc
value_takes (b ∷ bytes) x e = elim (cases_Bool (b == 34)) [
  | inl quote ↦ subst (λ (y : ℕ). ValueTaken (y ∷ bytes) x) (sym (eqb-true b 34 quote)) (quoted_value bytes x (quoted_takes bytes x (rw quote at e)))
  | inr other ↦
      let taken = run_takes is_token_byte (b ∷ bytes) x (rw other at e) in
      record { written = token x.0; is = taken.1; means = refl; whole = taken.0 }
]

-- ---- parameters

pub parameter_text-append : (p : WrittenParameter) (rest : List ℕ) → parameter_text p ++ rest ≡ p.before ++ (59 ∷ (p.after ++ (p.name ++ (61 ∷ (value_text p.value ++ rest)))))
parameter_text-append p rest = regroup p.before p.after p.name (value_text p.value) rest
  where
    cons-append : (b : ℕ) (xs ys : List ℕ) → (b ∷ xs) ++ ys ≡ b ∷ (xs ++ ys)
    cons-append b xs ys = refl

    regroup : (before after name value rest : List ℕ) → (before ++ (59 ∷ (after ++ (name ++ (61 ∷ value))))) ++ rest ≡ before ++ (59 ∷ (after ++ (name ++ (61 ∷ (value ++ rest)))))
    regroup before after name value rest = simp (append_assoc, cons-append)

pub length-parameter_text : (p : WrittenParameter) → 0 < length (parameter_text p)
length-parameter_text p = omega (arith, length-append p.before (59 ∷ (p.after ++ (p.name ++ (61 ∷ value_text p.value)))))

pub record ParameterTaken (bytes : List ℕ) (x : Parameter × List ℕ) : Type 0 where
  pub written : WrittenParameter
  pub is : IsParameter written
  pub means : parameter_meant written ≡ x.0
  pub whole : bytes ≡ parameter_text written ++ x.1

pub parameter_takes : (bytes : List ℕ) (x : Parameter × List ℕ) → parameter_at bytes ≡ Some x → ParameterTaken bytes x
unfolding parameter_at
parameter_takes bytes x e =
    bind_some (strip_prefix (59 ∷ []) (skip is_space bytes)) _ x e λ rest e0 f0.
    bind_some (run_at is_token_byte (skip is_space rest)) _ x f0 λ name e1 f1.
    bind_some (strip_prefix (61 ∷ []) name.1) _ x f1 λ valued e2 f2.
    bind_some (value_at valued) _ x f2 λ value e3 f3.
    let t0 = strip_prefix_takes (59 ∷ []) (skip is_space bytes) rest e0 in
    let t1 = run_takes is_token_byte (skip is_space rest) name e1 in
    let t2 = strip_prefix_takes (61 ∷ []) name.1 valued e2 in
    let t3 = value_takes valued value e3 in
    let p : WrittenParameter = record { before = take_while is_space bytes; after = take_while is_space rest; name = name.0; value = t3.written } in
    let last : name.1 ≡ 61 ∷ (value_text p.value ++ value.1) = t2 ∙ ap (λ (r : List ℕ). 61 ∷ r) t3.whole in
    let named : skip is_space rest ≡ p.name ++ (61 ∷ (value_text p.value ++ value.1)) = onto (skip is_space rest) p.name name.1 (61 ∷ (value_text p.value ++ value.1)) t1.0 last in
    let after : rest ≡ p.after ++ (p.name ++ (61 ∷ (value_text p.value ++ value.1))) = onto rest p.after (skip is_space rest) (p.name ++ (61 ∷ (value_text p.value ++ value.1))) (run_whole is_space rest) named in
    let before : skip is_space bytes ≡ 59 ∷ (p.after ++ (p.name ++ (61 ∷ (value_text p.value ++ value.1)))) = t0 ∙ ap (λ (r : List ℕ). 59 ∷ r) after in
    let whole : bytes ≡ p.before ++ (59 ∷ (p.after ++ (p.name ++ (61 ∷ (value_text p.value ++ value.1))))) = onto bytes p.before (skip is_space bytes) (59 ∷ (p.after ++ (p.name ++ (61 ∷ (value_text p.value ++ value.1))))) (run_whole is_space bytes) before in
    let is : IsParameter p = record { before = run_passes is_space bytes; after = run_passes is_space rest; name = t1.1; value = t3.is } in
    let made : Parameter = record { name = name.0; value = value.0 } in
    let means : parameter_meant p ≡ made = ap (λ (v : List ℕ). let q : Parameter = record { name = name.0; value = v } in q) t3.means in
    subst (λ (y : Parameter × List ℕ). ParameterTaken bytes y) (same_Some (made, value.1) x f3)
    (record { written = p; is = is; means = means; whole = whole ∙ sym (parameter_text-append p value.1) })

record ParametersTaken (bytes : List ℕ) (parameters : List Parameter) : Type 0 where
  written : List WrittenParameter
  after : List ℕ
  each : All IsParameter written
  blank : IsTrue (list_all is_space after)
  means : map parameter_meant written ≡ parameters
  whole : bytes ≡ flat_map parameter_text written ++ after

one_more : (bytes : List ℕ) (first : Parameter × List ℕ) (others : List Parameter) → ParameterTaken bytes first → ParametersTaken first.1 others → ParametersTaken bytes (first.0 ∷ others)
one_more bytes first others one more = record {
  written = one.written ∷ more.written;
  after = more.after;
  each = All-cons IsParameter one.written more.written one.is more.each;
  blank = more.blank;
  means = cc (one.means, more.means);
  whole = onto bytes (parameter_text one.written) first.1 (flat_map parameter_text more.written ++ more.after) one.whole more.whole ∙ sym (append_assoc (parameter_text one.written) (flat_map parameter_text more.written) more.after);
}

none_more : (bytes : List ℕ) → list_all is_space bytes ≡ true → ParametersTaken bytes []
none_more bytes blank = record { written = []; after = bytes; each = All-nil IsParameter; blank = blank; means = refl; whole = refl }

parameters_take : (n : ℕ) (bytes : List ℕ) (parameters : List Parameter) → parameters_within n bytes ≡ Some parameters → ParametersTaken bytes parameters
unfolding parameters_within
parameters_take zero bytes parameters e =
    let cut = cond_some (list_all is_space bytes) [] parameters e in
    subst (λ (all : List Parameter). ParametersTaken bytes all) cut.1 (none_more bytes cut.0)
parameters_take (suc n) bytes parameters e = elim (cases_Bool (list_all is_space bytes)) [
  | inl blank ↦ subst (λ (all : List Parameter). ParametersTaken bytes all) (same_Some [] parameters (rw blank at e)) (none_more bytes blank)
  | inr more ↦
      bind_some (parameter_at bytes) (λ first. option_map (λ others. first.0 ∷ others) (parameters_within n first.1)) parameters (rw more at e) λ first e0 f0.
      behind_first first (parameter_takes bytes first e0) (parameters_within n first.1) (parameters_take n first.1) f0
]
  where
    behind_first : (first : Parameter × List ℕ) → ParameterTaken bytes first → (o : Option (List Parameter)) → ((others : List Parameter) → o ≡ Some others → ParametersTaken first.1 others) → option_map (λ others. first.0 ∷ others) o ≡ Some parameters → ParametersTaken bytes parameters
    behind_first first taken None all e = absurd cc
    behind_first first taken (Some others) all e =
        subst (λ (ps : List Parameter). ParametersTaken bytes ps) (same_Some (first.0 ∷ others) parameters e) (one_more bytes first others taken (all others refl))

-- ---- media types

-- a media type that is read was written there
pub type_takes : (text : List ℕ) (m : MediaType) → media_type_of text ≡ Some m → IsMediaType text m
unfolding media_type_of
type_takes text m e =
    bind_some (run_at is_token_byte (skip is_space text)) _ m e λ kind e0 f0.
    bind_some (strip_prefix (47 ∷ []) kind.1) _ m f0 λ rest e1 f1.
    bind_some (run_at is_token_byte rest) _ m f1 λ subkind e2 f2.
    bind_some (parameters_within (length text) subkind.1) _ m f2 λ parameters e3 f3.
    let t0 = run_takes is_token_byte (skip is_space text) kind e0 in
    let t1 = strip_prefix_takes (47 ∷ []) kind.1 rest e1 in
    let t2 = run_takes is_token_byte rest subkind e2 in
    let t3 = parameters_take (length text) subkind.1 parameters e3 in
    let w : WrittenType = record { before = take_while is_space text; kind = kind.0; subkind = subkind.0; parameters = t3.written; after = t3.after } in
    let last : List ℕ = flat_map parameter_text w.parameters ++ w.after in
    let subkinded : rest ≡ w.subkind ++ (flat_map parameter_text w.parameters ++ w.after) = onto rest w.subkind subkind.1 (flat_map parameter_text w.parameters ++ w.after) t2.0 t3.whole in
    let slashed : kind.1 ≡ 47 ∷ (w.subkind ++ (flat_map parameter_text w.parameters ++ w.after)) = t1 ∙ ap (λ (r : List ℕ). 47 ∷ r) subkinded in
    let kinded : skip is_space text ≡ w.kind ++ (47 ∷ (w.subkind ++ (flat_map parameter_text w.parameters ++ w.after))) = onto (skip is_space text) w.kind kind.1 (47 ∷ (w.subkind ++ (flat_map parameter_text w.parameters ++ w.after))) t0.0 slashed in
    let whole : text ≡ type_text w = onto text w.before (skip is_space text) (w.kind ++ (47 ∷ (w.subkind ++ (flat_map parameter_text w.parameters ++ w.after)))) (run_whole is_space text) kinded in
    let is : IsWritten w = record { before = run_passes is_space text; kind = t0.1; subkind = t2.1; parameters = t3.each; after = t3.blank } in
    let made : MediaType = record { kind = kind.0; subkind = subkind.0; parameters = parameters } in
    let means : type_meant w ≡ made = ap (λ (ps : List Parameter). let n : MediaType = record { kind = kind.0; subkind = subkind.0; parameters = ps } in n) t3.means in
    record { written = w; is = is; text_is = whole; means = means ∙ same_Some made m f3 }
