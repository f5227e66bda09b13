-- How long the fold of an end is at most, from the bytes of the records that led to it: a submission that was carried over
-- takes at most 92 bytes more than when it was handed in, a message at most 15 more than when it came.
use Rattle.std.proofs.Common.{◌≡◌, ℕ, zero, suc, ◌+◌, ◌*◌, ◌≤◌, List, [], ◌∷◌, ◌++◌, length, length-append, take, drop, map, refl, sym, ap, subst, arith, take-append-drop}
use Rattle.std.specs.Prelude.{◌==◌, if◌then◌else◌, Bool, true, false}
use Rattle.std.specs.List.{flat_map, sum_by}
use Rattle.std.proofs.lemmas.List.Sums.{sum_by-append, sum_by-cons}
use Rattle.as4_effects.specs.Bodies.{header_body, list_body, number_body, part_body, payload_body, route_body, text_body}
use Rattle.as4_effects.specs.Effects.{effect_body, effects_body, submission_body}
use Rattle.as4_effects.specs.Marks.{mark_body}
use Rattle.as4_effects.specs.Sound.{delivered_body}
use Rattle.as4_effects.specs.declared.effect.Effect.{Effect}
use Rattle.as4_effects.specs.declared.effect.Effect.TheVariants as effect
use Rattle.as4_effects.specs.declared.mark.Mark.{Mark}
use Rattle.as4_effects.specs.declared.mark.Mark.TheVariants as mark
use Rattle.as4_effects.specs.declared.submission.Submission.{Submission}
use Rattle.as4_effects.proofs.LengthLemmas.{number_length}
use Rattle.as4_values.specs.declared.header.UserHeader.{UserHeader}
use Rattle.as4_values.specs.declared.payload.Payload.{Payload}
use Rattle.byte_forms.specs.Forms.{Each}
use Rattle.event_code.proofs.BodyLemmas.{standing_length}
use Rattle.event_code.specs.Spelled.{AreSpelled, IsSpelledCarried, IsSpelledEffect, IsSpelledMark}
use Rattle.exchange_model.specs.Apply.{after, after_all, applied, as_carried, changed, emptied, failed_if_spent, marked, tried, unsent}
use Rattle.exchange_model.specs.End.{End, empty_end}
use Rattle.exchange_model.specs.Fold.{IsFolded, IsFoldedSize, folded_size}
use Rattle.exchange_model.specs.Questions.{is_spent}
use Rattle.exchange_model.specs.declared.inbox_entry.InboxEntry.{InboxEntry}
use Rattle.exchange_model.specs.declared.sent.Sent.{Sent}
use Rattle.msh_core.proofs.FoldSizeLemmas.{whole_size}
use Rattle.msh_core.specs.Folding.{carried_len, clock_len, delivered_len, kept_len}
use Rattle.msh_recovery.specs.Records.{RecordsLead}

-- ---- lengths

behind_some : (n : ℕ) (xs ys : List ℕ) → n ≤ length ys → n ≤ length (xs ++ ys)
behind_some n xs ys some = omega (arith, some, length-append xs ys)

header_some : (h : UserHeader) → 4 ≤ length (header_body h)
unfolding header_body
header_some h =
    behind_some 4 _ (list_body part_body h.parts)
    (omega (arith, length-append (number_body 4 (length h.parts)) (flat_map part_body h.parts), number_length 4 (length h.parts)))

loads_some : (payloads : List Payload) → 4 ≤ length (list_body payload_body payloads)
loads_some payloads = omega (arith, length-append (number_body 4 (length payloads)) (flat_map payload_body payloads), number_length 4 (length payloads))

submission_some : (s : Submission) → 31 ≤ length (submission_body s)
submission_some s =
    let a = number_body 8 s.number in
    let b = header_body s.header in
    let c = list_body payload_body s.payloads in
    let d = route_body s.route in
    let e = number_body 4 s.retries in
    let f = number_body 8 s.period in
    let g = number_body 8 s.moment in
    omega (
      arith,
      length-append (a ++ b ++ c ++ d ++ e ++ f) g,
      length-append (a ++ b ++ c ++ d ++ e) f,
      length-append (a ++ b ++ c ++ d) e,
      length-append (a ++ b ++ c) d,
      length-append (a ++ b) c,
      length-append a b,
      number_length 8 s.number,
      number_length 4 s.retries,
      number_length 8 s.period,
      number_length 8 s.moment,
      header_some s.header,
      loads_some s.payloads,
    )

delivered_length : (h : UserHeader) (payloads : List Payload) → length (delivered_body h payloads) ≡ 1 + length (header_body h) + length (list_body payload_body payloads)
delivered_length h payloads = omega (arith, length-append (header_body h) (list_body payload_body payloads))

none_length : length (list_body payload_body []) ≡ 4
none_length = omega (arith, length-append (number_body 4 0) [], number_length 4 0)

-- ---- the bound

abbrev sent_bound : Sent → ℕ
sent_bound s = length (submission_body s.submission) + 92

abbrev entry_bound : InboxEntry → ℕ
entry_bound entry = length (delivered_body entry.header entry.payloads) + 11

abbrev bound : End → ℕ
bound end = sum_by sent_bound end.sent + sum_by entry_bound end.inbox

one_more : {X : Type 0} (f : X → ℕ) (xs : List X) (x : X) → sum_by f (xs ++ x ∷ []) ≡ sum_by f xs + f x
one_more f xs x =
    let all : sum_by f (xs ++ x ∷ []) ≡ sum_by f xs + sum_by f (x ∷ []) = sum_by-append f xs (x ∷ []) in
    let last : sum_by f (x ∷ []) ≡ f x + sum_by f [] = sum_by-cons f x [] in
    omega (arith, all, last)

-- a change that leaves each submission
same_bound : (change : Sent → Sent) → ((s : Sent) → (change s).submission ≡ s.submission) → (sent : List Sent) → sum_by sent_bound (map change sent) ≡ sum_by sent_bound sent
same_bound change same [] = refl
same_bound change same (s ∷ sent) =
    let a : sum_by sent_bound (map change (s ∷ sent)) ≡ sent_bound (change s) + sum_by sent_bound (map change sent) = sum_by-cons sent_bound (change s) (map change sent) in
    let b : sum_by sent_bound (s ∷ sent) ≡ sent_bound s + sum_by sent_bound sent = sum_by-cons sent_bound s sent in
    let first : sent_bound (change s) ≡ sent_bound s = ap (λ (t : Submission). length (submission_body t) + 92) (same s) in
    omega (arith, a, b, first, same_bound change same sent)

failed_same : (moment : ℕ) (s : Sent) → (failed_if_spent moment s).submission ≡ s.submission
failed_same moment s = by_test (is_spent moment s)
  where
    by_test : (spent : Bool) → (if spent then marked mark.Failed s else s).submission ≡ s.submission
    by_test true = refl
    by_test false = refl

one_same : (number : ℕ) (change : Sent → Sent) → ((s : Sent) → (change s).submission ≡ s.submission) → (s : Sent) → (if s.submission.number == number then change s else s).submission ≡ s.submission
one_same number change same s = by_test (s.submission.number == number)
  where
    by_test : (is : Bool) → (if is then change s else s).submission ≡ s.submission
    by_test true = same s
    by_test false = refl

changed_bound : (number : ℕ) (change : Sent → Sent) → ((s : Sent) → (change s).submission ≡ s.submission) → (sent : List Sent) → sum_by sent_bound (changed number change sent) ≡ sum_by sent_bound sent
unfolding changed
changed_bound number change same sent = same_bound (λ s. if s.submission.number == number then change s else s) (one_same number change same) sent

abbrev without_loads : InboxEntry → InboxEntry
without_loads entry = record entry { payloads = [] }

emptied_less : (inbox : List InboxEntry) → sum_by entry_bound (map without_loads inbox) ≤ sum_by entry_bound inbox
emptied_less [] = omega arith
emptied_less (entry ∷ inbox) =
    let a : sum_by entry_bound (map without_loads (entry ∷ inbox)) ≡ entry_bound (without_loads entry) + sum_by entry_bound (map without_loads inbox) = sum_by-cons entry_bound (without_loads entry) (map without_loads inbox) in
    let b : sum_by entry_bound (entry ∷ inbox) ≡ entry_bound entry + sum_by entry_bound inbox = sum_by-cons entry_bound entry inbox in
    omega (arith, a, b, emptied_less inbox, delivered_length entry.header [], delivered_length entry.header entry.payloads, none_length, loads_some entry.payloads)

emptied_bound : (count : ℕ) (inbox : List InboxEntry) → sum_by entry_bound (emptied count inbox) ≤ sum_by entry_bound inbox
unfolding emptied
emptied_bound count inbox =
    let a : sum_by entry_bound (map without_loads (take count inbox) ++ drop count inbox) ≡ sum_by entry_bound (map without_loads (take count inbox)) + sum_by entry_bound (drop count inbox) = sum_by-append entry_bound (map without_loads (take count inbox)) (drop count inbox) in
    let b : sum_by entry_bound (take count inbox ++ drop count inbox) ≡ sum_by entry_bound (take count inbox) + sum_by entry_bound (drop count inbox) = sum_by-append entry_bound (take count inbox) (drop count inbox) in
    let whole : sum_by entry_bound (take count inbox ++ drop count inbox) ≡ sum_by entry_bound inbox = ap (sum_by entry_bound) (take-append-drop count inbox) in
    omega (arith, a, b, whole, emptied_less (take count inbox))

effect_bound : (e : Effect) (end : End) → bound (after e end) ≤ bound end + 4 * length (effect_body e)
unfolding after effect_body
effect_bound (effect.Submitted s) end = omega (arith, one_more sent_bound end.sent (unsent s), submission_some s)
effect_bound (effect.Ticked tick) end = omega (arith, same_bound (failed_if_spent tick.moment) (failed_same tick.moment) end.sent)
effect_bound (effect.Tried number) end = omega (arith, changed_bound number (tried end.moment) (λ s. refl) end.sent)
effect_bound (effect.Delivered d) end =
    omega (arith, one_more entry_bound end.inbox (record { header = d.header; payloads = d.payloads }), delivered_length d.header d.payloads, loads_some d.payloads)
effect_bound (effect.Receipted number) end = omega (arith, changed_bound number (marked mark.Receipted) (λ s. refl) end.sent)
effect_bound (effect.Refused number code) end = omega (arith, changed_bound number (marked (mark.Refused code)) (λ s. refl) end.sent)
effect_bound (effect.Confirmed upto) end = omega (arith, emptied_bound (upto + 1) end.inbox)
effect_bound (effect.Carried c) end =
    omega (arith, one_more sent_bound end.sent (as_carried c), submission_some c.submission, standing_length c)
effect_bound (effect.Kept k) end =
    omega (arith, one_more entry_bound end.inbox (record { header = k.header; payloads = [] }), delivered_length k.header [], none_length, header_some k.header)

effects_bound : (effects : List Effect) (end : End) → bound (after_all effects end) ≤ bound end + 4 * length (flat_map effect_body effects)
effects_bound [] end = omega arith
effects_bound (e ∷ effects) end =
    omega (arith, effect_bound e end, effects_bound effects (after e end), length-append (effect_body e) (flat_map effect_body effects))

applied_bound : (effects : List Effect) (end : End) → bound (applied effects end) ≤ bound end + 4 * length (effects_body effects)
unfolding applied effects_body
applied_bound [] end = omega arith
applied_bound (e ∷ effects) end =
    omega (arith, effects_bound (e ∷ effects) end, length-append (number_body 2 (length (e ∷ effects))) (flat_map effect_body (e ∷ effects)))

records_bound : (bodies : List (List ℕ)) (start end : End) → RecordsLead bodies start end → bound end ≤ bound start + 4 * sum_by length bodies
records_bound [] start end here = omega (arith, ap bound here)
records_bound (body ∷ bodies) start end ((next, (effects, is, fits, leads), rest)) =
    let sum : sum_by length (body ∷ bodies) ≡ length body + sum_by length bodies = sum_by-cons length body bodies in
    omega (arith, sum, ap bound leads, ap length is.bytes, applied_bound effects start, records_bound bodies next end rest)

-- ---- marks

abbrev IsShortMark : Sent → Type 0
IsShortMark s = length (mark_body s.mark) ≤ 69

short_code : (code : List ℕ) → length code ≤ 64 → length (mark_body (mark.Refused code)) ≤ 69
unfolding mark_body text_body
short_code code few = omega (arith, few, length-append (number_body 4 (length code)) code, number_length 4 (length code))

short_received : length (mark_body mark.Receipted) ≤ 69
unfolding mark_body
short_received = omega arith

short_failed : length (mark_body mark.Failed) ≤ 69
unfolding mark_body
short_failed = omega arith

short_pending : length (mark_body mark.Pending) ≤ 69
unfolding mark_body
short_pending = omega arith

each_changed : (change : Sent → Sent) → ((s : Sent) → IsShortMark s → IsShortMark (change s)) → (sent : List Sent) → Each IsShortMark sent → Each IsShortMark (map change sent)
each_changed change keeps [] each = tt
each_changed change keeps (s ∷ sent) each = (keeps s each.0, each_changed change keeps sent each.1)

each_more : (sent : List Sent) (s : Sent) → Each IsShortMark sent → IsShortMark s → Each IsShortMark (sent ++ s ∷ [])
each_more [] s each short = (short, tt)
each_more (t ∷ sent) s each short = (each.0, each_more sent s each.1 short)

if_kept : (test : Bool) (s t : Sent) → IsShortMark s → IsShortMark t → IsShortMark (if test then s else t)
if_kept true s t first other = first
if_kept false s t first other = other

carried_mark : (m : Mark) → IsSpelledMark m → length (mark_body m) ≤ 69
unfolding IsSpelledMark
carried_mark mark.Pending is = short_pending
carried_mark mark.Receipted is = short_received
carried_mark mark.Failed is = short_failed
carried_mark (mark.Refused code) is = short_code code is.limited

one_changed : (number : ℕ) (m : Mark) → length (mark_body m) ≤ 69 → (sent : List Sent) → Each IsShortMark sent → Each IsShortMark (changed number (marked m) sent)
unfolding changed
one_changed number m short sent each =
    each_changed (λ s. if s.submission.number == number then marked m s else s) (λ s is. if_kept (s.submission.number == number) (marked m s) s short is) sent each

marks_after : (e : Effect) (end : End) → IsSpelledEffect e → Each IsShortMark end.sent → Each IsShortMark (after e end).sent
unfolding after changed IsSpelledEffect IsSpelledCarried
marks_after (effect.Submitted s) end is each = each_more end.sent (unsent s) each short_pending
marks_after (effect.Ticked tick) end is each =
    each_changed (failed_if_spent tick.moment) (λ s short. if_kept (is_spent tick.moment s) (marked mark.Failed s) s short_failed short) end.sent each
marks_after (effect.Tried number) end is each =
    each_changed (λ s. if s.submission.number == number then tried end.moment s else s) (λ s short. if_kept (s.submission.number == number) (tried end.moment s) s short short) end.sent each
marks_after (effect.Delivered d) end is each = each
marks_after (effect.Receipted number) end is each = one_changed number mark.Receipted short_received end.sent each
marks_after (effect.Refused number code) end is each = one_changed number (mark.Refused code) (short_code code is.1.limited) end.sent each
marks_after (effect.Confirmed upto) end is each = each
marks_after (effect.Carried c) end is each = each_more end.sent (as_carried c) each (carried_mark c.standing is.2)
marks_after (effect.Kept k) end is each = each

marks_after_all : (effects : List Effect) (end : End) → AreSpelled effects → Each IsShortMark end.sent → Each IsShortMark (after_all effects end).sent
marks_after_all [] end spelled each = each
marks_after_all (e ∷ effects) end spelled each = marks_after_all effects (after e end) spelled.1 (marks_after e end spelled.0 each)

marks_applied : (effects : List Effect) (end : End) → AreSpelled effects → Each IsShortMark end.sent → Each IsShortMark (applied effects end).sent
unfolding applied
marks_applied [] end spelled each = each
marks_applied (e ∷ effects) end spelled each = marks_after_all (e ∷ effects) end spelled each

marks_led : (bodies : List (List ℕ)) (start end : End) → RecordsLead bodies start end → Each IsShortMark start.sent → Each IsShortMark end.sent
marks_led [] start end here each = subst (λ (e : End). Each IsShortMark e.sent) here each
marks_led (body ∷ bodies) start end ((next, (effects, is, fits, leads), rest)) each =
    marks_led bodies next end rest (subst (λ (e : End). Each IsShortMark e.sent) (sym leads) (marks_applied effects start is.spelled each))

-- ---- the fold

carried_less : (sent : List Sent) → Each IsShortMark sent → sum_by carried_len sent ≤ sum_by sent_bound sent
unfolding carried_len
carried_less [] each = omega arith
carried_less (s ∷ sent) each =
    let a : sum_by carried_len (s ∷ sent) ≡ carried_len s + sum_by carried_len sent = sum_by-cons carried_len s sent in
    let b : sum_by sent_bound (s ∷ sent) ≡ sent_bound s + sum_by sent_bound sent = sum_by-cons sent_bound s sent in
    omega (arith, a, b, each.0, carried_less sent each.1)

kept_less : (inbox : List InboxEntry) → sum_by kept_len inbox ≤ sum_by entry_bound inbox
unfolding kept_len
kept_less [] = omega arith
kept_less (entry ∷ inbox) =
    let a : sum_by kept_len (entry ∷ inbox) ≡ kept_len entry + sum_by kept_len inbox = sum_by-cons kept_len entry inbox in
    let b : sum_by entry_bound (entry ∷ inbox) ≡ entry_bound entry + sum_by entry_bound inbox = sum_by-cons entry_bound entry inbox in
    omega (arith, a, b, delivered_length entry.header entry.payloads, kept_less inbox)

delivered_same : (inbox : List InboxEntry) → sum_by delivered_len inbox ≡ sum_by entry_bound inbox
unfolding delivered_len
delivered_same [] = refl
delivered_same (entry ∷ inbox) =
    let a : sum_by delivered_len (entry ∷ inbox) ≡ delivered_len entry + sum_by delivered_len inbox = sum_by-cons delivered_len entry inbox in
    let b : sum_by entry_bound (entry ∷ inbox) ≡ entry_bound entry + sum_by entry_bound inbox = sum_by-cons entry_bound entry inbox in
    omega (arith, a, b, delivered_same inbox)

clock_less : (moment : ℕ) → clock_len moment ≤ 20
clock_less zero = omega arith
clock_less (suc moment) = omega arith

fold_less : (end : End) (effects : List Effect) → Each IsShortMark end.sent → IsFolded end effects → folded_size effects ≤ 29 + bound end
fold_less end effects each folded =
    let taken = take end.confirmed end.inbox in
    let waiting = drop end.confirmed end.inbox in
    let parts : sum_by entry_bound (taken ++ waiting) ≡ sum_by entry_bound taken + sum_by entry_bound waiting = sum_by-append entry_bound taken waiting in
    let whole : sum_by entry_bound (taken ++ waiting) ≡ sum_by entry_bound end.inbox = ap (sum_by entry_bound) (take-append-drop end.confirmed end.inbox) in
    omega (arith, whole_size end effects folded, carried_less end.sent each, kept_less taken, delivered_same waiting, clock_less end.moment, parts, whole)

pub short_fold : (bodies : List (List ℕ)) (end : End) (size : ℕ) → RecordsLead bodies empty_end end → IsFoldedSize end size → size ≤ 29 + 4 * sum_by length bodies
short_fold bodies end size leads (effects, folded, is) =
    omega (arith, is, fold_less end effects (marks_led bodies empty_end end leads tt) folded, records_bound bodies empty_end end leads)
