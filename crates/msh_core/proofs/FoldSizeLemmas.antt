-- The size of a compaction, part by part.
use Rattle.std.proofs.Common.{◌≡◌, ℕ, zero, suc, ◌+◌, ◌-◌, ◌≤◌, ◌^◌, min, List, [], ◌∷◌, ◌++◌, Option, Some, None, option_map, length, take, drop, refl, sym, ap, ◌∙◌, arith}
use Rattle.std.specs.List.{slice_get, sum_by}
use Rattle.std.proofs.lemmas.List.{length-append}
use Rattle.std.proofs.lemmas.Option.{same_Some}
use Rattle.std.proofs.lemmas.List.Sums.{sum_by-append, sum_by-cons}
use Rattle.as4_values.specs.declared.header.UserHeader.{UserHeader}
use Rattle.as4_effects.specs.Bodies.{header_body}
use Rattle.as4_effects.specs.Effects.{effect_body, effects_body, submission_body}
use Rattle.as4_effects.specs.Lengths.{grown}
use Rattle.as4_effects.specs.Marks.{mark_body}
use Rattle.as4_effects.specs.declared.mark.Mark.{Mark}
use Rattle.as4_effects.specs.declared.submission.Submission.{Submission}
use Rattle.as4_effects.specs.declared.effect.Effect.{Effect}
use Rattle.as4_effects.specs.declared.effect.Effect.TheVariants as effect
use Rattle.as4_effects.specs.declared.effect.Tick.{Tick}
use Rattle.as4_effects.proofs.LengthLemmas.{number_length}
use Rattle.event_code.proofs.BodyLemmas.{standing_length}
use Rattle.exchange_model.specs.Apply.{record_len}
use Rattle.exchange_model.specs.End.{End}
use Rattle.exchange_model.specs.Fold.{ItemByItem, CarriesOver, KeepsHeader, DeliversAgain, SetsClock, IsFolded, IsFoldedSize, folded_size}
use Rattle.exchange_model.specs.declared.inbox_entry.InboxEntry.{InboxEntry}
use Rattle.exchange_model.specs.declared.sent.Sent.{Sent}
use Rattle.exchange_model.specs.Numbered.{AreNumberedFrom}
use Rattle.exchange_model.specs.Questions.{sent_at}
use Rattle.exchange_model.proofs.NumberedLemmas.{place}
use Rattle.fold_laws.specs.Reached.{IsReached}
use Rattle.fold_laws.proofs.OneFold.{one_fold}
use Rattle.fold_laws.proofs.Replays.{bytes_of}
use Rattle.fold_laws.proofs.SomeFold.{reached_written, some_fold}
use Rattle.inbox.specs.Spots.{Spot}
use Rattle.msh_state.specs.Places.{EachOpen, IsMeasured, delivery_len}
use Rattle.msh_core.proofs.FoldLemmas.{slice_get_dropped}
use Rattle.msh_core.proofs.MeasuredLemmas.{each_at}
use Rattle.msh_core.specs.Folding.{capped, carried_len, clock_len, delivered_len, kept_len, len_at}

-- a sum over the first `n` items and one more
sum_after : {X : Type 0} (f : X → ℕ) (xs : List X) (n : ℕ) → sum_by f (take (suc n) xs) ≡ sum_by f (take n xs) + len_at f (slice_get xs n)
sum_after f [] zero = refl
sum_after f [] (suc n) = refl
sum_after f (x ∷ xs) zero = let one : sum_by f (x ∷ []) ≡ f x + 0 = sum_by-cons f x [] in omega (arith, one)
sum_after f (x ∷ xs) (suc n) =
    let more : sum_by f (x ∷ take (suc n) xs) ≡ f x + sum_by f (take (suc n) xs) = sum_by-cons f x (take (suc n) xs) in
    let some : sum_by f (x ∷ take n xs) ≡ f x + sum_by f (take n xs) = sum_by-cons f x (take n xs) in
    let rest : sum_by f (take (suc n) xs) ≡ sum_by f (take n xs) + len_at f (slice_get xs n) = sum_after f xs n in
    omega (arith, more, some, rest)

pub next_sum : {X : Type 0} (f : X → ℕ) (xs : List X) (n start total next : ℕ) → total ≡ capped (start + sum_by f (take n xs))
    → next ≡ capped (total + len_at f (slice_get xs n)) → next ≡ capped (start + sum_by f (take (n + 1) xs))
next_sum f xs n start total next so_far more =
    let one : sum_by f (take (n + 1) xs) ≡ sum_by f (take n xs) + len_at f (slice_get xs n) =
    ap (λ m. sum_by f (take m xs)) (let e : n + 1 ≡ suc n = omega arith in e) ∙ sum_after f xs n in omega (arith, so_far, more, one)

-- the same sum, where each effect has the length of its item
each_sum : {X Y : Type 0} (is : X → Y → Type 0) (f : X → ℕ) (g : Y → ℕ) → ((x : X) (y : Y) → is x y → g y ≡ f x) → (xs : List X) (ys : List Y)
    → ItemByItem is xs ys → sum_by g ys ≡ sum_by f xs
each_sum is f g same [] [] each = refl
each_sum is f g same [] (y ∷ ys) each = absurd each
each_sum is f g same (x ∷ xs) [] each = absurd each
each_sum is f g same (x ∷ xs) (y ∷ ys) each =
    let a : sum_by g (y ∷ ys) ≡ g y + sum_by g ys = sum_by-cons g y ys in
    let b : sum_by f (x ∷ xs) ≡ f x + sum_by f xs = sum_by-cons f x xs in
    let first : g y ≡ f x = same x y each.0 in
    let rest : sum_by g ys ≡ sum_by f xs = each_sum is f g same xs ys each.1 in
    omega (arith, a, b, first, rest)

-- the record of one effect
record_of_one : (e : Effect) → record_len (e ∷ []) ≡ length (effect_body e) + 11
unfolding record_len effects_body
record_of_one e = simp (length-append, number_length) (omega arith)

carried_record : (s : Sent) (e : Effect) → CarriesOver s e → record_len (e ∷ []) ≡ carried_len s
unfolding carried_len effect_body
carried_record s (effect.Carried c) is =
    record_of_one (effect.Carried c) ∙ ap (λ n. n + 11) (standing_length c)
    ∙ ap (λ (t : Sent). length (submission_body t.submission) + 12 + length (mark_body t.mark) + 11) is
carried_record s other is = absurd is

kept_record : (entry : InboxEntry) (e : Effect) → KeepsHeader entry e → record_len (e ∷ []) ≡ kept_len entry
unfolding kept_len effect_body
kept_record entry (effect.Kept k) is = record_of_one (effect.Kept k) ∙ rw is refl
kept_record entry other is = absurd is

delivered_record : (entry : InboxEntry) (e : Effect) → DeliversAgain entry e → record_len (e ∷ []) ≡ delivered_len entry
unfolding delivered_len effect_body
delivered_record entry (effect.Delivered d) is = record_of_one (effect.Delivered d) ∙ rw (is.0, is.1) refl
delivered_record entry other is = absurd is

tick_record : (tick : Tick) → bytes_of (effect.Ticked tick ∷ []) ≡ 20
unfolding effect_body
tick_record tick =
    let len : record_len (effect.Ticked tick ∷ []) ≡ 20 = record_of_one (effect.Ticked tick) ∙ simp (length-append, number_length) refl in
    let e : 0 + record_len (effect.Ticked tick ∷ []) ≡ 20 = omega (arith, len) in e

clock_record : (moment : ℕ) (clock : List Effect) → SetsClock moment clock → bytes_of clock ≡ clock_len moment
clock_record zero clock set = rw set refl
clock_record (suc moment) clock set = ap bytes_of set.2 ∙ tick_record set.0

-- the size of an endpoint's compaction
pub whole_size : (end : End) (effects : List Effect) → IsFolded end effects
    → folded_size effects ≡ 9 + sum_by carried_len end.sent + sum_by kept_len (take end.confirmed end.inbox)
    + sum_by delivered_len (drop end.confirmed end.inbox) + clock_len end.moment
unfolding folded_size
whole_size end effects h =
    let f : Effect → ℕ = λ e. record_len (e ∷ []) in
    let a : bytes_of h.carried ≡ sum_by carried_len end.sent = each_sum CarriesOver carried_len f carried_record end.sent h.carried h.submissions in
    let b : bytes_of h.kept ≡ sum_by kept_len (take end.confirmed end.inbox) =
    each_sum KeepsHeader kept_len f kept_record (take end.confirmed end.inbox) h.kept h.taken_over in
    let d : bytes_of h.delivered ≡ sum_by delivered_len (drop end.confirmed end.inbox) =
    each_sum DeliversAgain delivered_len f delivered_record (drop end.confirmed end.inbox) h.delivered h.waiting in
    let t : bytes_of h.clock ≡ clock_len end.moment = clock_record end.moment h.clock h.set in
    let first : bytes_of (h.carried ++ h.kept) ≡ bytes_of h.carried + bytes_of h.kept = sum_by-append f h.carried h.kept in
    let next : bytes_of (h.carried ++ h.kept ++ h.delivered) ≡ bytes_of (h.carried ++ h.kept) + bytes_of h.delivered =
    sum_by-append f (h.carried ++ h.kept) h.delivered in
    let all : bytes_of (h.carried ++ h.kept ++ h.delivered ++ h.clock) ≡ bytes_of (h.carried ++ h.kept ++ h.delivered) + bytes_of h.clock =
    sum_by-append f (h.carried ++ h.kept ++ h.delivered) h.clock in
    let whole : bytes_of effects ≡ bytes_of (h.carried ++ h.kept ++ h.delivered ++ h.clock) = ap bytes_of h.is in
    omega (arith, a, b, d, t, first, next, all, whole)

-- the size of the endpoint's compaction, capped
abbrev pub IsSizeOf : End → ℕ → Type 0
IsSizeOf end n = (size : ℕ) × IsFoldedSize end size × (n ≡ capped size)

-- the sums give the size of a reached endpoint's compaction
pub size_found : (end : End) (first next more result : ℕ) → IsReached end → first ≡ capped (9 + sum_by carried_len end.sent)
    → next ≡ capped (first + sum_by kept_len (take end.confirmed end.inbox))
    → more ≡ capped (next + sum_by delivered_len (drop end.confirmed end.inbox)) → result ≡ capped (more + clock_len end.moment)
    → IsSizeOf end result
size_found end first next more result reached a b d t =
    let fold = some_fold end (reached_written end reached) in
    let whole = whole_size end fold.0 fold.1 in (folded_size fold.0, (fold.0, fold.1, refl), omega (arith, a, b, d, t, whole))

-- an endpoint's compaction has one size
pub one_size : (end : End) (a b : ℕ) → IsFoldedSize end a → IsFoldedSize end b → a ≡ b
one_size end a b h k = h.2 ∙ ap folded_size (one_fold end h.0 k.0 h.1 k.1) ∙ sym k.2

-- and begins with the nine bytes of a journal
pub size_begun : (end : End) (size : ℕ) → IsFoldedSize end size → 9 ≤ size
unfolding folded_size
size_begun end size h = let is = h.2 in omega (arith, is)

-- one length after another, each sum capped
pub carried_sum : (sum first mid next result : ℕ) (submission : Submission) (m : Mark) (o : Option Sent)
    → Some submission ≡ option_map (λ (s : Sent). s.submission) o → Some m ≡ option_map (λ (s : Sent). s.mark) o
    → first ≡ grown sum (submission_body submission) → mid ≡ min (first + 12) (2 ^ 64 - 1) → next ≡ grown mid (mark_body m)
    → result ≡ min (next + 11) (2 ^ 64 - 1) → result ≡ capped (sum + len_at carried_len o)
unfolding carried_len grown
carried_sum sum first mid next result submission m None is stands a b c d = absurd cc
carried_sum sum first mid next result submission m (Some s) is stands a b c d =
    let one : length (submission_body submission) ≡ length (submission_body s.submission) =
    ap (λ t. length (submission_body t)) (same_Some submission s.submission is) in
    let two : length (mark_body m) ≡ length (mark_body s.mark) = ap (λ t. length (mark_body t)) (same_Some m s.mark stands) in
    omega (arith, one, two, a, b, c, d)

pub kept_sum : (sum first next result : ℕ) (header : UserHeader) (o : Option InboxEntry)
    → Some header ≡ option_map (λ (entry : InboxEntry). entry.header) o → first ≡ min (sum + 1) (2 ^ 64 - 1)
    → next ≡ grown first (header_body header) → result ≡ min (next + 11) (2 ^ 64 - 1) → result ≡ capped (sum + len_at kept_len o)
unfolding kept_len grown
kept_sum sum first next result header None is a b c = absurd cc
kept_sum sum first next result header (Some entry) is a b c =
    let one : length (header_body header) ≡ length (header_body entry.header) =
    ap (λ h. length (header_body h)) (same_Some header entry.header is) in omega (arith, one, a, b, c)

measured_len : (entry : InboxEntry) (len : ℕ) → len ≡ delivery_len entry.header entry.payloads → len + 9 ≡ delivered_len entry
unfolding delivered_len delivery_len
measured_len entry len e = omega (arith, e)

pub delivered_sum : (sum first result : ℕ) (header : UserHeader) (gate len : ℕ) (confirmed : ℕ) (places : List Spot) (inbox : List InboxEntry) (n : ℕ)
    → EachOpen IsMeasured confirmed places inbox → confirmed ≤ n → option_map (λ (entry : InboxEntry). entry.header) (slice_get inbox n) ≡ Some header
    → slice_get places n ≡ Some (record { gate = gate; length = len }) → first ≡ min (sum + len) (2 ^ 64 - 1) → result ≡ min (first + 9) (2 ^ 64 - 1)
    → result ≡ capped (sum + len_at delivered_len (slice_get inbox n))
delivered_sum sum first result header gate len confirmed places inbox n each waits is place a b = by_entry (slice_get inbox n) refl is
  where
    by_entry : (o : Option InboxEntry) → slice_get inbox n ≡ o → option_map (λ (entry : InboxEntry). entry.header) o ≡ Some header
        → result ≡ capped (sum + len_at delivered_len o)
    by_entry None there e = absurd cc
    by_entry (Some entry) there e =
        let one : len + 9 ≡ delivered_len entry =
        measured_len entry len (each_at IsMeasured confirmed places inbox n (record { gate = gate; length = len }) entry each waits place there) in
        omega (arith, one, a, b)

-- a submission by its number
pub next_sent : (sent : List Sent) (number start total next : ℕ) → AreNumberedFrom 0 sent → total ≡ capped (start + sum_by carried_len (take number sent))
    → next ≡ capped (total + len_at carried_len (sent_at number sent)) → next ≡ capped (start + sum_by carried_len (take (number + 1) sent))
next_sent sent number start total next numbered so_far more =
    next_sum carried_len sent number start total next so_far
    (more ∙ ap (λ o. capped (total + len_at carried_len o)) (place number sent numbered))

-- a message that isn't confirmed, by its place
pub next_waiting : (inbox : List InboxEntry) (confirmed count start total next : ℕ)
    → total ≡ capped (start + sum_by delivered_len (take count (drop confirmed inbox)))
    → next ≡ capped (total + len_at delivered_len (slice_get inbox (confirmed + count)))
    → next ≡ capped (start + sum_by delivered_len (take (count + 1) (drop confirmed inbox)))
next_waiting inbox confirmed count start total next so_far more =
    next_sum delivered_len (drop confirmed inbox) count start total next so_far
    (more ∙ ap (λ o. capped (total + len_at delivered_len o)) (sym (slice_get_dropped inbox confirmed count)))

-- an endpoint has one capped size
pub size_only : (end : End) (n size : ℕ) → IsSizeOf end n → IsFoldedSize end size → n ≡ capped size
size_only end n size found is = found.2 ∙ ap capped (one_size end found.0 size found.1 is)

-- where a journal has room for the compaction, the result is its exact size
pub size_is : (end : End) (n size : ℕ) → IsSizeOf end n → ((s : ℕ) → IsFoldedSize end s → s ≤ 4294967296) → IsFoldedSize end size → n ≡ size
size_is end n size found limited is =
    let one : found.0 ≡ size = one_size end found.0 size found.1 is in
    let few : size ≤ 4294967296 = limited size is in
    let capped : n ≡ min found.0 (2 ^ 64 - 1) = found.2 in omega (arith, one, few, capped)

-- so a journal can have it
pub size_within : (end : End) (n : ℕ) → IsSizeOf end n → ((s : ℕ) → IsFoldedSize end s → s ≤ 4294967296) → (9 ≤ n) × (n ≤ 4294967296)
size_within end n found limited =
    let same : n ≡ found.0 = size_is end n found.0 found limited found.1 in
    let few : found.0 ≤ 4294967296 = limited found.0 found.1 in
    let some : 9 ≤ found.0 = size_begun end found.0 found.1 in (omega (arith, same, some), omega (arith, same, few))
