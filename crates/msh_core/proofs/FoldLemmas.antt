-- The compaction of an endpoint by places: an effect found for a place is at this place of some compaction.
use Rattle.std.proofs.Common.{◌≡◌, ℕ, zero, suc, ◌+◌, ◌-◌, ◌<◌, ◌≤◌, min, List, [], ◌∷◌, ◌++◌, ◌⊎◌, inl, inr, Option, Some, None, true, option_map, length, take, drop, refl, sym, ap, subst, ◌∙◌, arith}
use Rattle.std.specs.List.{Contains, slice_get}
use Rattle.std.proofs.lemmas.Option.{get_or_from_slice_get, same_Some, slice_get_within}
use Rattle.std.proofs.lemmas.List.{length-append, length-drop, length-take}
use Rattle.as4_values.specs.declared.header.UserHeader.{UserHeader}
use Rattle.as4_values.specs.declared.moment.TheConstants.{MAX_MOMENT}
use Rattle.as4_effects.specs.Sound.{fits_an_effect, kept_body}
use Rattle.as4_effects.specs.declared.effect.Effect.{Effect}
use Rattle.as4_effects.specs.declared.effect.Effect.TheVariants as effect
use Rattle.as4_effects.specs.declared.effect.Tick.{Tick}
use Rattle.exchange_model.specs.End.{End}
use Rattle.exchange_model.specs.Fold.{ItemByItem, CarriesOver, KeepsHeader, DeliversAgain, SetsClock, IsFolded}
use Rattle.exchange_model.specs.Numbered.{AreNumberedFrom}
use Rattle.exchange_model.specs.Questions.{sent_at}
use Rattle.exchange_model.specs.declared.inbox_entry.InboxEntry.{InboxEntry}
use Rattle.exchange_model.proofs.NumberedLemmas.{place}
use Rattle.fold_laws.specs.Reached.{IsReached}
use Rattle.fold_laws.specs.Written.{CanBeWritten}
use Rattle.fold_laws.proofs.SomeFold.{reached_written, some_fold}
use Rattle.inbox.specs.Spots.{Spot}
use Rattle.msh_state.specs.Places.{IsMeasured}
use Rattle.msh_state.specs.Rooms.{Rooms}
use Rattle.msh_core.proofs.MeasuredLemmas.{each_at}
use Rattle.msh_core.specs.Folding.{IsNotOpen, IsOpenAt, IsOpenEntry, IsShown, OneFor}
use Rattle.msh_core.specs.Machine.{IsConsistent}
use Rattle.msh_core.specs.declared.folding.Folding.{Folding}
use Rattle.msh_core.specs.declared.folding.Folding.TheVariants as folding

-- there are as many effects as items
pub length_each : {X Y : Type 0} (is : X → Y → Type 0) (xs : List X) (ys : List Y) → ItemByItem is xs ys → length xs ≡ length ys
length_each is [] [] each = refl
length_each is [] (y ∷ ys) each = absurd each
length_each is (x ∷ xs) [] each = absurd each
length_each is (x ∷ xs) (y ∷ ys) each = ap suc (length_each is xs ys each.1)

-- another effect for the same item may take its place
pub with_at : {X Y : Type 0} (is : X → Y → Type 0) (xs : List X) (ys : List Y) (n : ℕ) (found : Option Y) → ItemByItem is xs ys
    → OneFor is (slice_get xs n) found → (zs : List Y) × ItemByItem is xs zs × (found ≡ slice_get zs n)
with_at is [] [] n None each one = ([], each, refl)
with_at is [] (y ∷ ys) n None each one = absurd each
with_at is [] ys n (Some y) each one = absurd one
with_at is (x ∷ xs) [] n found each one = absurd each
with_at is (x ∷ xs) (y ∷ ys) zero None each one = absurd one
with_at is (x ∷ xs) (y ∷ ys) zero (Some z) each one = (z ∷ ys, (one, each.1), refl)
with_at is (x ∷ xs) (y ∷ ys) (suc n) found each one =
    let rest = with_at is xs ys n found each.1 one in (y ∷ rest.0, (each.0, rest.1), rest.2)

-- an item of two concatenated lists
pub slice_get_left : {X : Type 0} (a b : List X) (n : ℕ) → n < length a → slice_get (a ++ b) n ≡ slice_get a n
slice_get_left [] b n within = absurd (omega (arith, within))
slice_get_left (x ∷ a) b zero within = refl
slice_get_left (x ∷ a) b (suc n) within = slice_get_left a b n (omega (arith, within))

pub slice_get_right : {X : Type 0} (a b : List X) (n : ℕ) → slice_get (a ++ b) (length a + n) ≡ slice_get b n
slice_get_right [] b n = ap (slice_get b) (let e : 0 + n ≡ n = omega arith in e)
slice_get_right (x ∷ a) b n =
    ap (slice_get (x ∷ a ++ b)) (let e : suc (length a) + n ≡ suc (length a + n) = omega arith in e) ∙ slice_get_right a b n

pub slice_get_taken : {X : Type 0} (xs : List X) (count n : ℕ) → n < count → slice_get (take count xs) n ≡ slice_get xs n
slice_get_taken [] zero n within = absurd (omega (arith, within))
slice_get_taken [] (suc count) n within = refl
slice_get_taken (x ∷ xs) zero n within = absurd (omega (arith, within))
slice_get_taken (x ∷ xs) (suc count) zero within = refl
slice_get_taken (x ∷ xs) (suc count) (suc n) within = slice_get_taken xs count n (omega (arith, within))

pub slice_get_dropped : {X : Type 0} (xs : List X) (count n : ℕ) → slice_get (drop count xs) n ≡ slice_get xs (count + n)
slice_get_dropped xs zero n = ap (slice_get xs) (let e : n ≡ 0 + n = omega arith in e)
slice_get_dropped [] (suc count) n = refl
slice_get_dropped (x ∷ xs) (suc count) n =
    slice_get_dropped xs count n ∙ ap (slice_get (x ∷ xs)) (let e : suc (count + n) ≡ suc count + n = omega arith in e)

-- found at a place of the endpoint's compaction
abbrev pub IsFoundAt : End → ℕ → Option Effect → Type 0
IsFoundAt end part found = (effects : List Effect) × IsFolded end effects × (found ≡ slice_get effects part)

pub found_carried : (end : End) (part : ℕ) (found : Option Effect) → IsReached end → AreNumberedFrom 0 end.sent → part < length end.sent
    → OneFor CarriesOver (sent_at part end.sent) found → IsFoundAt end part found
found_carried end part found reached numbered within one =
    let fold = some_fold end (reached_written end reached) in
    let h = fold.1 in
    let put = with_at CarriesOver end.sent h.carried part found h.submissions (subst (λ o. OneFor CarriesOver o found) (place part end.sent numbered) one) in
    let long : length end.sent ≡ length put.0 = length_each CarriesOver end.sent put.0 put.1 in
    let ab : length (put.0 ++ h.kept) ≡ length put.0 + length h.kept = length-append put.0 h.kept in
    let abc : length (put.0 ++ h.kept ++ h.delivered) ≡ length (put.0 ++ h.kept) + length h.delivered = length-append (put.0 ++ h.kept) h.delivered in (
      put.0 ++ h.kept ++ h.delivered ++ h.clock,
      record {
        carried = put.0;
        kept = h.kept;
        delivered = h.delivered;
        clock = h.clock;
        submissions = put.1;
        taken_over = h.taken_over;
        waiting = h.waiting;
        set = h.set;
        is = refl;
      },
      put.2
          ∙ sym (slice_get_left (put.0 ++ h.kept ++ h.delivered) h.clock part (omega (arith, within, long, ab, abc))
          ∙ slice_get_left (put.0 ++ h.kept) h.delivered part (omega (arith, within, long, ab))
          ∙ slice_get_left put.0 h.kept part (omega (arith, within, long))),
    )

pub found_kept : (end : End) (part at : ℕ) (found : Option Effect) → IsReached end → part ≡ length end.sent + at → at < end.confirmed
    → end.confirmed ≤ length end.inbox → OneFor KeepsHeader (slice_get end.inbox at) found → IsFoundAt end part found
found_kept end part at found reached is within came one =
    let fold = some_fold end (reached_written end reached) in
    let h = fold.1 in
    let taken : List InboxEntry = take end.confirmed end.inbox in
    let put = with_at KeepsHeader taken h.kept at found h.taken_over (subst (λ o. OneFor KeepsHeader o found) (sym (slice_get_taken end.inbox end.confirmed at within)) one) in
    let long : length end.sent ≡ length h.carried = length_each CarriesOver end.sent h.carried h.submissions in
    let some : length taken ≡ length put.0 = length_each KeepsHeader taken put.0 put.1 in
    let count : length taken ≡ min end.confirmed (length end.inbox) = length-take end.confirmed end.inbox in
    let ab : length (h.carried ++ put.0) ≡ length h.carried + length put.0 = length-append h.carried put.0 in
    let abc : length (h.carried ++ put.0 ++ h.delivered) ≡ length (h.carried ++ put.0) + length h.delivered = length-append (h.carried ++ put.0) h.delivered in
    let at_end : part ≡ length h.carried + at = omega (arith, is, long) in (
      h.carried ++ put.0 ++ h.delivered ++ h.clock,
      record {
        carried = h.carried;
        kept = put.0;
        delivered = h.delivered;
        clock = h.clock;
        submissions = h.submissions;
        taken_over = put.1;
        waiting = h.waiting;
        set = h.set;
        is = refl;
      },
      put.2
          ∙ sym (slice_get_left (h.carried ++ put.0 ++ h.delivered) h.clock part (omega (arith, at_end, within, came, some, count, ab, abc))
          ∙ slice_get_left (h.carried ++ put.0) h.delivered part (omega (arith, at_end, within, came, some, count, ab))
          ∙ ap (slice_get (h.carried ++ put.0)) at_end
          ∙ slice_get_right h.carried put.0 at),
    )

-- the effect of an item
each_place : {X Y : Type 0} (is : X → Y → Type 0) (xs : List X) (ys : List Y) (n : ℕ) (x : X) → ItemByItem is xs ys → slice_get xs n ≡ Some x
    → (y : Y) × (slice_get ys n ≡ Some y) × is x y
each_place is [] ys n x each there = absurd cc
each_place is (z ∷ xs) [] n x each there = absurd each
each_place is (z ∷ xs) (y ∷ ys) zero x each there = (y, refl, subst (λ w. is w y) (same_Some z x there) each.0)
each_place is (z ∷ xs) (y ∷ ys) (suc n) x each there = each_place is xs ys n x each.1 there

-- an open entry is delivered again at its place
delivered_at : (end : End) (part at : ℕ) (entry : InboxEntry) (effects : List Effect) → IsFolded end effects → part ≡ length end.sent + at
    → end.confirmed ≤ at → slice_get end.inbox at ≡ Some entry → (e : Effect) × (slice_get effects part ≡ Some e) × DeliversAgain entry e
delivered_at end part at entry effects h is waits there =
    let taken : List InboxEntry = take end.confirmed end.inbox in
    let left : List InboxEntry = drop end.confirmed end.inbox in
    let within : at < length end.inbox = slice_get_within end.inbox at entry there in
    let count : length taken ≡ min end.confirmed (length end.inbox) = length-take end.confirmed end.inbox in
    let first : slice_get left (at - end.confirmed) ≡ Some entry =
    slice_get_dropped end.inbox end.confirmed (at - end.confirmed)
    ∙ ap (slice_get end.inbox) (let e : end.confirmed + (at - end.confirmed) ≡ at = omega (arith, waits) in e) ∙ there in
    let found = each_place DeliversAgain left h.delivered (at - end.confirmed) entry h.waiting first in
    let long : length end.sent ≡ length h.carried = length_each CarriesOver end.sent h.carried h.submissions in
    let some : length taken ≡ length h.kept = length_each KeepsHeader taken h.kept h.taken_over in
    let ab : length (h.carried ++ h.kept) ≡ length h.carried + length h.kept = length-append h.carried h.kept in
    let abc : length (h.carried ++ h.kept ++ h.delivered) ≡ length (h.carried ++ h.kept) + length h.delivered = length-append (h.carried ++ h.kept) h.delivered in
    let at_end : part ≡ length (h.carried ++ h.kept) + (at - end.confirmed) = omega (arith, is, waits, within, long, some, count, ab) in
    let past : at - end.confirmed < length h.delivered = slice_get_within h.delivered (at - end.confirmed) found.0 found.1 in (
      found.0,
      ap (λ (l : List Effect). slice_get l part) h.is
          ∙ slice_get_left (h.carried ++ h.kept ++ h.delivered) h.clock part (omega (arith, at_end, past, abc))
          ∙ ap (slice_get (h.carried ++ h.kept ++ h.delivered)) at_end
          ∙ slice_get_right (h.carried ++ h.kept) h.delivered (at - end.confirmed)
          ∙ found.1,
      found.2,
    )

pub found_clock : (end : End) (part at : ℕ) (found : Option Effect) → IsReached end → part ≡ length end.sent + (length end.inbox + at)
    → end.confirmed ≤ length end.inbox → (clock : List Effect) × SetsClock end.moment clock × (found ≡ slice_get clock at) → IsFoundAt end part found
found_clock end part at found reached is came clock =
    let fold = some_fold end (reached_written end reached) in
    let h = fold.1 in
    let taken : List InboxEntry = take end.confirmed end.inbox in
    let left : List InboxEntry = drop end.confirmed end.inbox in
    let count : length taken ≡ min end.confirmed (length end.inbox) = length-take end.confirmed end.inbox in
    let fewer : length left ≡ length end.inbox - end.confirmed = length-drop end.confirmed end.inbox in
    let long : length end.sent ≡ length h.carried = length_each CarriesOver end.sent h.carried h.submissions in
    let some : length taken ≡ length h.kept = length_each KeepsHeader taken h.kept h.taken_over in
    let more : length left ≡ length h.delivered = length_each DeliversAgain left h.delivered h.waiting in
    let ab : length (h.carried ++ h.kept) ≡ length h.carried + length h.kept = length-append h.carried h.kept in
    let abc : length (h.carried ++ h.kept ++ h.delivered) ≡ length (h.carried ++ h.kept) + length h.delivered = length-append (h.carried ++ h.kept) h.delivered in
    let at_end : part ≡ length (h.carried ++ h.kept ++ h.delivered) + at = omega (arith, is, came, long, some, more, count, fewer, ab, abc) in (
      h.carried ++ h.kept ++ h.delivered ++ clock.0,
      record {
        carried = h.carried;
        kept = h.kept;
        delivered = h.delivered;
        clock = clock.0;
        submissions = h.submissions;
        taken_over = h.taken_over;
        waiting = h.waiting;
        set = clock.1;
        is = refl;
      },
      clock.2
          ∙ sym (ap (slice_get (h.carried ++ h.kept ++ h.delivered ++ clock.0)) at_end ∙ slice_get_right (h.carried ++ h.kept ++ h.delivered) clock.0 at),
    )

-- a clock that was never set has no record, and no clock has a second one
pub clock_none : (moment at : ℕ) → moment ≤ MAX_MOMENT → (moment ≡ 0) ⊎ (0 < at)
    → (clock : List Effect) × SetsClock moment clock × (None ≡ slice_get clock at)
clock_none zero at dated none = ([], refl, refl)
clock_none (suc moment) at dated (inl e) = absurd (omega (arith, e))
clock_none (suc moment) zero dated (inr more) = absurd (omega (arith, more))
clock_none (suc moment) (suc at) dated (inr more) =
    let tick : Tick = record { moment = suc moment; dated = dated } in (effect.Ticked tick ∷ [], (tick, refl, refl), refl)

pub clock_some : (moment at : ℕ) (tick : Tick) → tick.moment ≡ moment → 0 < moment → at ≡ 0
    → (clock : List Effect) × SetsClock moment clock × (Some (effect.Ticked tick) ≡ slice_get clock at)
clock_some zero at tick is set first = absurd (omega (arith, set))
clock_some (suc moment) zero tick is set first = (effect.Ticked tick ∷ [], (tick, is, refl), refl)
clock_some (suc moment) (suc at) tick is set first = absurd (omega (arith, first))

-- an item found at a place is in the list
found_contained : {X : Type 0} (xs : List X) (n : ℕ) (x : X) → slice_get xs n ≡ Some x → Contains xs x
found_contained xs n x e = (n, slice_get_within xs n x e, get_or_from_slice_get xs n x x e)

-- the header of a confirmed entry can be kept
pub kept_fits : (end : End) (at : ℕ) (header copy : UserHeader) → CanBeWritten end → at < end.confirmed
    → Some header ≡ option_map (λ (entry : InboxEntry). entry.header) (slice_get end.inbox at) → copy ≡ header
    → fits_an_effect (kept_body copy) ≡ true
kept_fits end at header copy can within is same = by_entry (slice_get end.inbox at) refl is
  where
    by_entry : (o : Option InboxEntry) → slice_get end.inbox at ≡ o → Some header ≡ option_map (λ (entry : InboxEntry). entry.header) o
        → fits_an_effect (kept_body copy) ≡ true
    by_entry None there e = absurd cc
    by_entry (Some entry) there e =
        let one : entry.header ≡ copy = same_Some entry.header copy (sym e ∙ ap Some (sym same)) in
        subst (λ (h : UserHeader). fits_an_effect (kept_body h) ≡ true) one
        (can.kept entry (found_contained (take end.confirmed end.inbox) at entry (slice_get_taken end.inbox end.confirmed at within ∙ there)))

-- shown at a place of the endpoint's compaction
abbrev pub IsShownAt : End → List Spot → ℕ → Option Folding → Type 0
IsShownAt end places part found = (effects : List Effect) × IsFolded end effects × IsShown end places part (slice_get effects part) found

-- a known effect is shown as it is
known_shown : (end : End) (places : List Spot) (part : ℕ) (found : Option Effect) → IsNotOpen end part
    → IsShown end places part found (option_map folding.Known found)
known_shown end places part None closed = tt
known_shown end places part (Some e) closed = (refl, closed)

pub shown_known : (end : End) (places : List Spot) (part : ℕ) (found : Option Effect) → IsNotOpen end part → IsFoundAt end part found
    → IsShownAt end places part (option_map folding.Known found)
shown_known end places part found closed is =
    (is.0, is.1, subst (λ o. IsShown end places part o (option_map folding.Known found)) is.2 (known_shown end places part found closed))

-- an open entry is shown by its place
shown_entry : (end : End) (places : List Spot) (part at : ℕ) (id : List ℕ) (gate len : ℕ) (entry : InboxEntry) → IsConsistent end places
    → part ≡ length end.sent + at → end.confirmed ≤ at → slice_get end.inbox at ≡ Some entry → id ≡ entry.header.id
    → slice_get places at ≡ Some (record { gate = gate; length = len }) → IsShownAt end places part (Some (folding.Open id gate len))
shown_entry end places part at id gate len entry consistent is waits there named place =
    let fold = some_fold end (reached_written end consistent.reached) in
    let found = delivered_at end part at entry fold.0 fold.1 is waits there in
    let shown : IsOpenAt end places part found.0 id gate len = record {
      n = at;
      entry = entry;
      at = is;
      waits = waits;
      there = there;
      place = place;
      again = found.2;
      named = named;
      measured = each_at IsMeasured end.confirmed places end.inbox at (record { gate = gate; length = len }) entry consistent.measured waits place there;
    } in
    (fold.0, fold.1, subst (λ o. IsShown end places part o (Some (folding.Open id gate len))) (sym found.1) shown)

pub shown_open : (end : End) (places : List Spot) (rooms : Rooms) (part at : ℕ) (found : Option Folding) → IsConsistent end places
    → part ≡ length end.sent + at → end.confirmed ≤ at → IsOpenEntry (record { end = end; places = places; rooms = rooms }) at found
    → IsShownAt end places part found
shown_open end places rooms part at None consistent is waits entry = absurd entry
shown_open end places rooms part at (Some (folding.Known e)) consistent is waits entry = absurd entry
shown_open end places rooms part at (Some (folding.Open id gate len)) consistent is waits entry =
    by_entry (slice_get end.inbox at) refl entry.0
  where
    by_entry : (o : Option InboxEntry) → slice_get end.inbox at ≡ o → option_map (λ (entry : InboxEntry). entry.header.id) o ≡ Some id
        → IsShownAt end places part (Some (folding.Open id gate len))
    by_entry None there e = absurd cc
    by_entry (Some found) there e =
        shown_entry end places part at id gate len found consistent is waits there (sym (same_Some found.header.id id e)) entry.1
