-- The payloads of an inbox: confirmed entries have none, the others have those that were received.
use Rattle.std.proofs.Common.{◌≡◌, ℕ, zero, suc, ◌+◌, ◌≤◌, ◌<◌, inl, inr, List, [], ◌∷◌, ◌++◌, true, false, length, map, take, drop, refl, sym, subst, arith}
use Rattle.std.proofs.lemmas.Bool.Decides.{nat_tests}
use Rattle.std.proofs.lemmas.List.{map_push, length-append}
use Rattle.as4_values.specs.declared.header.UserHeader.{UserHeader}
use Rattle.as4_values.specs.declared.payload.Payload.{Payload}
use Rattle.as4_values.specs.Pairing.{pair}
use Rattle.as4_effects.specs.Sound.{delivered_body, fits_an_effect, kept_body}
use Rattle.as4_effects.specs.Bodies.{header_body, list_body, payload_body}
use Rattle.exchange_model.specs.Apply.{emptied}
use Rattle.exchange_model.specs.Questions.{is_known}
use Rattle.exchange_model.specs.declared.inbox_entry.InboxEntry.{InboxEntry}
use Rattle.exchange_model.specs.declared.what.What.TheVariants.{Tick}
use Rattle.exchange_model.proofs.ListLemmas.{Has}
use Rattle.exchange_laws.proofs.InboxLemmas.{id_of, ids, Apart, apart_push, unknown_new}
use Rattle.exchange_laws.proofs.InboxSteps.{inbox_emptied}

-- a confirmed entry
abbrev pub IsTaken : InboxEntry → Type 0
IsTaken entry = (entry.payloads ≡ []) × (fits_an_effect (kept_body entry.header) ≡ true)

-- an entry that waits for its consumer
abbrev pub IsUntaken : InboxEntry → Type 0
IsUntaken entry = (pair entry.header.parts entry.payloads ≡ true) × (fits_an_effect (delivered_body entry.header entry.payloads) ≡ true)

-- the first `confirmed` entries are confirmed
abbrev pub AreHeld : List InboxEntry → ℕ → Type 0
AreHeld [] confirmed = Unit {0}
AreHeld (entry ∷ inbox) zero = IsUntaken entry × AreHeld inbox zero
AreHeld (entry ∷ inbox) (suc confirmed) = IsTaken entry × AreHeld inbox confirmed

pub has_taken : (inbox : List InboxEntry) (confirmed : ℕ) (entry : InboxEntry) → AreHeld inbox confirmed → Has (take confirmed inbox) entry
    → IsTaken entry
has_taken inbox zero entry held h = absurd h
has_taken [] (suc confirmed) entry held h = absurd h
has_taken (x ∷ inbox) (suc confirmed) entry held (inl e) = subst IsTaken e held.0
has_taken (x ∷ inbox) (suc confirmed) entry held (inr h) = has_taken inbox confirmed entry held.1 h

pub has_untaken : (inbox : List InboxEntry) (confirmed : ℕ) (entry : InboxEntry) → AreHeld inbox confirmed → Has (drop confirmed inbox) entry
    → IsUntaken entry
has_untaken [] zero entry held h = absurd h
has_untaken [] (suc confirmed) entry held h = absurd h
has_untaken (x ∷ inbox) zero entry held (inl e) = subst IsUntaken e held.0
has_untaken (x ∷ inbox) zero entry held (inr h) = has_untaken inbox zero entry held.1 h
has_untaken (x ∷ inbox) (suc confirmed) entry held h = has_untaken inbox confirmed entry held.1 h

-- one more is received
pub held_untaken : (inbox : List InboxEntry) (confirmed : ℕ) (entry : InboxEntry) → confirmed ≤ length inbox → IsUntaken entry
    → AreHeld inbox confirmed → AreHeld (inbox ++ entry ∷ []) confirmed
held_untaken [] zero entry within is held = (is, tt)
held_untaken [] (suc confirmed) entry within is held = absurd (omega (arith, within))
held_untaken (x ∷ inbox) zero entry within is held = (held.0, held_untaken inbox zero entry (omega arith) is held.1)
held_untaken (x ∷ inbox) (suc confirmed) entry within is held = (held.0, held_untaken inbox confirmed entry (omega (arith, within)) is held.1)

-- one more confirmed entry, where all are confirmed
pub held_taken : (inbox : List InboxEntry) (confirmed more : ℕ) (entry : InboxEntry) → confirmed ≡ length inbox → more ≡ confirmed + 1
    → IsTaken entry → AreHeld inbox confirmed → AreHeld (inbox ++ entry ∷ []) more
held_taken [] confirmed zero entry all next is held = absurd (omega (arith, all, next))
held_taken [] confirmed (suc more) entry all next is held = (is, tt)
held_taken (x ∷ inbox) zero more entry all next is held = absurd (omega (arith, all))
held_taken (x ∷ inbox) (suc confirmed) zero entry all next is held = absurd (omega (arith, next))
held_taken (x ∷ inbox) (suc confirmed) (suc more) entry all next is held =
    (held.0, held_taken inbox confirmed more entry (omega (arith, all)) (omega (arith, next)) is held.1)

-- a header is shorter without its payloads
header_fits : (header : UserHeader) (payloads : List Payload) → fits_an_effect (delivered_body header payloads) ≡ true
    → fits_an_effect (kept_body header) ≡ true
unfolding fits_an_effect
header_fits header payloads e =
    let more : length (header_body header ++ list_body payload_body payloads) ≡ length (header_body header) + length (list_body payload_body payloads) =
    length-append (header_body header) (list_body payload_body payloads) in
    grind (arith, nat_tests)

abbrev stripped : InboxEntry → InboxEntry
stripped entry = record entry { payloads = [] }

stripped_held : (inbox : List InboxEntry) (confirmed count : ℕ) → confirmed ≤ count → AreHeld inbox confirmed
    → AreHeld (map stripped (take count inbox) ++ drop count inbox) count
stripped_held [] confirmed zero within held = tt
stripped_held [] confirmed (suc count) within held = tt
stripped_held (x ∷ inbox) zero zero within held = held
stripped_held (x ∷ inbox) (suc confirmed) zero within held = absurd (omega (arith, within))
stripped_held (x ∷ inbox) zero (suc count) within held =
    ((refl, header_fits x.header x.payloads held.0.1), stripped_held inbox zero count (omega arith) held.1)
stripped_held (x ∷ inbox) (suc confirmed) (suc count) within held =
    ((refl, held.0.1), stripped_held inbox confirmed count (omega (arith, within)) held.1)

stripped_length : (inbox : List InboxEntry) (count : ℕ) → length (map stripped (take count inbox) ++ drop count inbox) ≡ length inbox
stripped_length inbox zero = refl
stripped_length [] (suc count) = refl
stripped_length (x ∷ inbox) (suc count) = let rest = stripped_length inbox count in omega (arith, rest)

-- an inbox: the count of confirmed entries, distinct identifiers, and the entries' payloads
pub record IsInbox (inbox : List InboxEntry) (confirmed : ℕ) : Type 0 where
  pub came : confirmed ≤ length inbox
  pub apart : Apart (ids inbox)
  pub held : AreHeld inbox confirmed

apart_pushed : (inbox : List InboxEntry) (entry : InboxEntry) → is_known entry.header.id inbox ≡ false → Apart (ids inbox)
    → Apart (ids (inbox ++ entry ∷ []))
apart_pushed inbox entry unknown apart =
    subst Apart (sym (map_push id_of inbox entry)) (apart_push (ids inbox) entry.header.id apart (unknown_new entry.header.id inbox unknown))

pub inbox_delivered : (inbox : List InboxEntry) (confirmed : ℕ) (entry : InboxEntry) → is_known entry.header.id inbox ≡ false
    → IsUntaken entry → IsInbox inbox confirmed → IsInbox (inbox ++ entry ∷ []) confirmed
inbox_delivered inbox confirmed entry unknown is all = record {
  came = let more = length-append inbox (entry ∷ []) in let came = all.came in omega (arith, more, came);
  apart = apart_pushed inbox entry unknown all.apart;
  held = held_untaken inbox confirmed entry all.came is all.held;
}

pub inbox_kept : (inbox : List InboxEntry) (confirmed : ℕ) (entry : InboxEntry) → is_known entry.header.id inbox ≡ false
    → confirmed ≡ length inbox → IsTaken entry → IsInbox inbox confirmed → IsInbox (inbox ++ entry ∷ []) (confirmed + 1)
inbox_kept inbox confirmed entry unknown whole is all = record {
  came = let more = length-append inbox (entry ∷ []) in omega (arith, more, whole);
  apart = apart_pushed inbox entry unknown all.apart;
  held = held_taken inbox confirmed (confirmed + 1) entry whole refl is all.held;
}

pub inbox_confirmed : (inbox : List InboxEntry) (confirmed upto : ℕ) → confirmed ≤ upto → upto < length inbox → IsInbox inbox confirmed
    → IsInbox (emptied (upto + 1) inbox) (upto + 1)
unfolding emptied
inbox_confirmed inbox confirmed upto more within all = record {
  came = let same = stripped_length inbox (upto + 1) in omega (arith, same, within);
  apart = (inbox_emptied Tick inbox confirmed (upto + 1) (omega (arith, more))).apart all.apart;
  held = stripped_held inbox confirmed (upto + 1) (omega (arith, more)) all.held;
}
