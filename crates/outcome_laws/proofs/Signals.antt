-- The signals that an endpoint makes: the moment, the nonce and the message that it is about determine exactly one
-- signal.
use Rattle.std.proofs.Common.{◌≡◌, ℕ, ◌≤◌, List, [], ◌∷◌, Option, Some, None, refl, sym, ap, ◌∙◌, subst}
use Rattle.std.specs.Prelude.{IsTrue, option_map}
use Rattle.std.proofs.Props.{props}
use Rattle.std.proofs.lemmas.Option.{same_Some}
use Rattle.as4_values.proofs.MomentLemmas.{one_stamp_of}
use Rattle.as4_values.specs.SignalParts.{is_signal, is_receipt, is_pull}
use Rattle.as4_values.specs.Identifiers.{signal_id}
use Rattle.as4_values.specs.declared.header.UserHeader.{UserHeader}
use Rattle.as4_values.specs.declared.message.Pair.{Pair}
use Rattle.as4_values.specs.declared.signal.Signal.{Signal}
use Rattle.as4_values.specs.declared.signal_body.SignalBody.{SignalBody}
use Rattle.as4_values.specs.declared.signal_body.SignalBody.TheVariants as body
use Rattle.as4_values.specs.declared.moment.TheConstants.{MAX_MOMENT}
use Rattle.as4_codes.specs.ErrorCodes.{ErrorRow, error_row, error_item}
use Rattle.as4_codes.specs.Signals.{IsReceiptOf, IsErrorSignalOf, IsPullOf, IsPairOf, next_nonce}
use Rattle.outcome_laws.proofs.SomeStamp.{some_stamp}

-- the fields of a signal
abbrev Told : Type 0
Told = (List ℕ × List ℕ) × (Option (List ℕ) × SignalBody)

abbrev told_by : Signal → Told
told_by s = ((s.stamp, s.id), (s.ref_to, s.body))

signal_of : (t : Told) → IsTrue (is_signal t.1.0 t.1.1) → Signal
signal_of t whole = record { stamp = t.0.0; id = t.0.1; ref_to = t.1.0; body = t.1.1; whole = whole }

signal_told : (a b : Signal) → told_by a ≡ told_by b → a ≡ b
unfolding signal_of
signal_told a b e =
    subst (λ (t : Told). (w : IsTrue (is_signal t.1.0 t.1.1)) → signal_of t w ≡ b) (sym e)
    (λ w. ap (signal_of (told_by b)) (let one : IsProp (IsTrue (is_signal b.ref_to b.body)) = hlevel props in one w b.whole))
    a.whole

-- at most one
pub one_receipt : (header : UserHeader) (ms nonce : ℕ) (a b : Signal) → IsReceiptOf header ms nonce a → IsReceiptOf header ms nonce b → a ≡ b
one_receipt header ms nonce a b h k =
    let stamp : a.stamp ≡ b.stamp = one_stamp_of ms a.stamp b.stamp h.stamped k.stamped in
    let id : a.id ≡ b.id = h.named ∙ sym k.named in
    let ref_to : a.ref_to ≡ b.ref_to = h.refers ∙ sym k.refers in
    let said : a.body ≡ b.body = h.copies ∙ sym k.copies in
    signal_told a b (let e : told_by a ≡ told_by b = cc in e)

pub one_error : (code : ℕ) (about : Option (List ℕ)) (ms nonce : ℕ) (a b : Signal) → IsErrorSignalOf code about ms nonce a
    → IsErrorSignalOf code about ms nonce b → a ≡ b
one_error code about ms nonce a b h k =
    let stamp : a.stamp ≡ b.stamp = one_stamp_of ms a.stamp b.stamp h.stamped k.stamped in
    let id : a.id ≡ b.id = h.named ∙ sym k.named in
    let ref_to : a.ref_to ≡ b.ref_to = h.refers ∙ sym k.refers in
    let said : a.body ≡ b.body = same_Some a.body b.body (sym h.tells ∙ k.tells) in
    signal_told a b (let e : told_by a ≡ told_by b = cc in e)

pub one_pull : (mpc : List ℕ) (ms nonce : ℕ) (a b : Signal) → IsPullOf mpc ms nonce a → IsPullOf mpc ms nonce b → a ≡ b
one_pull mpc ms nonce a b h k =
    let stamp : a.stamp ≡ b.stamp = one_stamp_of ms a.stamp b.stamp h.stamped k.stamped in
    let id : a.id ≡ b.id = h.named ∙ sym k.named in
    let ref_to : a.ref_to ≡ b.ref_to = h.refers ∙ sym k.refers in
    let said : a.body ≡ b.body = h.asks ∙ sym k.asks in
    signal_told a b (let e : told_by a ≡ told_by b = cc in e)

pub one_pair : (header : UserHeader) (mpc : List ℕ) (ms nonce : ℕ) (a b : Pair) → IsPairOf header mpc ms nonce a → IsPairOf header mpc ms nonce b → a ≡ b
one_pair header mpc ms nonce a b h k =
    pair_told a b (one_receipt header ms (next_nonce nonce) a.receipt b.receipt h.receipt k.receipt) (one_pull mpc ms nonce a.pull b.pull h.pull k.pull)
  where
    pair_of : (p : Signal × Signal) → IsTrue (is_receipt p.0.body) → IsTrue (is_pull p.1.body) → Pair
    pair_of p receipted asked = record { receipt = p.0; pull = p.1; receipted = receipted; asked = asked }

    pair_told : (a b : Pair) → a.receipt ≡ b.receipt → a.pull ≡ b.pull → a ≡ b
    pair_told a b r p =
        let both : (a.receipt, a.pull) ≡ (b.receipt, b.pull) = cc in
        subst (λ (t : Signal × Signal). (v : IsTrue (is_receipt t.0.body)) (w : IsTrue (is_pull t.1.body)) → pair_of t v w ≡ b) (sym both)
        (λ v w. let one : IsProp (IsTrue (is_receipt b.receipt.body)) = hlevel props in
        let two : IsProp (IsTrue (is_pull b.pull.body)) = hlevel props in
        ap (λ x. pair_of (b.receipt, b.pull) x w) (one v b.receipted) ∙ ap (pair_of (b.receipt, b.pull) b.receipted) (two w b.asked))
        a.receipted a.asked

-- at least one
pub some_receipt : (header : UserHeader) (ms nonce : ℕ) → ms ≤ MAX_MOMENT → (signal : Signal) × IsReceiptOf header ms nonce signal
some_receipt header ms nonce dated =
    let stamp = some_stamp ms dated in (
      record { stamp = stamp.0; id = signal_id nonce; ref_to = Some header.id; body = body.Receipt (Some header); whole = refl },
      record { stamped = stamp.1; named = refl; refers = refl; copies = refl },
    )

pub some_error : (code : ℕ) (row : ErrorRow) (about : Option (List ℕ)) (ms nonce : ℕ) → error_row code ≡ Some row → ms ≤ MAX_MOMENT
    → (signal : Signal) × IsErrorSignalOf code about ms nonce signal
some_error code row about ms nonce found dated =
    let stamp = some_stamp ms dated in (
      record { stamp = stamp.0; id = signal_id nonce; ref_to = about; body = body.Errors (error_item row about ∷ []); whole = refl },
      record { stamped = stamp.1; named = refl; refers = refl; tells = ap (option_map (λ r. body.Errors (error_item r about ∷ []))) found },
    )

pub some_pull : (mpc : List ℕ) (ms nonce : ℕ) → ms ≤ MAX_MOMENT → (signal : Signal) × IsPullOf mpc ms nonce signal
some_pull mpc ms nonce dated =
    let stamp = some_stamp ms dated in (
      record { stamp = stamp.0; id = signal_id nonce; ref_to = None; body = body.Pull mpc; whole = refl },
      record { stamped = stamp.1; named = refl; refers = refl; asks = refl },
    )

pub some_pair : (header : UserHeader) (mpc : List ℕ) (ms nonce : ℕ) → ms ≤ MAX_MOMENT → (pair : Pair) × IsPairOf header mpc ms nonce pair
some_pair header mpc ms nonce dated =
    let receipt = some_receipt header ms (next_nonce nonce) dated in
    let pull = some_pull mpc ms nonce dated in (
      record {
        receipt = receipt.0;
        pull = pull.0;
        receipted = ap is_receipt receipt.1.copies;
        asked = ap is_pull pull.1.asks;
      },
      record { receipt = receipt.1; pull = pull.1 },
    )
