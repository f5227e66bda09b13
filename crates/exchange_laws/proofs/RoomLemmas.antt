-- Where the journal has room for any effect, the outcome of an event is its row.
use Rattle.std.proofs.Common.{◌≡◌, ℕ, ◌+◌, ◌≤◌, ◌⊎◌, inl, inr, List, [], ◌∷◌, ◌++◌, Bool, true, false, Option, Some, length, length-append, refl, sym, ap, ◌∙◌, subst, arith}
use Rattle.std.specs.Prelude.{◌==◌, ◌||◌, nat_le}
use Rattle.std.specs.List.{flat_map}
use Rattle.std.specs.Option.{option_and_then}
use Rattle.std.proofs.lemmas.Bool.Decides.{nat_tests}
use Rattle.as4_effects.proofs.LengthLemmas.{number_length}
use Rattle.as4_effects.specs.Bodies.{number_body}
use Rattle.as4_effects.specs.Effects.{effect_body, effects_body}
use Rattle.as4_effects.specs.Sound.{effect_limit, fits_an_effect}
use Rattle.as4_effects.specs.declared.effect.Effect.{Effect}
use Rattle.as4_effects.specs.declared.effect.Effect.TheVariants as effect
use Rattle.as4_effects.specs.declared.queue.Queue.TheVariants as queue
use Rattle.mode_values.specs.ModeMatch.{mode_named, mode_of, channel_mode}
use Rattle.as4_values.specs.declared.header.UserHeader.{UserHeader}
use Rattle.as4_values.specs.declared.message.Pair.{Pair}
use Rattle.mode_values.specs.declared.mode.Mode.{Mode}
use Rattle.as4_values.specs.declared.payload.Load.{Load}
use Rattle.as4_values.specs.declared.payload.Payload.{Payload}
use Rattle.exchange_model.specs.Apply.{record_len}
use Rattle.exchange_model.specs.End.{End}
use Rattle.exchange_model.specs.LosslessRound.{IsFull}
use Rattle.exchange_model.specs.Questions.{head_of, is_known, is_pending, sent_of}
use Rattle.exchange_model.specs.Room.{HasRoomForOne}
use Rattle.exchange_model.specs.Submitting.{are_too_large}
use Rattle.exchange_model.specs.Table.{Errs, Receipts, Rests, Submits, Takes, UserComes, PullComes, Settles, IsOther, ReceiptComes, PairComes, RowOf, IsLimited, Step, has_room, journal_limit}
use Rattle.exchange_model.specs.declared.event.Event.{Event}
use Rattle.exchange_model.specs.declared.outcome.Outcome.{Outcome}
use Rattle.exchange_model.specs.declared.reply.Reply.{Reply}
use Rattle.exchange_model.specs.declared.sent.Sent.{Sent}
use Rattle.exchange_model.specs.declared.what.What.{What}
use Rattle.exchange_laws.proofs.EndSteps.{by_option, by_bool}
use Rattle.exchange_laws.proofs.PairRows.{pair_cases}

-- at most one effect, within its limit, or two effects with only a number each
abbrev pub IsSmall : List Effect → Type 0
IsSmall [] = Unit {0}
IsSmall (e ∷ []) = length (effect_body e) ≤ effect_limit
IsSmall (e ∷ f ∷ []) = (length (effect_body e) ≡ 9) × (length (effect_body f) ≡ 9)
IsSmall (e ∷ f ∷ g ∷ effects) = ⊥

fitting : (body : List ℕ) → fits_an_effect body ≡ true → length body ≤ effect_limit
unfolding fits_an_effect
fitting body fits = grind (arith, nat_tests)

numbered : (kind number : ℕ) → length (kind ∷ number_body 8 number) ≤ effect_limit
numbered kind number = omega (arith, number_length 8 number)

-- the record of one effect is eleven bytes longer
one_record : (e : Effect) → record_len (e ∷ []) ≡ length (effect_body e) + 11
unfolding record_len effects_body
one_record e =
    simp length-append (omega (arith, number_length 2 1, length-append (effect_body e) []))

two_records : (e f : Effect) → record_len (e ∷ f ∷ []) ≡ length (effect_body e) + length (effect_body f) + 11
unfolding record_len effects_body
two_records e f =
    simp length-append (omega (arith, number_length 2 2, length-append (effect_body e) (effect_body f ++ []), length-append (effect_body f) []))

room_for_two : (end : End) (e f : Effect) → HasRoomForOne end → (length (effect_body e) ≡ 9) × (length (effect_body f) ≡ 9)
    → nat_le (end.size + record_len (e ∷ f ∷ [])) journal_limit ≡ true
room_for_two end e f room short =
    let len : record_len (e ∷ f ∷ []) ≡ 29 = two_records e f ∙ omega (arith, short.0, short.1) in
    at_most_limit (end.size + record_len (e ∷ f ∷ [])) (omega (arith, room, len))
  where
    at_most_limit : (n : ℕ) → n ≤ journal_limit → nat_le n journal_limit ≡ true
    at_most_limit n h = grind (arith, nat_tests)

room_for_one : (end : End) (e : Effect) → HasRoomForOne end → length (effect_body e) ≤ effect_limit → nat_le (end.size + record_len (e ∷ [])) journal_limit ≡ true
room_for_one end e room short = let len = one_record e in grind (arith, nat_tests)

has_room_for : (end : End) (effects : List Effect) → HasRoomForOne end → IsSmall effects → has_room end effects ≡ true
unfolding has_room
has_room_for end [] room small = refl
has_room_for end (e ∷ []) room small = room_for_one end e room small
has_room_for end (e ∷ f ∷ []) room small = room_for_two end e f room small
has_room_for end (e ∷ f ∷ g ∷ effects) room small = absurd small

-- the journal isn't full, or has room for the record of the row
abbrev pub CanWrite : End → Outcome → Outcome → Type 0
CanWrite end row outcome = (IsFull outcome.reply → ⊥) ⊎ (HasRoomForOne end × IsSmall row.effects)

-- so the outcome is the row
pub row_taken : (end : End) (row outcome : Outcome) → IsLimited end row outcome → CanWrite end row outcome → outcome ≡ row
row_taken end row outcome limited (inl roomy) =
    by_bool _ _ _ (has_room end row.effects) limited (λ _ same. same)
    (λ _ full. absurd (roomy (subst (λ (o : Outcome). IsFull o.reply) (sym full) tt)))
row_taken end row outcome limited (inr small) =
    by_bool _ _ _ (has_room end row.effects) limited (λ _ same. same)
    (λ none _. absurd (let no : false ≡ true = sym none ∙ has_room_for end row.effects small.0 small.1 in cc))

-- a row that changes nothing is taken
pub rest_taken : (end : End) (row outcome : Outcome) (r : Reply) → IsLimited end row outcome → Rests r row → Rests r outcome
unfolding has_room
rest_taken end row outcome r limited rests = subst (λ (o : Outcome). IsLimited end o outcome) rests limited

-- the rows that are small
errs : (code : ℕ) (about : List ℕ) (event : Event) (row : Outcome) → Errs code about event row → IsSmall row.effects
errs code about event row h = subst (λ (o : Outcome). IsSmall o.effects) (sym h.2) tt

pub submits_small : (modes : List Mode) (end : End) (event : Event) (name : List ℕ) (conversation : Option (List ℕ)) (loads : List Load) (row : Outcome)
    → Submits modes end event name conversation loads row → IsSmall row.effects
unfolding Submits effect_body
submits_small modes end event name conversation loads row h =
    by_option _ _ _ (mode_named modes name) h rests (λ mode _ k.
    by_bool _ _ _ (nat_le 1048576 (length end.sent)) k (λ _. rests) (λ _ l.
    by_bool _ _ _ (are_too_large loads) l (λ _. rests) (λ _ t.
    subst (λ (o : Outcome). IsSmall o.effects) (sym t.2) (fitting _ t.0.fits))))
  where
    rests : {r : _} → row ≡ record { effects = []; reply = r } → IsSmall row.effects
    rests e = subst (λ (o : Outcome). IsSmall o.effects) (sym e) tt

pub takes_small : (end : End) (row : Outcome) → Takes end row → IsSmall row.effects
unfolding Takes effect_body
takes_small end row h =
    by_option _ _ _ (head_of queue.Push end) h (λ r. subst (λ (o : Outcome). IsSmall o.effects) (sym r) tt)
    (λ s _ g. subst (λ (o : Outcome). IsSmall o.effects) (sym g) (numbered 3 s.submission.number))

pub pull_small : (modes : List Mode) (end : End) (event : Event) (id mpc : List ℕ) (row : Outcome) → PullComes modes end event id mpc row
    → IsSmall row.effects
unfolding PullComes effect_body
pull_small modes end event id mpc row h =
    by_option _ _ _ (channel_mode modes mpc) h (errs 1 id event row) (λ mode _ k.
    by_option _ _ _ (head_of (queue.Channel mpc) end) k (errs 6 id event row)
    (λ s _ g. subst (λ (o : Outcome). IsSmall o.effects) (sym g) (numbered 3 s.submission.number)))

-- a pull request sends a head, or nothing
pub pull_few : (modes : List Mode) (end : End) (event : Event) (id mpc : List ℕ) (row : Outcome) → PullComes modes end event id mpc row
    → (row.effects ≡ []) ⊎ ((number : ℕ) × (row.effects ≡ effect.Tried number ∷ []))
unfolding PullComes
pull_few modes end event id mpc row h =
    by_option _ _ _ (channel_mode modes mpc) h (λ e. inl (ap (λ (o : Outcome). o.effects) e.2)) (λ mode _ k.
    by_option _ _ _ (head_of (queue.Channel mpc) end) k (λ e. inl (ap (λ (o : Outcome). o.effects) e.2))
    (λ s _ g. inr (s.submission.number, ap (λ (o : Outcome). o.effects) g)))

pub pair_small : (modes : List Mode) (end : End) (event : Event) (pair : Pair) (row : Outcome)
    → PairComes modes end event pair.receipt pair.pull row → IsSmall row.effects
unfolding effect_body
pair_small modes end event pair row h = elim (pair_cases modes end event pair row h) [
  | inl r ↦ errs r.code r.about event row r.errs
  | inr s ↦ elim s.row [
    | inl a ↦ pull_small modes end event pair.pull.id s.mpc row a.row
    | inr b ↦ both s.one.submission.number b.pulled b.is (pull_few modes _ event pair.pull.id s.mpc b.pulled b.row)
  ]
]
  where
    nine : (kind number : ℕ) → length (kind ∷ number_body 8 number) ≡ 9
    nine kind number = omega (arith, number_length 8 number)

    both : (number : ℕ) (pulled : Outcome) → row ≡ record { effects = effect.Receipted number ∷ pulled.effects; reply = pulled.reply }
        → (pulled.effects ≡ []) ⊎ ((n : ℕ) × (pulled.effects ≡ effect.Tried n ∷ [])) → IsSmall row.effects
    both number pulled is (inl none) =
        subst IsSmall (sym (ap (λ (o : Outcome). o.effects) is ∙ ap (λ (es : List Effect). effect.Receipted number ∷ es) none)) (numbered 5 number)
    both number pulled is (inr one) =
        subst IsSmall (sym (ap (λ (o : Outcome). o.effects) is ∙ ap (λ (es : List Effect). effect.Receipted number ∷ es) one.1))
        (nine 5 number, nine 3 one.0)

pub user_small : (modes : List Mode) (end : End) (event : Event) (header : UserHeader) (payloads : List Payload) (row : Outcome)
    → UserComes modes end event header payloads row → IsSmall row.effects
unfolding UserComes effect_body
user_small modes end event header payloads row h =
    by_option _ _ _ (mode_of modes header) h (errs 10 header.id event row) (λ mode _ k.
    by_bool _ _ _ (is_known header.id end.inbox) k (λ _ a. subst (λ (o : Outcome). IsSmall o.effects) (sym a.2) tt)
    (λ _ d. subst (λ (o : Outcome). IsSmall o.effects) (sym d.3.2) (fitting _ d.0.fits)))

pub receipt_small : (end : End) (event : Event) (id : List ℕ) (ref_to : Option (List ℕ)) (copy : Option UserHeader) (row : Outcome)
    → ReceiptComes end event id ref_to copy row → IsSmall row.effects
unfolding ReceiptComes effect_body
receipt_small end event id ref_to copy row h =
    by_option _ _ _ (option_and_then (λ ref. sent_of ref end.sent) ref_to) h (errs 3 id event row) (λ s _ k.
    elim k [ inl other ↦ errs 302 id event row other.1 | inr own ↦ settles s own.1 ])
  where
    settles : (s : Sent) → Settles s row → IsSmall row.effects
    settles s k = by_bool _ _ _ (is_pending s) k (λ _ g. subst (λ (o : Outcome). IsSmall o.effects) (sym g) (numbered 5 s.submission.number))
        (λ _ r. subst (λ (o : Outcome). IsSmall o.effects) (sym r) tt)
