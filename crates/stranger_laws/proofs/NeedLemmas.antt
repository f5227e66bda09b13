-- The table doesn't look at the journal's size, so with an empty journal the same row is taken.
use Rattle.std.proofs.Common.{◌≡◌, ◌+◌, ◌≤◌, ◌==◌, ◌||◌, ℕ, inl, inr, List, [], ◌∷◌, Bool, true, false, Option, Some, None, length, refl, sym, ap, ◌∙◌, subst, arith, le-leb, leb-true}
use Rattle.std.specs.Prelude.{◌≢◌, MatchOption}
use Rattle.std.specs.Bool.{MatchBool}
use Rattle.std.proofs.lemmas.Bool.{false≢true, ne_eqb}
use Rattle.as4_effects.specs.declared.effect.Effect.{Effect}
use Rattle.as4_effects.specs.declared.effect.Effect.TheVariants as effect
use Rattle.as4_values.specs.declared.message.Message.TheVariants as message
use Rattle.as4_values.specs.declared.signal.Signal.{Signal}
use Rattle.as4_values.specs.declared.signal_body.SignalBody.{SignalBody}
use Rattle.as4_values.specs.declared.signal_body.SignalBody.TheVariants as body
use Rattle.as4_values.specs.declared.route.Route.{Route}
use Rattle.as4_values.specs.declared.route.Route.TheVariants as route
use Rattle.mode_values.specs.ModeMatch.{mode_named}
use Rattle.mode_values.specs.declared.mode.Mode.{Mode}
use Rattle.exchange_model.specs.Apply.{after, after_all, record_len}
use Rattle.exchange_model.specs.End.{End, empty_end}
use Rattle.exchange_model.specs.Fold.{resized}
use Rattle.exchange_model.specs.LosslessRound.{IsFull}
use Rattle.exchange_model.specs.Questions.{head_of}
use Rattle.exchange_model.specs.Room.{HasRoomForOne}
use Rattle.exchange_model.specs.Table.{AsksWith, AsksWithBy, Confirms, IsLimited, PairComes, PullComes, PullsBehind, ReceiptComes, Rests, RowOf, SignalComes, Step, Submits, Takes, Ticks, UserComes, has_room, journal_limit, is_quiet, read_reply}
use Rattle.exchange_model.specs.declared.event.Event.{Event}
use Rattle.exchange_model.specs.declared.outcome.Outcome.{Outcome}
use Rattle.exchange_model.specs.declared.reply.Reply.{Reply}
use Rattle.exchange_model.specs.declared.reply.Reply.TheVariants as reply
use Rattle.exchange_model.specs.declared.what.What.{What}
use Rattle.exchange_model.specs.declared.what.What.TheVariants as what
use Rattle.exchange_laws.proofs.EndSteps.{by_bool}
use Rattle.exchange_laws.proofs.RoomLemmas.{IsSmall, row_taken}
use Rattle.stranger_laws.specs.NoRoom.{HasCodes, NeedsRecord}
use Rattle.stranger_laws.proofs.FullLemmas.{row_fits}
use Rattle.stranger_laws.proofs.ReplyLemmas.{Suits, row_suits}

-- effects don't look at the size

after_resized : (e : Effect) (size : ℕ) (end : End) → after e (resized size end) ≡ resized size (after e end)
unfolding after
after_resized (effect.Submitted submission) size end = refl
after_resized (effect.Ticked tick) size end = refl
after_resized (effect.Tried number) size end = refl
after_resized (effect.Delivered delivery) size end = refl
after_resized (effect.Receipted number) size end = refl
after_resized (effect.Refused number code) size end = refl
after_resized (effect.Confirmed upto) size end = refl
after_resized (effect.Carried carried) size end = refl
after_resized (effect.Kept kept) size end = refl

all_resized : (effects : List Effect) (size : ℕ) (end : End) → after_all effects (resized size end) ≡ resized size (after_all effects end)
all_resized [] size end = refl
all_resized (e ∷ effects) size end = ap (after_all effects) (after_resized e size end) ∙ all_resized effects size (after e end)

-- nor do the rows

signal_resized : (modes : List Mode) (size : ℕ) (end : End) (event : Event) (id : List ℕ) (ref_to : Option (List ℕ)) (b : SignalBody) (row : Outcome)
    → SignalComes modes end event id ref_to b row → SignalComes modes (resized size end) event id ref_to b row
unfolding PullComes ReceiptComes head_of
signal_resized modes size end event id ref_to (body.Pull mpc) row h = h
signal_resized modes size end event id ref_to (body.Receipt copy) row h = h
signal_resized modes size end event id ref_to (body.Errors items) row h = h

pulls_resized : (modes : List Mode) (size : ℕ) (end : End) (event : Event) (pull : Signal) (settled row : Outcome)
    → PullsBehind modes end event pull settled row → PullsBehind modes (resized size end) event pull settled row
pulls_resized modes size end event pull settled row h = (
  h.0,
  subst (λ (e : End). SignalComes modes e event pull.id pull.ref_to pull.body h.0) (sym (all_resized settled.effects size end))
      (signal_resized modes size (after_all settled.effects end) event pull.id pull.ref_to pull.body h.0 h.1),
  h.2,
)

match_first : (P Q R : Type 0) (b : Bool) → (P → R) → MatchBool b P Q → MatchBool b R Q
match_first P Q R true f h = f h
match_first P Q R false f h = h

pair_resized : (modes : List Mode) (size : ℕ) (end : End) (event : Event) (receipt pull : Signal) (row : Outcome)
    → PairComes modes end event receipt pull row → PairComes modes (resized size end) event receipt pull row
unfolding PairComes
pair_resized modes size end event receipt pull row h = (
  h.0,
  signal_resized modes size end event receipt.id receipt.ref_to receipt.body h.0 h.1,
  match_first _ _ _ (is_quiet h.0.reply) (pulls_resized modes size end event pull h.0 row) h.2,
)

match_some : {X : Type 0} (P : Type 0) (Q R : X → Type 0) (o : Option X) → ((x : X) → Q x → R x) → MatchOption o P Q → MatchOption o P R
match_some P Q R None f h = h
match_some P Q R (Some x) f h = f x h

asks_with_resized : (modes : List Mode) (size : ℕ) (end : End) (event : Event) (name : List ℕ) (n : ℕ) (row : Outcome)
    → AsksWith modes end event name n row → AsksWith modes (resized size end) event name n row
unfolding AsksWith
asks_with_resized modes size end event name n row h = match_some _ _ _ (mode_named modes name) (λ mode. asked mode.route) h
  where
    asked : (r : Route) → AsksWithBy r end event n row → AsksWithBy r (resized size end) event n row
    asked (route.Push address) k = k
    asked (route.Pull mpc address) k = k

row_resized : (modes : List Mode) (size : ℕ) (end : End) (event : Event) (w : What) (row : Outcome) → RowOf modes end event w row
    → RowOf modes (resized size end) event w row
unfolding Submits Ticks Takes UserComes Confirms read_reply head_of
row_resized modes size end event (what.Submit mode conversation loads) row h = h
row_resized modes size end event what.Tick row h = h
row_resized modes size end event what.Take row h = h
row_resized modes size end event (what.Ask mode) row h = h
row_resized modes size end event (what.AskWith mode n) row h = asks_with_resized modes size end event mode n row h
row_resized modes size end event (what.Came (message.User header payloads)) row h = h
row_resized modes size end event (what.Came (message.Signal signal)) row h =
    signal_resized modes size end event signal.id signal.ref_to signal.body row h
row_resized modes size end event (what.Came (message.Pair pair)) row h = pair_resized modes size end event pair.receipt pair.pull row h
row_resized modes size end event (what.Read n) row h = h
row_resized modes size end event (what.Confirm upto) row h = h
row_resized modes size end event (what.Status id) row h = h

-- a row doesn't say "full"
not_full : (w : What) (r : Reply) → Suits w r → IsFull r → ⊥
not_full w (reply.Full size need) suits full = suits
not_full w other suits full = full

-- an empty journal has room for any row

empty_room : (end : End) → HasRoomForOne (resized empty_end.size end)
empty_room end = omega arith

small_fits : (end : End) (row : Outcome) → HasRoomForOne end → IsSmall row.effects → (IsFull row.reply → ⊥) → has_room end row.effects ≡ true
small_fits end row room small is_row = by_test (has_room end row.effects) refl
  where
    out : Outcome
    out = record { effects = []; reply = reply.Full end.size (record_len row.effects) }

    by_test : (b : Bool) → has_room end row.effects ≡ b → b ≡ true
    by_test true has = refl
    by_test false none =
        let limited : IsLimited end row out = rw none refl in
        absurd (is_row (subst (λ (o : Outcome). IsFull o.reply) (row_taken end row out limited (inr (room, small))) tt))

room_when_empty : (modes : List Mode) (end : End) (event : Event) (w : What) (row : Outcome) → HasCodes w → RowOf modes (resized empty_end.size end) event w row
    → (IsFull row.reply → ⊥) → has_room (resized empty_end.size end) row.effects ≡ true
room_when_empty modes end event w row codes decided is_row =
    elim (row_fits modes (resized empty_end.size end) event w row codes (empty_room end) decided) [
      | inl small ↦ small_fits (resized empty_end.size end) row (empty_room end) small is_row
      | inr has ↦ has
    ]

-- so it is the outcome there
taken_there : (end : End) (row : Outcome) → has_room end row.effects ≡ true → IsLimited end row row
taken_there end row has = rw has refl

-- without effects there is room
has_effects : (end : End) (effects : List Effect) → has_room end effects ≡ false → effects ≢ []
unfolding has_room
has_effects end effects none e = false≢true (sym none ∙ ap (has_room end) e)

-- with room for its record a row has room
fits : (end : End) (effects : List Effect) (n : ℕ) → record_len effects ≡ n → end.size + n ≤ journal_limit → has_room end effects ≡ true
unfolding has_room
fits end effects n len room =
    let some : end.size + record_len effects ≤ journal_limit = omega (arith, len, room) in
    or_true (length effects == 0) _ (le-leb (end.size + record_len effects) journal_limit some)
  where
    or_true : (a b : Bool) → b ≡ true → (a || b) ≡ true
    or_true true b is = refl
    or_true false b is = is

-- and the other way round, if it has effects
had : (end : End) (effects : List Effect) → effects ≢ [] → has_room end effects ≡ true → end.size + record_len effects ≤ journal_limit
unfolding has_room
had end [] some has = absurd (some refl)
had end (e ∷ effects) some has =
    leb-true (end.size + record_len (e ∷ effects)) journal_limit
    (second (length (e ∷ effects) == 0) _ (ne_eqb (length (e ∷ effects)) 0 (λ none. omega arith)) has)
  where
    second : (a b : Bool) → a ≡ false → (a || b) ≡ true → b ≡ true
    second true b is has = absurd (false≢true (sym is))
    second false b is has = has

pub needs_record : (modes : List Mode) (end : End) (event : Event) (outcome : Outcome) (size need : ℕ) → Step modes end event outcome
    → outcome.reply ≡ reply.Full size need → HasCodes event.what → NeedsRecord modes end event need
needs_record modes end event outcome size need step told codes =
    by_bool _ _ _ (has_room end step.row.effects) step.limited (λ _ same. absurd (row_full (subst (λ (o : Outcome). o.reply ≡ reply.Full size need) same told))) out
  where
    suits : Suits event.what step.row.reply
    suits = row_suits modes end event event.what step.row step.decided

    row_full : step.row.reply ≡ reply.Full size need → ⊥
    row_full e = subst (Suits event.what) e suits

    there : RowOf modes (resized empty_end.size end) event event.what step.row
    there = row_resized modes empty_end.size end event event.what step.row step.decided

    out : has_room end step.row.effects ≡ false → Rests (reply.Full end.size (record_len step.row.effects)) outcome → NeedsRecord modes end event need
    out none full =
        let both : reply.Full end.size (record_len step.row.effects) ≡ reply.Full size need = sym (ap (λ (o : Outcome). o.reply) full) ∙ told in
        let one : record_len step.row.effects ≡ need = cc in
        record {
          outcome = step.row;
          steps = λ size room. record {
            row = step.row;
            decided = row_resized modes size end event event.what step.row step.decided;
            limited = taken_there (resized size end) step.row (fits (resized size end) step.row.effects need one room);
          };
          empty =
              let has = room_when_empty modes end event event.what step.row codes there (not_full event.what step.row.reply suits) in
              omega (arith, one, had (resized empty_end.size end) step.row.effects (has_effects end step.row.effects none) has);
          taken = not_full event.what step.row.reply suits;
          some = has_effects end step.row.effects none;
          len = one;
        }
