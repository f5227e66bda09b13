-- What the replies to producers and consumers say is true.
use Rattle.std.proofs.Common.{◌≡◌, ℕ, zero, suc, ◌<◌, ◌≤◌, ◌⊎◌, inl, inr, List, [], ◌∷◌, Bool, true, false, Option, Some, None, length, refl, sym, ap, ◌∙◌, subst, arith}
use Rattle.std.specs.Prelude.{nat_lt, slice_get, if◌then◌else◌}
use Rattle.std.proofs.lemmas.Bool.Decides.{nat_tests}
use Rattle.mode_values.specs.declared.mode.Mode.{Mode}
use Rattle.exchange_model.specs.End.{End}
use Rattle.exchange_model.specs.Questions.{sent_of}
use Rattle.exchange_model.specs.Table.{Rests, RowOf, IsLimited, Step, has_room, entry_reply, read_reply, standing_reply, mark_reply}
use Rattle.exchange_model.specs.Telling.{Tells, TellsOf}
use Rattle.exchange_model.specs.declared.event.Event.{Event}
use Rattle.exchange_model.specs.declared.inbox_entry.InboxEntry.{InboxEntry}
use Rattle.exchange_model.specs.declared.outcome.Outcome.{Outcome}
use Rattle.exchange_model.specs.declared.reply.Reply.{Reply}
use Rattle.exchange_model.specs.declared.reply.Reply.TheVariants as reply
use Rattle.as4_effects.specs.declared.mark.Mark.{Mark}
use Rattle.as4_effects.specs.declared.mark.Mark.TheVariants as mark
use Rattle.exchange_model.specs.declared.sent.Sent.{Sent}
use Rattle.exchange_model.specs.declared.what.What.{What}
use Rattle.exchange_model.specs.declared.what.What.TheVariants as what
use Rattle.exchange_laws.proofs.RoomLemmas.{rest_taken}

-- the reply of an event whose row changes nothing
replies : (modes : List Mode) (end : End) (event : Event) (outcome : Outcome) (w : What) (r : Reply)
    → ((row : Outcome) → RowOf modes end event w row → Rests r row) → Step modes end event outcome → event.what ≡ w → outcome.reply ≡ r
replies modes end event outcome w r rests step asked =
    let row : RowOf modes end event w step.row = subst (λ (x : What). RowOf modes end event x step.row) asked step.decided in
    ap (λ (o : Outcome). o.reply) (rest_taken end step.row outcome r step.limited (rests step.row row))

reads : (modes : List Mode) (end : End) (event : Event) (outcome : Outcome) (n : ℕ) → Step modes end event outcome → event.what ≡ what.Read n
    → outcome.reply ≡ read_reply end n
reads modes end event outcome n step asked = replies modes end event outcome (what.Read n) (read_reply end n) (λ row h. h) step asked

asks_standing : (modes : List Mode) (end : End) (event : Event) (outcome : Outcome) (id : List ℕ) → Step modes end event outcome
    → event.what ≡ what.Status id → outcome.reply ≡ standing_reply (sent_of id end.sent)
asks_standing modes end event outcome id step asked =
    replies modes end event outcome (what.Status id) (standing_reply (sent_of id end.sent)) (λ row h. h) step asked

pub not_below : (n m : ℕ) → m ≤ n → nat_lt n m ≡ false
not_below n m h = grind (arith, nat_tests)

is_below : (n m : ℕ) → n < m → nat_lt n m ≡ true
is_below n m h = grind (arith, nat_tests)

past_end : {X : Type 0} (xs : List X) (n : ℕ) → length xs ≤ n → slice_get xs n ≡ None
past_end [] n h = refl
past_end (x ∷ xs) zero h = absurd (omega arith)
past_end (x ∷ xs) (suc n) h = past_end xs n (omega arith)

read_at : (end : End) (n : ℕ) (o : Option InboxEntry) → end.confirmed ≤ n → slice_get end.inbox n ≡ o → read_reply end n ≡ entry_reply o
unfolding read_reply
read_at end n o later e =
    ap (λ (b : Bool). if b then reply.Gone else entry_reply (slice_get end.inbox n)) (not_below n end.confirmed later) ∙ ap entry_reply e

read_gone : (end : End) (n : ℕ) → n < end.confirmed → read_reply end n ≡ reply.Gone
unfolding read_reply
read_gone end n less = ap (λ (b : Bool). if b then reply.Gone else entry_reply (slice_get end.inbox n)) (is_below n end.confirmed less)

-- by its state
told_of : (s : Sent) (m : Mark) → TellsOf s m (mark_reply s.tries m)
told_of s mark.Pending = refl
told_of s mark.Receipted = refl
told_of s mark.Failed = refl
told_of s (mark.Refused code) = refl

is_receipted : (tries : ℕ) (m : Mark) → mark_reply tries m ≡ reply.Receipted → m ≡ mark.Receipted
is_receipted tries mark.Pending e = absurd cc
is_receipted tries mark.Receipted e = refl
is_receipted tries mark.Failed e = absurd cc
is_receipted tries (mark.Refused code) e = absurd cc

found_receipted : (o : Option Sent) → standing_reply o ≡ reply.Receipted → (s : Sent) × (o ≡ Some s) × (s.mark ≡ mark.Receipted)
found_receipted None e = absurd cc
found_receipted (Some s) e = (s, refl, is_receipted s.tries s.mark e)

pub tells : (modes : List Mode) (end : End) (event : Event) (outcome : Outcome) → Step modes end event outcome
    → Tells end event.what outcome.reply
tells modes end event outcome step = record {
  entry = λ n e asked at later. reads modes end event outcome n step asked ∙ read_at end n (Some e) later at;
  gone = λ n asked less. reads modes end event outcome n step asked ∙ read_gone end n less;
  none = λ n asked later past. reads modes end event outcome n step asked ∙ read_at end n None later (past_end end.inbox n past);
  stands = λ id s asked found. subst (TellsOf s s.mark)
      (sym (asks_standing modes end event outcome id step asked ∙ ap standing_reply found)) (told_of s s.mark);
  receipted = λ id asked told. found_receipted (sent_of id end.sent) (sym (asks_standing modes end event outcome id step asked) ∙ told);
}
