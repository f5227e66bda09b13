-- An invariant of reached endpoints: `IsSound` holds at the start, and each effect that fits keeps it.
use Rattle.std.proofs.Common.{◌≡◌, ℕ, ◌≤◌, List, [], ◌∷◌, Bool, true, false, Option, Some, None, length, refl, sym, subst, arith}
use Rattle.std.specs.Prelude.{◌==◌, ◌&&◌, nat_le, nat_lt, not, suc, if◌then◌else◌, option_map}
use Rattle.std.proofs.lemmas.Bool.{eqb-true, leb-true, ltb-true, not-true}
use Rattle.as4_effects.specs.declared.effect.Effect.{Effect}
use Rattle.as4_effects.specs.declared.effect.Effect.TheVariants as effect
use Rattle.as4_effects.specs.declared.mark.Mark.TheVariants as mark
use Rattle.as4_effects.specs.declared.submission.Submission.{Submission}
use Rattle.exchange_model.specs.Apply.{after, after_all, applied, are_tries, as_carried, first_unfit, is_fit, is_next, is_one, unsent}
use Rattle.exchange_model.specs.End.{End, empty_end}
use Rattle.exchange_model.specs.Questions.{is_known, sent_of}
use Rattle.exchange_model.proofs.NumberedLemmas.{none_numbered}
use Rattle.exchange_laws.proofs.SentLemmas.{and_left, and_right}
use Rattle.fold_laws.specs.Reached.{Turn, Leads, IsReached}
use Rattle.fold_laws.proofs.Held.{IsInbox, inbox_confirmed, inbox_delivered, inbox_kept}
use Rattle.fold_laws.proofs.Standing.{AreStanding, IsStanding, carried_stands, standing_push, standing_settled, standing_ticked, standing_tried, unsent_stands}

pub record IsSound (end : End) : Type 0 where
  pub sent : AreStanding end.moment end.sent
  pub inbox : IsInbox end.inbox end.confirmed
  pub dated : end.moment ≤ 253402300799999

sound_first : IsSound empty_end
sound_first = record {
  sent = record { numbered = none_numbered; each = λ s h. absurd h };
  inbox = record { came = omega arith; apart = tt; held = tt };
  dated = omega arith;
}

-- the next submission has the next number
next_number : (s : Submission) (end : End) → is_next s end ≡ true → s.number ≡ length end.sent
next_number s end next =
    eqb-true s.number (length end.sent)
    (and_left (s.number == length end.sent) (not (is_one (λ t. true) (sent_of s.header.id end.sent))) next)

-- each effect that fits keeps it
sound_after : (e : Effect) (end : End) → is_fit e end ≡ true → IsSound end → IsSound (after e end)
unfolding after is_fit
sound_after (effect.Submitted s) end fits sound = record {
  sent = standing_push end.moment end.sent (unsent s) (next_number s end fits) (unsent_stands end.moment s) sound.sent;
  inbox = sound.inbox;
  dated = sound.dated;
}
sound_after (effect.Ticked tick) end fits sound =
    record { sent = standing_ticked end.moment tick.moment end.sent sound.sent; inbox = sound.inbox; dated = tick.dated }
sound_after (effect.Tried number) end fits sound =
    record { sent = standing_tried end.moment number end.sent sound.dated fits sound.sent; inbox = sound.inbox; dated = sound.dated }
sound_after (effect.Delivered d) end fits sound = record {
  sent = sound.sent;
  inbox = inbox_delivered end.inbox end.confirmed (record { header = d.header; payloads = d.payloads })
      (not-true (is_known d.header.id end.inbox) fits) (d.paired, d.fits) sound.inbox;
  dated = sound.dated;
}
sound_after (effect.Receipted number) end fits sound =
    record { sent = standing_settled end.moment number mark.Receipted end.sent refl refl sound.sent; inbox = sound.inbox; dated = sound.dated }
sound_after (effect.Refused number code) end fits sound =
    record { sent = standing_settled end.moment number (mark.Refused code) end.sent refl refl sound.sent; inbox = sound.inbox; dated = sound.dated }
sound_after (effect.Confirmed upto) end fits sound = record {
  sent = sound.sent;
  inbox = inbox_confirmed end.inbox end.confirmed upto
      (leb-true end.confirmed upto (and_left (nat_le end.confirmed upto) (nat_lt upto (length end.inbox)) fits))
      (ltb-true upto (length end.inbox) (and_right (nat_le end.confirmed upto) (nat_lt upto (length end.inbox)) fits)) sound.inbox;
  dated = sound.dated;
}
sound_after (effect.Carried c) end fits sound =
    let next : Bool = is_next c.submission end in
    let counts : Bool = are_tries (as_carried c) in
    let first : end.moment ≡ 0 = eqb-true end.moment 0 (and_left (end.moment == 0) (next && counts) fits) in
    let both : (next && counts) ≡ true = and_right (end.moment == 0) (next && counts) fits in
    let number : c.submission.number ≡ length end.sent = next_number c.submission end (and_left next counts both) in
    record {
      sent = standing_push end.moment end.sent (as_carried c) number
          (subst (λ m. IsStanding m (as_carried c)) (sym first) (carried_stands c (and_right next counts both))) sound.sent;
      inbox = sound.inbox;
      dated = sound.dated;
    }
sound_after (effect.Kept k) end fits sound =
    let new : Bool = not (is_known k.header.id end.inbox) in
    let whole : Bool = end.confirmed == length end.inbox in
    record {
      sent = sound.sent;
      inbox = inbox_kept end.inbox end.confirmed (record { header = k.header; payloads = [] })
          (not-true (is_known k.header.id end.inbox) (and_left new whole fits)) (eqb-true end.confirmed (length end.inbox) (and_right new whole fits))
          (refl, k.fits) sound.inbox;
      dated = sound.dated;
    }

-- where none is unfit, the first fits, and so do the later ones
first_fits : (b : Bool) (o : Option ℕ) → (if b then option_map suc o else Some 0) ≡ None → (b ≡ true) × (o ≡ None)
first_fits true None e = (refl, refl)
first_fits true (Some n) e = absurd cc
first_fits false o e = absurd cc

pub sound_all : (effects : List Effect) (end : End) → first_unfit effects end ≡ None → IsSound end → IsSound (after_all effects end)
sound_all [] end fits sound = sound
sound_all (e ∷ effects) end fits sound =
    let both = first_fits (is_fit e end) (first_unfit effects (after e end)) fits in
    sound_all effects (after e end) both.1 (sound_after e end both.0 sound)

sound_applied : (effects : List Effect) (end : End) → first_unfit effects end ≡ None → IsSound end → IsSound (applied effects end)
unfolding applied
sound_applied [] end fits sound = sound
sound_applied (e ∷ effects) end fits sound =
    let all = sound_all (e ∷ effects) end fits sound in record { sent = all.sent; inbox = all.inbox; dated = all.dated }

sound_led : (turns : List Turn) (start end : End) → Leads turns start end → IsSound start → IsSound end
sound_led [] start end same sound = subst IsSound same sound
sound_led (Turn.Makes effects ∷ turns) start end way sound =
    sound_led turns (applied effects start) end way.1 (sound_applied effects start way.0 sound)
sound_led (Turn.Resizes size ∷ turns) start end way sound =
    sound_led turns _ end way (record { sent = sound.sent; inbox = sound.inbox; dated = sound.dated })

pub reached_sound : (end : End) → IsReached end → IsSound end
reached_sound end reached = sound_led reached.0 empty_end end reached.1 sound_first
