-- The event that makes a submission: by the mode that its header belongs to.
use Rattle.std.proofs.Common.{◌≡◌, ℕ, suc, ◌<◌, inl, inr, List, [], ◌∷◌, false, Option, Some, None, length, refl, ap, sym, subst, ◌∙◌, arith}
use Rattle.std.specs.Prelude.{nat_le, nat_lt, slice_index_or}
use Rattle.std.proofs.lemmas.Bool.{cases_Bool, ltb-true, ltb-false}
use Rattle.std.proofs.lemmas.Bool.Decides.{nat_tests}
use Rattle.as4_audit.specs.Made.{AreOfEvent, IsMade, IsSubmitted, Makes, loads_of}
use Rattle.as4_audit.proofs.MadeLemmas.{makes_by}
use Rattle.as4_effects.specs.Sound.{nonce_in}
use Rattle.as4_effects.specs.declared.effect.Effect.TheVariants as effect
use Rattle.as4_effects.specs.declared.submission.Submission.{Submission}
use Rattle.as4_values.specs.Moment.{IsStampOf}
use Rattle.as4_values.specs.declared.header.UserHeader.{UserHeader}
use Rattle.exchange_laws.proofs.ListLemmas.{finds}
use Rattle.exchange_model.proofs.ListLemmas.{Has, has_found}
use Rattle.exchange_model.specs.End.{End}
use Rattle.exchange_model.specs.Submitting.{IsHeaderOf, IsSubmissionOf}
use Rattle.exchange_model.specs.Table.{Submits, TakesIn}
use Rattle.exchange_model.specs.declared.event.Event.{Event}
use Rattle.exchange_model.specs.declared.outcome.Outcome.{Outcome}
use Rattle.exchange_model.specs.declared.reply.Reply.TheVariants as reply
use Rattle.exchange_model.specs.declared.what.What.TheVariants as what
use Rattle.mode_values.proofs.MatchLemmas.{decides_terms}
use Rattle.mode_values.specs.ModeMatch.{are_same_terms, header_terms, mode_named, mode_of, mode_terms, Matches}
use Rattle.mode_values.specs.declared.mode.Mode.{Mode}
use Rattle.pmodes.specs.ModeList.{AreModes}

-- the place of an item
has_place : {X : Type 0} (xs : List X) (x : X) → Has xs x → (i : ℕ) × (i < length xs) × ((d : X) → slice_index_or xs i d ≡ x)
has_place [] x h = absurd h
has_place (y ∷ ys) x (inl e) = (0, omega arith, λ d. e)
has_place (y ∷ ys) x (inr h) = let r = has_place ys x h in (suc r.0, omega (arith, r.1), r.2)

-- modes of one list that the same messages belong to are one mode
one_mode : (modes : List Mode) (a b : Mode) → AreModes modes → Has modes a → Has modes b → mode_terms a ≡ mode_terms b → a ≡ b
one_mode modes a b are has_a has_b same =
    let p = has_place modes a has_a in
    let q = has_place modes b has_b in
    elim (cases_Bool (nat_lt p.0 q.0)) [
      | inl before ↦ absurd (are.apart p.0 q.0 a (ltb-true p.0 q.0 before) q.1 (ap mode_terms (p.2 a) ∙ same ∙ ap mode_terms (sym (q.2 a))))
      | inr later ↦ elim (cases_Bool (nat_lt q.0 p.0)) [
        | inl before ↦ absurd (are.apart q.0 p.0 a (ltb-true q.0 p.0 before) p.1 (ap mode_terms (q.2 a) ∙ sym same ∙ ap mode_terms (sym (p.2 a))))
        | inr not_later ↦
            let e : p.0 ≡ q.0 = omega (arith, ltb-false p.0 q.0 later, ltb-false q.0 p.0 not_later) in
            sym (p.2 a) ∙ ap (λ i. slice_index_or modes i a) e ∙ q.2 a
      ]
    ]

matching : (mode : Mode) (id : List ℕ) (ms : ℕ) (conversation : Option (List ℕ)) (count : ℕ) (header : UserHeader)
    → IsHeaderOf mode id ms conversation count header → Matches mode header
matching mode id ms conversation count header h = rw (h.from, h.to, h.service, h.action, h.agreement) refl

has_named : (modes : List Mode) (name : List ℕ) (mode : Mode) → mode_named modes name ≡ Some mode → Has modes mode
unfolding mode_named
has_named modes name mode e = (has_found _ modes mode e).0

-- the mode that the header belongs to is the one that made it
mode_is : (modes : List Mode) (end : End) (s : Submission) → IsSubmitted modes end s → (z : Mode) × (mode_of modes s.header ≡ Some z)
unfolding mode_of
mode_is modes end s made =
    finds (λ (m : Mode). are_same_terms (mode_terms m) (header_terms s.header)) modes made.mode (has_named modes made.mode.name made.mode made.named)
    ((decides_terms (mode_terms made.mode) (header_terms s.header)).1 (matching _ _ _ _ _ s.header made.made.headed))

same_mode : (modes : List Mode) (end : End) (s : Submission) (mode : Mode) → AreModes modes → (made : IsSubmitted modes end s)
    → mode_of modes s.header ≡ Some mode → made.mode ≡ mode
unfolding mode_of
same_mode modes end s mode are made found =
    let has = has_found (λ (m : Mode). are_same_terms (mode_terms m) (header_terms s.header)) modes mode found in
    one_mode modes made.mode mode are (has_named modes made.mode.name made.mode made.named) has.0
    (matching _ _ _ _ _ s.header made.made.headed ∙ sym ((decides_terms (mode_terms mode) (header_terms s.header)).0 has.1))

pub no_mode : (modes : List Mode) (end : End) (s : Submission) → None ≡ mode_of modes s.header → IsMade modes end (effect.Submitted s ∷ []) → ⊥
unfolding AreOfEvent
no_mode modes end s none made = let z = mode_is modes end s made.kind in let both : None ≡ Some z.0 = none ∙ z.1 in cc

pub no_stamp : (modes : List Mode) (end : End) (s : Submission) → ((ms : ℕ) → IsStampOf ms s.header.stamp → ⊥)
    → IsMade modes end (effect.Submitted s ∷ []) → ⊥
unfolding AreOfEvent
no_stamp modes end s none made = none made.kind.ms made.kind.made.headed.stamped

-- at another moment with the same stamp
restamped : (mode : Mode) (number now ms at nonce : ℕ) (s : Submission)
    → IsSubmissionOf mode number now ms nonce s.header.conversation (loads_of s.payloads) s → IsStampOf at s.header.stamp
    → IsSubmissionOf mode number now at nonce s.header.conversation (loads_of s.payloads) s
restamped mode number now ms at nonce s is stamped = record {
  numbered = is.numbered;
  headed = record {
    mpc = is.headed.mpc;
    stamped = stamped;
    named = is.headed.named;
    refers = is.headed.refers;
    from = is.headed.from;
    to = is.headed.to;
    agreement = is.headed.agreement;
    service = is.headed.service;
    action = is.headed.action;
    talks = is.headed.talks;
    properties = is.headed.properties;
    hrefs = is.headed.hrefs;
    bare = is.headed.bare;
  };
  loaded = is.loaded;
  route = is.route;
  retries = is.retries;
  period = is.period;
  moment = is.moment;
}

not_full : (n k : ℕ) → n < 1048576 → n ≡ k → nat_le 1048576 k ≡ false
not_full n k few e = grind (arith, nat_tests)

pub submit_makes : (modes : List Mode) (end : End) (s : Submission) (mode : Mode) (event : Event) → AreModes modes
    → Some mode ≡ mode_of modes s.header → event.what ≡ what.Submit mode.name s.header.conversation (loads_of s.payloads)
    → IsStampOf event.stamp s.header.stamp → event.nonce ≡ nonce_in s.number s.header.id
    → IsMade modes end (effect.Submitted s ∷ []) → Makes modes end event (effect.Submitted s ∷ [])
unfolding AreOfEvent Submits
submit_makes modes end s mode event are found asked stamped nonce made =
    let same : made.kind.mode ≡ mode = same_mode modes end s mode are made.kind (sym found) in
    let outcome : Outcome = record { effects = effect.Submitted s ∷ []; reply = reply.Submitted s.number s.header.id } in
    let is : IsSubmissionOf mode (length end.sent) end.moment event.stamp event.nonce s.header.conversation (loads_of s.payloads) s =
    subst (λ n. IsSubmissionOf mode (length end.sent) end.moment event.stamp n s.header.conversation (loads_of s.payloads) s) (sym nonce)
    (subst (λ (m : Mode). IsSubmissionOf m (length end.sent) end.moment event.stamp (nonce_in s.number s.header.id) s.header.conversation (loads_of s.payloads) s) same
    (restamped made.kind.mode (length end.sent) end.moment made.kind.ms event.stamp (nonce_in s.number s.header.id) s made.kind.made stamped)) in
    let named : mode_named modes mode.name ≡ Some mode = subst (λ (m : Mode). mode_named modes m.name ≡ Some m) same made.kind.named in
    let taken : TakesIn mode end event s.header.conversation (loads_of s.payloads) outcome = (s, is, refl) in
    makes_by modes end event (what.Submit mode.name s.header.conversation (loads_of s.payloads)) (effect.Submitted s ∷ []) outcome asked refl made.fits.room
    (rw (named, not_full s.number (length end.sent) s.numbered is.numbered, made.kind.small) taken)
