-- A reached endpoint can be written, and an endpoint that can be written has a compaction.
use Rattle.std.proofs.Common.{◌≡◌, ℕ, zero, suc, ◌^◌, ◌<◌, ◌≤◌, inl, inr, List, [], ◌∷◌, ◌++◌, true, take, drop, refl, arith}
use Rattle.std.proofs.lemmas.Bool.Decides.{nat_tests}
use Rattle.as4_effects.specs.declared.effect.Effect.{Effect}
use Rattle.as4_effects.specs.declared.effect.Effect.TheVariants as effect
use Rattle.as4_effects.specs.declared.effect.Tick.{Tick}
use Rattle.exchange_model.specs.Apply.{are_tries}
use Rattle.exchange_model.specs.End.{End}
use Rattle.exchange_model.specs.Fold.{ItemByItem, CarriesOver, KeepsHeader, DeliversAgain, SetsClock, IsFolded}
use Rattle.exchange_model.specs.declared.sent.Sent.{Sent}
use Rattle.exchange_model.proofs.ListLemmas.{Has}
use Rattle.exchange_laws.proofs.ListLemmas.{contains_had, has_contained}
use Rattle.fold_laws.specs.Reached.{IsReached}
use Rattle.fold_laws.specs.Written.{CanBeWritten}
use Rattle.fold_laws.proofs.Held.{has_taken, has_untaken}
use Rattle.fold_laws.proofs.Sound.{IsSound, reached_sound}

-- a submission is sent at most 1,001 times
few_tries : (s : Sent) → are_tries s ≡ true → s.tries < 2 ^ 32
few_tries s tries = let limited = s.submission.limited in grind (arith, nat_tests)

written : (end : End) → IsSound end → CanBeWritten end
written end sound = record {
  tried = λ s c. (sound.sent.each s (has_contained end.sent s c)).last;
  counted = λ s c. few_tries s (sound.sent.each s (has_contained end.sent s c)).tries;
  kept = λ entry c. (has_taken end.inbox end.confirmed entry sound.inbox.held (has_contained (take end.confirmed end.inbox) entry c)).1;
  delivered = λ entry c. has_untaken end.inbox end.confirmed entry sound.inbox.held (has_contained (drop end.confirmed end.inbox) entry c);
  dated = sound.dated;
}

pub reached_written : (end : End) → IsReached end → CanBeWritten end
reached_written end reached = written end (reached_sound end reached)

-- where each item has one, there is such a list
some_each : {X Y : Type 0} (is : X → Y → Type 0) (xs : List X) → ((x : X) → Has xs x → (y : Y) × is x y) → (ys : List Y) × ItemByItem is xs ys
some_each is [] some = ([], tt)
some_each is (x ∷ xs) some =
    let first = some x (inl refl) in
    let rest = some_each is xs (λ z h. some z (inr h)) in
    (first.0 ∷ rest.0, (first.1, rest.1))

some_clock : (moment : ℕ) → moment ≤ 253402300799999 → (effects : List Effect) × SetsClock moment effects
some_clock zero dated = ([], refl)
some_clock (suc moment) dated =
    let tick : Tick = record { moment = suc moment; dated = dated } in (effect.Ticked tick ∷ [], (tick, refl, refl))

pub some_fold : (end : End) → CanBeWritten end → (effects : List Effect) × IsFolded end effects
some_fold end can =
    let carried : (effects : List Effect) × ItemByItem CarriesOver end.sent effects =
    some_each CarriesOver end.sent (λ s h. (
      effect.Carried (record {
        submission = s.submission;
        tries = s.tries;
        last = s.last;
        standing = s.mark;
        dated = can.tried s (contains_had end.sent s h);
      }),
      refl,
    )) in
    let kept : (effects : List Effect) × ItemByItem KeepsHeader (take end.confirmed end.inbox) effects =
    some_each KeepsHeader (take end.confirmed end.inbox) (λ entry h. (
      effect.Kept (record {
        header = entry.header;
        fits = can.kept entry (contains_had (take end.confirmed end.inbox) entry h);
      }),
      refl,
    )) in
    let delivered : (effects : List Effect) × ItemByItem DeliversAgain (drop end.confirmed end.inbox) effects =
    some_each DeliversAgain (drop end.confirmed end.inbox) (λ entry h.
    let held = can.delivered entry (contains_had (drop end.confirmed end.inbox) entry h) in (
      effect.Delivered (record {
        header = entry.header;
        payloads = entry.payloads;
        paired = held.0;
        fits = held.1;
      }),
      (refl, refl),
    )) in
    let clock = some_clock end.moment can.dated in (
      carried.0 ++ kept.0 ++ delivered.0 ++ clock.0,
      record {
        carried = carried.0;
        kept = kept.0;
        delivered = delivered.0;
        clock = clock.0;
        submissions = carried.1;
        taken_over = kept.1;
        waiting = delivered.1;
        set = clock.1;
        is = refl;
      },
    )
