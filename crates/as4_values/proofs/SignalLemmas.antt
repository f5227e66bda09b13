-- The four fields of a signal determine it.
use Rattle.std.proofs.Common.{◌≡◌, ℕ, List, Bool, Option, sym, ap, subst}
use Rattle.std.specs.Prelude.{IsTrue}
use Rattle.std.proofs.Props.{props}
use Rattle.as4_values.specs.declared.signal.Signal.{Signal}
use Rattle.as4_values.specs.declared.signal_body.SignalBody.{SignalBody}
use Rattle.as4_values.specs.SignalParts.{is_signal}

-- a test has one proof
once : (t : Bool) → IsProp (IsTrue t)
once t = hlevel props

-- the proof that it is whole makes no difference
pub same_signal : (b : Signal) (ref_to : Option (List ℕ)) (body : SignalBody) → ref_to ≡ b.ref_to → body ≡ b.body
    → (whole : IsTrue (is_signal ref_to body))
    → let built : Signal = record { stamp = b.stamp; id = b.id; ref_to = ref_to; body = body; whole = whole } in built ≡ b
same_signal b ref_to body is_ref is_body whole =
    subst (λ (r : Option (List ℕ)). (w : IsTrue (is_signal r body)) → let built : Signal = record { stamp = b.stamp; id = b.id; ref_to = r; body = body; whole = w } in built ≡ b) (sym is_ref)
    (subst (λ (d : SignalBody). (w : IsTrue (is_signal b.ref_to d)) → let built : Signal = record { stamp = b.stamp; id = b.id; ref_to = b.ref_to; body = d; whole = w } in built ≡ b) (sym is_body)
    (λ w. ap (λ (v : IsTrue (is_signal b.ref_to b.body)). let built : Signal = record { stamp = b.stamp; id = b.id; ref_to = b.ref_to; body = b.body; whole = v } in built)
    (once (is_signal b.ref_to b.body) w b.whole)))
    whole
