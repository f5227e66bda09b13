use Rattle.std.proofs.Common.{◌^◌, ◌≤◌, refl, ap, length, subst, ◌∙◌, arith}
use Rattle.as4_audit.proofs.NonceLemmas.{id_length, nonce_below, window}
use Rattle.as4_effects.specs.Sound.{number_in}
use Rattle.as4_audit.proofs.nonce.nonce_of.Goals as goal

pub returns-then-bytes-digits : goal.returns-then-bytes-digits
returns-then-bytes-digits c =
    let long = id_length c.args.number c.args.id.now c.requires in
    absurd (omega (arith, long, ap length (c.as_bytes-digits.ensures.value ∙ c.in_ok-format.ensures.ok), ap length c.bytes-bytes.ensures.value, c.if-bytes-digits.true))

pub returns-in-None : goal.returns-in-None
returns-in-None c =
    let below = nonce_below c.args.number c.args.id.now c.requires in
    let much = c.in-None.ensures.none refl in
    let same = window c.args.number c.args.id.now c.bytes-bytes.result.now c.as_bytes-digits.result.now
    (c.as_bytes-digits.ensures.value ∙ c.in_ok-format.ensures.ok) c.bytes-bytes.ensures.value in
    absurd (omega (arith, below, subst (λ bytes. 2 ^ 128 ≤ number_in 0 bytes) same much))
