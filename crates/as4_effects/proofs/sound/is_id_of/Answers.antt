use Rattle.std.proofs.Common.{refl, ◌∙◌, arith}
use Rattle.as4_effects.proofs.NonceLemmas.{wrong_length, wrong_nonce, right_nonce}
use Rattle.as4_effects.proofs.sound.is_id_of.Goals as goal

pub returns-then-bytes-digits : goal.returns-then-bytes-digits
returns-then-bytes-digits c =
    wrong_length c.args.number c.args.id.now c.bytes-bytes.result.now c.as_bytes-digits.result.now
    (c.as_bytes-digits.ensures.value ∙ c.in_ok-format.ensures.ok) c.bytes-bytes.ensures.value c.if-bytes-digits.true

pub returns-in_default : goal.returns-in_default
returns-in_default c =
    wrong_nonce c.args.number c.args.id.now c.bytes-bytes.result.now c.as_bytes-digits.result.now
    (c.as_bytes-digits.ensures.value ∙ c.in_ok-format.ensures.ok) c.bytes-bytes.ensures.value (c.in_default.ensures.none refl)

pub returns : goal.returns
returns c =
    right_nonce c.args.number c.in-Some.nonce c.args.id.now c.bytes-bytes.result.now c.as_bytes-digits.result.now c.bytes.result.now c.eq.result
    (c.as_bytes-digits.ensures.value ∙ c.in_ok-format.ensures.ok) c.bytes-bytes.ensures.value c.in-Some.ensures.some (omega arith)
    (c.bytes.ensures.value ∙ c.in_ok-wanted.ensures) c.eq.ensures
