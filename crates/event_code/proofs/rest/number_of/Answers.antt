use Rattle.std.proofs.Common.{◌<◌, get_or, refl, arith}
use Rattle.event_code.proofs.NumberLemmas.{place_behind, place_within, place_fits}
use Rattle.as4_effects.specs.Bodies.{number_body}
use Rattle.event_code.proofs.rest.number_of.Goals as goal

pub loop-byte-init : goal.loop-byte-init
unfolding number_body
loop-byte-init c = (omega arith, refl)

pub overflow_mul-number : goal.overflow_mul-number
overflow_mul-number c =
    let below : c.loop-byte.byte-index < 8 = omega arith in
    place_fits c.loop-byte.byte-index c.loop-byte.number below c.loop-byte.invariant.0

pub loop-byte-preserved : goal.loop-byte-preserved
loop-byte-preserved c =
    let byte : get_or c.args.bytes.now c.loop-byte.byte-index 0 < 256 = omega (arith, c.type_inv.bytes c.loop-byte.byte-index) in (
      place_within c.loop-byte.byte-index c.loop-byte.number _ byte c.loop-byte.invariant.0,
      place_behind c.args.bytes.now c.loop-byte.byte-index c.loop-byte.number _ byte (omega arith) refl c.loop-byte.invariant.1,
    )
