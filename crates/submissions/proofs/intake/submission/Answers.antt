use Rattle.std.proofs.Common.{arith}
use Rattle.submissions.proofs.LimitLemmas.{are_small}
use Rattle.submissions.proofs.MadeLemmas.{IsMadeOf, made_is_sound}
use Rattle.submissions.proofs.NameLemmas.{submission_id_is_stem}
use Rattle.submissions.proofs.intake.submission.Goals as goal

pub payloads_of-requires : goal.payloads_of-requires
payloads_of-requires c =
    let small = are_small c.args.loads.now c.requires.small in
    let below = c.requires.numbered in
    record {
      few = rw c.items-loads.ensures small.few;
      typed = rw c.items-loads.ensures small.typed;
      stem = rw c.in_ok-id.ensures (submission_id_is_stem c.args.intake.number c.args.intake.nonce (omega arith));
    }

pub header_of-requires : goal.header_of-requires
header_of-requires c =
    let small = are_small c.args.loads.now c.requires.small in
    let below = c.requires.numbered in
    record {
      moment = c.requires.stamped;
      few = rw c.items-loads.ensures small.few;
      stem = rw c.in_ok-id.ensures (submission_id_is_stem c.args.intake.number c.args.intake.nonce (omega arith));
    }

pub invariant_of-result : goal.invariant_of-result
invariant_of-result c =
    let mode = c.args.mode.now in
    let intake = c.args.intake in
    let made : IsMadeOf mode intake.number intake.stamp intake.nonce c.args.conversation.now c.args.loads.now
    c.in-Ok-Ok-Ok.header c.in-Ok-Ok-Ok.payloads c.in-Ok-Ok-Ok.route =
    record {
      numbered = c.requires.numbered;
      nonce_fits = omega arith;
      small = c.requires.small;
      talks = c.conversation_is_limited.ensures;
      headed = rw (c.in_ok-id.ensures, c.items-loads.ensures) at c.in-Ok-Ok-Ok.ensures';
      loaded = rw (c.in_ok-id.ensures, c.items-loads.ensures) at c.in-Ok-Ok-Ok.ensures;
      routed = c.in-Ok-Ok-Ok.ensures'';
    } in
    let sound = made_is_sound mode intake.number intake.stamp intake.nonce c.args.conversation.now c.args.loads.now
    c.in-Ok-Ok-Ok.header c.in-Ok-Ok-Ok.payloads c.in-Ok-Ok-Ok.route made in
    record {
      numbered = c.requires.numbered;
      identified = sound.identified;
      paired = sound.paired;
      routed = sound.routed;
      limited = mode.limited;
      timed = mode.timed;
      dated = c.requires.now;
      fits = sound.fits mode.retries mode.period intake.now;
    }
