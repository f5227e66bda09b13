use Rattle.std.proofs.Common.{rules, ◌≡◌, ◌^◌, ◌<◌, arith}
use Rattle.as4_values.specs.Identifiers.{submission_id}
use Rattle.as4_values.proofs.IdentifierLemmas.{submission_id_is_word}
use Rattle.as4_values.proofs.message_id.MessageId.of_submission.Goals as goal

-- the bytes are the identifier
pub invariant_of-result : goal.invariant_of-result
invariant_of-result c =
    let made : c.of.result ≡ submission_id c.args.number c.args.nonce = search rules in
    let fits : c.args.number < 2 ^ 64 = omega arith in
    rw made (submission_id_is_word c.args.number c.args.nonce fits)
