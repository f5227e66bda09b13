use Rattle.std.proofs.Common.{refl, sym, ◌∙◌}
use Rattle.as4_values.specs.declared.message.Message.TheVariants as message
use Rattle.as4_message.proofs.WireLemmas.{package_is_wire}
use Rattle.as4_message.proofs.message_file.write_user.Goals as goal

pub returns : goal.returns
returns c =
    package_is_wire (message.User c.args.header.now c.args.payloads.now) c.args.header.now c.args.payloads.now c.bytes.result.now c.write_parts.result refl
    (c.bytes.ensures ∙ c.in_ok-root.ensures) c.write_parts.ensures
