-- A user message as its package.
use Rattle.std.proofs.Common.{◌≡◌, ℕ, List, Result, Ok, Err}
use Rattle.std.specs.Prelude.{IfOk}
use Rattle.as4_values.specs.declared.header.UserHeader.{UserHeader}
use Rattle.as4_values.specs.declared.memory.NoMemory.{NoMemory}
use Rattle.as4_values.specs.declared.payload.Payload.{Payload}
use Rattle.as4_values.specs.declared.message.Message.{Message}
use Rattle.as4_values.specs.declared.message.Message.TheVariants as message
use Rattle.message_model.specs.UnitText.{user_message, envelope_text}
use Rattle.message_model.specs.Package.{IsBoundary, package_media, package_body}
use Rattle.message_model.specs.Wire.{IsWire}
use Rattle.package_writer.specs.declared.write.Wire.{Wire}

pub package_is_wire : (m : Message) (header : UserHeader) (payloads : List Payload) (root : List ℕ) (r : Result Wire NoMemory) → m ≡ message.User header payloads → root ≡ envelope_text (user_message header)
    → IfOk r (λ wire. (number : ℕ) × IsBoundary number root payloads × (wire.media ≡ package_media number) × (wire.body ≡ package_body number root payloads))
    → IfOk r (λ wire. IsWire m wire.media wire.body)
package_is_wire m header payloads root (Ok wire) is root_is found =
    rw is (record {
      number = found.0;
      boundary = rw (← root_is) found.1;
      media_is = found.2;
      body_is = rw (← root_is) found.3;
    })
package_is_wire m header payloads root (Err e) is root_is found = tt
