use Rattle.std.proofs.Common.{◌++◌, ap, ◌∙◌}
use Rattle.uuid.specs.Text.{hyphenated_text, lower}
use Rattle.as4_values.specs.Identifiers.{uuid_text}
use Rattle.as4_values.proofs.message_id.push_uuid.Goals as goal

-- the text is that of the nonce's bytes
pub returns : goal.returns
unfolding uuid_text
returns c =
    c.in_ok-extend_from_slice.ensures.items
    ∙ ap (λ text. c.args.out.now.items ++ text)
    (c.as_bytes.ensures.value ∙ (c.encode_lower-text.ensures.text ∙ ap (hyphenated_text lower) (c.hyphenated-id.ensures ∙ c.from_u128.ensures)))
