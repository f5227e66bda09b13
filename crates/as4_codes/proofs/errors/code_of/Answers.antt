use Rattle.as4_values.specs.Word.{IsWord}
use Rattle.as4_values.specs.declared.word.Word.TheVariants.{ErrorCode}
use Rattle.as4_codes.proofs.RowLemmas.{code_is_word}
use Rattle.as4_codes.proofs.errors.code_of.Goals as goal

pub unreachable-requires : goal.unreachable-requires
unreachable-requires c =
    let word : IsWord ErrorCode c.code_bytes.result = rw c.code_bytes.ensures (code_is_word c.args.code c.requires) in
    let only = c.in-Err-BadId.ensures.only word in
    cc
