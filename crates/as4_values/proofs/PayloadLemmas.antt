-- The media text of a part is short.
use Rattle.std.proofs.Common.{ℕ, ◌≤◌, List, length, arith}
use Rattle.std.specs.Prelude.{IsTrue}
use Rattle.std.proofs.lemmas.Bool.Decides.{nat_tests}
use Rattle.as4_values.specs.Payload.{is_media_text}

pub media_limited : (text : List ℕ) → IsTrue (is_media_text text) → length text ≤ 1024
unfolding is_media_text
media_limited text is = grind (arith, nat_tests)
