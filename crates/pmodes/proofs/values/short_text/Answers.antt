use Rattle.std.proofs.Common.{◌≡◌, ◌<◌, length}
use Rattle.std.proofs.lemmas.Bool.{lt-leb}
use Rattle.mode_values.specs.ModeRanges.{is_short}
use Rattle.as4_values.proofs.TextLemmas.{one_text_of}
use Rattle.pmodes.proofs.values.short_text.Goals as goal

pub returns-else-bytes-le255-clause-none : goal.returns-else-bytes-le255-clause-none
unfolding is_short
returns-else-bytes-le255-clause-none c text spelled =
    let long : 255 < length c.in-Ok.text = rw c.bytes.ensures.value at c.if-bytes-le255.false in
    let same : text ≡ c.in-Ok.text = one_text_of c.args.bytes.now text c.in-Ok.text spelled c.in-Ok.ensures.found in
    rw (same, lt-leb (length c.in-Ok.text) 255 long)
