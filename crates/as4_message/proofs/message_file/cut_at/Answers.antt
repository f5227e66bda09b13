use Rattle.std.proofs.Common.{sym}
use Rattle.std.specs.Prelude.{length}
use Rattle.as4_message.proofs.CutLemmas.{cut_some, behind_cut}
use Rattle.as4_message.proofs.message_file.cut_at.Goals as goal

pub returns : goal.returns
returns c =
    rw (c.split_at.ensures.front, c.split_at-2.ensures.back, c.split_at.ensures.back, behind_cut c.args.bytes.now c.in_ok-at.at (length c.args.needle.now))
    (sym (cut_some c.args.needle.now c.args.bytes.now c.in_ok-at.at c.requires c.in_ok-at.ensures))
