use Rattle.std.proofs.Common.{◌≡◌, Some, sym, ap, ◌∙◌}
use Rattle.journal.specs.Store.{is_second_of}
use Rattle.journal.proofs.StoreLemmas.{picked_at}
use Rattle.journal.proofs.starting.settle.Goals as goal

pub returns-clause-settled : goal.returns-clause-settled
returns-clause-settled g c b told =
    let told_first : g.D.Disk.seen c.sync.new.self ≡ Some b = c.sync.ensures.seen ∙ told in
    let told_next : g.D.Disk.seen c.read_selector.new.disk ≡ Some b = c.read_selector.ensures.quiet.same ∙ told_first in
    let picked : is_second_of b ≡ c.in_ok-is_second.is_second = c.in_ok-is_second.ensures.picked b told_first in
    record {
      image = b;
      told = c.sync-2.ensures.seen ∙ told_next;
      picked = picked;
      bytes = sym (picked_at b c.in_ok-is_second.is_second picked);
      selector_only = λ image left. c.in_ok-sync.ensures.durable b told image (c.read_selector.ensures.quiet.within image (c.sync-2.ensures.crash image left));
      leaf_only = λ image left. ap image (sym c.leaf_part.ensures) ∙ c.in_ok-sync-2.ensures.durable b told_next image left ∙ ap b c.leaf_part.ensures;
    }
