use Rattle.std.proofs.Common.{refl}
use Rattle.clients.proofs.AddressLemmas.{collect_addresses}
use Rattle.clients.proofs.AnswerLemmas.{collect_says}
use Rattle.clients.proofs.EndLemmas.{collect_counts}
use Rattle.clients.proofs.LineLemmas.{collect_leaves}
use Rattle.clients.proofs.SentLemmas.{collect_requests}
use Rattle.clients.proofs.collecting.collect.Goals as goal

pub returns : goal.returns
returns g c =
    let collects = c.collect_by_link.ensures in
    let counts = collect_counts g.H.Host g.H.Dialer.Link g.K.Sink c.args.address.now c.args.folder.now c.args.first c.args.count
    c.args.host.now c.collect_by_link.new.host c.args.output.now c.collect_by_link.new.output c.collect_by_link.result collects in
    let leaves = collect_leaves g.H.Host g.H.Dialer.Link c.args.address.now c.args.folder.now (g.H.Host.answers c.args.host.now) g.K.Sink c.args.first c.args.count
    c.args.host.now c.collect_by_link.new.host c.args.output.now c.collect_by_link.new.output c.collect_by_link.result c.requires.range refl collects in record {
      collects = collects;
      reads = counts.reads;
      writes = counts.writes;
      faults = counts.faults;
      output = counts.output;
      lines = leaves.lines;
      sent = collect_requests g.H.Host g.H.Dialer.Link c.args.address.now c.args.folder.now (g.H.Host.answers c.args.host.now) g.K.Sink c.args.first c.args.count
          c.args.host.now c.collect_by_link.new.host c.args.output.now c.collect_by_link.new.output c.collect_by_link.result c.requires.range refl collects;
      addresses = collect_addresses g.H.Dialer.Link c.args.address.now g.H.Host c.args.folder.now g.K.Sink c.args.first c.args.count
          c.args.host.now c.collect_by_link.new.host c.args.output.now c.collect_by_link.new.output c.collect_by_link.result collects;
      ended = collect_says g.H.Dialer.Link c.args.address.now (g.H.Host.answers c.args.host.now) g.H.Host c.args.folder.now g.K.Sink c.args.first c.args.count
          c.args.host.now c.collect_by_link.new.host c.args.output.now c.collect_by_link.new.output c.collect_by_link.result c.requires.range refl collects;
      others = leaves.others;
    }
