use Rattle.std.proofs.Common.{sym, subst}
use Rattle.as4_tool.specs.Ends.{TellsFaults}
use Rattle.as4_tool.specs.Runs.{TellsEither}
use Rattle.as4_tool.specs.Status.{code_of}
use Rattle.as4_tool.specs.declared.status.Status.TheVariants.{HostFault, ReadFault, WriteFault}
use Rattle.as4_tool.proofs.CollectLemmas.{host_told, reads_told, writes_told}
use Rattle.as4_tool.proofs.collecting.collect.Goals as goal

pub returns : goal.returns
returns g c =
    let e = c.collect-end.ensures in
    let end = c.collect-end.result in
    let status = c.of_collection.result in
    let is = sym c.of_collection.ensures in
    let old = c.args.host.now in
    let new = c.collect-end.new.host in
    let before = c.args.output.now in
    let after = c.collect-end.new.output in record {
      end = end;
      status_is = c.of_collection.ensures;
      collects = e.collects;
      lines = e.lines;
      sent = e.sent;
      addresses = e.addresses;
      ended = e.ended;
      others = e.others;
      read_faults = subst (λ s. TellsFaults ReadFault (code_of s) (g.H.Host.reads old) (g.H.Host.reads new)) is (reads_told end (g.H.Host.reads old) (g.H.Host.reads new) e.reads);
      write_faults = subst (λ s. TellsEither WriteFault (code_of s) (g.O.Sink.faults before) (g.O.Sink.faults after) (g.H.Host.writes old) (g.H.Host.writes new)) is
          (writes_told end (g.O.Sink.faults before) (g.O.Sink.faults after) (g.H.Host.writes old) (g.H.Host.writes new) e.output e.writes);
      host_faults = subst (λ s. TellsFaults HostFault (code_of s) (g.H.Host.fault_count old) (g.H.Host.fault_count new)) is
          (host_told end (g.H.Host.fault_count old) (g.H.Host.fault_count new) e.faults);
    }
