use Rattle.std.proofs.Common.{rules, ◌≡◌, ◌≤◌, length, inl, sym, refl}
use Rattle.as4_tool.specs.declared.limit.TheConstants.{LIMIT}
use Rattle.as4_tool.proofs.AnswerLemmas.{told_whole}
use Rattle.as4_tool.proofs.SubmitLemmas.{no_other_status, shows_silent, tells_host, tells_reads, tells_writes}
use Rattle.as4_tool.proofs.submitting.submit.Goals as goal

pub returns-in-Ok : goal.returns-in-Ok
returns-in-Ok g c =
    let document = c.in-Ok.document.items in
    let end = c.submit-end.result in
    let status = c.show-status.result in
    let others = no_other_status end status _ _ c.show-status.ensures.shows in
    record {
      ends = inl (record {
        document = document;
        end = end;
        came = told_whole (g.I.Source.left c.args.input.now) (g.I.Source.left c.read_all.new.source) document
            (λ file. (length file ≤ LIMIT) × (file ≡ document)) c.in-Ok.ensures.bytes c.in-Ok.ensures.end (c.in-Ok.ensures.within, refl);
        whole = c.in-Ok.ensures.end;
        submits = rw (sym c.as_bytes.ensures.value, sym c.as_bytes-in-Ok.ensures.value, sym c.as_bytes-in-Ok-2.ensures.value, sym c.deref.ensures.value) c.submit-end.ensures.submits;
        answered = c.submit-end.ensures.answered;
        sent = rw (sym c.as_bytes.ensures.value, sym c.as_bytes-in-Ok.ensures.value, sym c.as_bytes-in-Ok-2.ensures.value, sym c.deref.ensures.value) c.submit-end.ensures.sent;
        addresses = c.submit-end.ensures.addresses;
        shows = c.show-status.ensures.shows;
      });
      read_faults = tells_reads end status _ _ _ _ _ _ c.show-status.ensures.shows (search rules) c.submit-end.ensures.reads;
      write_faults = tells_writes end status _ _ _ _ _ _ c.show-status.ensures.shows c.show-status.ensures.faults c.submit-end.ensures.writes;
      host_faults = tells_host end status _ _ _ _ c.show-status.ensures.shows c.submit-end.ensures.faults;
      streamed = record {
        too_long = λ is. absurd (others.0 is);
        not_user = λ is. absurd (others.1 is);
        reads = search rules;
        silent = λ linewise. shows_silent end status _ _ c.show-status.ensures.shows;
        right = others.2;
        counted = search rules;
      };
    }
