use Rattle.std.proofs.Common.{rules, ◌≤◌, length, inl, sym}
use Rattle.as4_tool.specs.Answer.{IsFileLine}
use Rattle.as4_tool.specs.declared.limit.TheConstants.{LIMIT}
use Rattle.as4_tool.proofs.AnswerLemmas.{told_whole}
use Rattle.as4_tool.proofs.checking.check.Goals as goal

pub returns-in-Ok-check_file : goal.returns-in-Ok-check_file
returns-in-Ok-check_file g c =
    let line = c.in-Ok-check_file.line in
    let told : IsFileLine c.in-Ok.file.items line.text line.refused = rw (sym c.deref.ensures.value) c.in-Ok-check_file.ensures in
    record {
      ends = inl (
        line.text,
        line.refused,
        told_whole (g.I.Source.left c.args.input.now) (g.I.Source.left c.read_all.new.source) c.in-Ok.file.items
            (λ file. (length file ≤ LIMIT) × IsFileLine file line.text line.refused)
            c.in-Ok.ensures.bytes c.in-Ok.ensures.end (c.in-Ok.ensures.within, told),
        c.in-Ok.ensures.end,
        rw (sym c.end_of.ensures, sym c.bytes.ensures) c.write_as.ensures.writes,
      );
      read_faults = search rules;
      write_faults = search rules;
      streamed = record { too_long = search rules; not_user = search rules; reads = search rules; silent = search rules; right = search rules; counted = search rules };
    }
