use Rattle.std.proofs.Common.{rules, ◌≤◌, length, inl, sym}
use Rattle.as4_tool.specs.Answer.{IsAnswer, IsSignalFile}
use Rattle.as4_tool.specs.declared.limit.TheConstants.{LIMIT}
use Rattle.as4_tool.proofs.AnswerLemmas.{told_whole}
use Rattle.as4_tool.proofs.answering.answer.Goals as goal

pub returns-in-Ok-Some : goal.returns-in-Ok-Some
returns-in-Ok-Some g c =
    let answer = c.bytes-in-Ok-Some.result.now in
    let is_answer : IsAnswer c.args.stamp c.args.nonce c.in-Ok.file.items answer =
    rw (c.bytes-in-Ok-Some.ensures, sym c.deref.ensures.value) (rw c.in-Ok-Some.field-0-is at c.in-Ok-Some.ensures) in
    record {
      ends = inl (
        answer,
        told_whole (g.I.Source.left c.args.input.now) (g.I.Source.left c.read_all.new.source) c.in-Ok.file.items
            (λ file. (length file ≤ LIMIT) × IsAnswer c.args.stamp c.args.nonce file answer)
            c.in-Ok.ensures.bytes c.in-Ok.ensures.end (c.in-Ok.ensures.within, is_answer),
        c.in-Ok.ensures.end,
        c.write.ensures.writes,
      );
      read_faults = search rules;
      write_faults = search rules;
      streamed = record { too_long = search rules; not_user = search rules; reads = search rules; silent = search rules; right = search rules; counted = search rules };
    }

pub returns-in-Ok-None : goal.returns-in-Ok-None
returns-in-Ok-None g c =
    let other : IsSignalFile c.in-Ok.file.items = rw (sym c.deref.ensures.value) (rw c.in-Ok-None.field-0-is at c.in-Ok-None.ensures) in
    record {
      ends = search rules;
      read_faults = search rules;
      write_faults = search rules;
      streamed = record {
        too_long = search rules;
        not_user = λ is. (
          told_whole (g.I.Source.left c.args.input.now) (g.I.Source.left c.read_all.new.source) c.in-Ok.file.items
              (λ file. (length file ≤ LIMIT) × IsSignalFile file)
              c.in-Ok.ensures.bytes c.in-Ok.ensures.end (c.in-Ok.ensures.within, other),
          c.in-Ok.ensures.end,
        );
        reads = search rules;
        silent = search rules;
        right = search rules;
        counted = search rules;
      };
    }
