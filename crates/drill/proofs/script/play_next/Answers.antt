use Rattle.std.proofs.Common.{◌≡◌, List, ℕ, [], Option, refl, subst}
use Rattle.as4_flow.specs.Flow.{flow, Told}
use Rattle.drill.specs.Next.{HoldsNoLine}
use Rattle.byte_forms.specs.Parted.{parted}
use Rattle.drill_script.specs.LineText.{line_text}
use Rattle.drill.proofs.EndLemmas.{Laws, so_far_read, ends_outside, ends_unread, ends_without_memory}
use Rattle.drill.proofs.script.play_next.Goals as goal

pub returns-in-Line-clause-so_far : goal.returns-in-Line-clause-so_far
returns-in-Line-clause-so_far g c start s =
    let law : Laws g.P.Play = record { none = c.laws.ensures.none; more = c.laws.ensures.more; spelled = c.laws.ensures.spelled; delivers = c.laws.ensures.delivers } in
    let read = so_far_read g.row.P.Denot g.P.Play law c.args.state.now c.args.reader.now (parted 10 (line_text c.in-Line.line) c.next_line.new.reader) c.args.played start
    (flow (g.S.Source.left c.args.source.now) (g.K.Sink.taken c.args.sink.now) (g.S.Source.faults c.args.source.now) (g.K.Sink.faults c.args.sink.now))
    (g.S.Source.left c.next_line.new.source) (g.S.Source.faults c.next_line.new.source)
    c.in-Line.ensures.line (c.in-Line.ensures.held s.ahead) (c.in-Line.ensures.quiet (λ is. absurd (cc is))) s in
    c.play_line.ensures.so_far start c.next_line.new.reader (g.S.Source.left c.next_line.new.source) (g.S.Source.faults c.next_line.new.source) read

pub returns-in-End-clause-so_far : goal.returns-in-End-clause-so_far
returns-in-End-clause-so_far g c start s =
    let law : Laws g.P.Play = record { none = c.laws.ensures.none; more = c.laws.ensures.more; spelled = c.laws.ensures.spelled; delivers = c.laws.ensures.delivers } in
    let on = c.in-End.ensures.ahead s.ahead in
    let read = so_far_read g.row.P.Denot g.P.Play law c.args.state.now c.args.reader.now on.0 c.args.played start
    (flow (g.S.Source.left c.args.source.now) (g.K.Sink.taken c.args.sink.now) (g.S.Source.faults c.args.source.now) (g.K.Sink.faults c.args.sink.now))
    (g.S.Source.left c.next_line.new.source) (g.S.Source.faults c.next_line.new.source) on.2 on.1 (c.in-End.ensures.quiet (λ is. absurd (cc is))) s in
    let none = subst (λ (told : Option (List ℕ)). Told told (λ bytes. bytes ≡ [])) on.2 (c.in-End.ensures.end refl) in
    c.finish.ensures.ends start on.0 c.args.played (g.S.Source.left c.next_line.new.source) (g.S.Source.faults c.next_line.new.source) read none

pub returns-in-Outside-clause-so_far : goal.returns-in-Outside-clause-so_far
returns-in-Outside-clause-so_far g c start s =
    let law : Laws g.P.Play = record { none = c.laws.ensures.none; more = c.laws.ensures.more; spelled = c.laws.ensures.spelled; delivers = c.laws.ensures.delivers } in
    let on = c.in-Outside.ensures.ahead s.ahead in
    let read = so_far_read g.row.P.Denot g.P.Play law c.args.state.now c.args.reader.now on.0 c.args.played start
    (flow (g.S.Source.left c.args.source.now) (g.K.Sink.taken c.args.sink.now) (g.S.Source.faults c.args.source.now) (g.K.Sink.faults c.args.sink.now))
    (g.S.Source.left c.next_line.new.source) (g.S.Source.faults c.next_line.new.source) on.2 on.1 (c.in-Outside.ensures.quiet (λ is. absurd (cc is))) s in
    ends_outside g.row.P.Denot g.P.Play law c.args.state.now on.0 c.args.played start
    (flow (g.S.Source.left c.next_line.new.source) (g.K.Sink.taken c.args.sink.now) (g.S.Source.faults c.next_line.new.source) (g.K.Sink.faults c.args.sink.now))
    read (subst (λ (told : Option (List ℕ)). Told told HoldsNoLine) on.2 (c.in-Outside.ensures.outside refl))

pub returns-in-Failed-clause-so_far : goal.returns-in-Failed-clause-so_far
returns-in-Failed-clause-so_far g c start s =
    let law : Laws g.P.Play = record { none = c.laws.ensures.none; more = c.laws.ensures.more; spelled = c.laws.ensures.spelled; delivers = c.laws.ensures.delivers } in
    let on = c.in-Failed.ensures.ahead s.ahead in
    let read = so_far_read g.row.P.Denot g.P.Play law c.args.state.now c.args.reader.now on.0 c.args.played start
    (flow (g.S.Source.left c.args.source.now) (g.K.Sink.taken c.args.sink.now) (g.S.Source.faults c.args.source.now) (g.K.Sink.faults c.args.sink.now))
    (g.S.Source.left c.next_line.new.source) (g.S.Source.faults c.args.source.now) on.2 on.1 refl s in
    ends_unread g.row.P.Denot g.P.Play law c.args.state.now on.0 c.args.played start
    (flow (g.S.Source.left c.next_line.new.source) (g.K.Sink.taken c.args.sink.now) (g.S.Source.faults c.args.source.now) (g.K.Sink.faults c.args.sink.now))
    (g.S.Source.faults c.next_line.new.source) read (c.in-Failed.ensures.failed refl)

pub returns-in-NoMemory-clause-so_far : goal.returns-in-NoMemory-clause-so_far
returns-in-NoMemory-clause-so_far g c start s =
    let law : Laws g.P.Play = record { none = c.laws.ensures.none; more = c.laws.ensures.more; spelled = c.laws.ensures.spelled; delivers = c.laws.ensures.delivers } in
    let on = c.in-NoMemory.ensures.ahead s.ahead in
    let read = so_far_read g.row.P.Denot g.P.Play law c.args.state.now c.args.reader.now on.0 c.args.played start
    (flow (g.S.Source.left c.args.source.now) (g.K.Sink.taken c.args.sink.now) (g.S.Source.faults c.args.source.now) (g.K.Sink.faults c.args.sink.now))
    (g.S.Source.left c.next_line.new.source) (g.S.Source.faults c.next_line.new.source) on.2 on.1 (c.in-NoMemory.ensures.quiet (λ is. absurd (cc is))) s in
    ends_without_memory g.row.P.Denot g.P.Play law c.args.state.now on.0 c.args.played start
    (flow (g.S.Source.left c.next_line.new.source) (g.K.Sink.taken c.args.sink.now) (g.S.Source.faults c.next_line.new.source) (g.K.Sink.faults c.args.sink.now)) read
