use Rattle.std.proofs.Common.{◌≡◌, ℕ, ◌<◌, List, ap, ◌∙◌, subst, arith}
use Rattle.as4_flow.specs.Flow.{flow, TakesFront, appended}
use Rattle.drill_world.specs.Transcript.{lines_limit}
use Rattle.drill.proofs.EndLemmas.{Laws, Turn, so_far_played, ends_full, ends_too_many, ends_unwritten, ends_without_memory, ends_wrong}
use Rattle.byte_forms.specs.Parted.{parted}
use Rattle.drill_script.specs.LineText.{line_text}
use Rattle.drill.proofs.script.play_line.Goals as goal

pub returns-in-Ok-send_all-clause-so_far : goal.returns-in-Ok-send_all-clause-so_far
returns-in-Ok-send_all-clause-so_far g c start held left reads s =
    let law : Laws g.P.Play = record { none = c.laws.ensures.none; more = c.laws.ensures.more; spelled = c.laws.ensures.spelled; delivers = c.laws.ensures.delivers } in
    let text : c.bytes.result.now ≡ c.in-Ok.text = cc in
    let turn : Turn g.P.Play c.args.line.now c.in-Ok.text c.args.state.now c.play_line.new.self =
    record { right = c.in-Ok.ensures.right.0; one_more = c.in-Ok.ensures.right.1; plays = c.in-Ok.ensures.plays } in
    let few : c.args.played < lines_limit = omega arith in
    so_far_played g.row.P.Denot g.P.Play law c.args.line.now c.in-Ok.text c.args.state.now c.play_line.new.self held c.args.played start
    (flow left (g.K.Sink.taken c.args.sink.now) reads (g.K.Sink.faults c.args.sink.now))
    (g.K.Sink.taken c.send_all.new.sink) (g.K.Sink.faults c.send_all.new.sink) s turn few
    (c.in-Ok-send_all.ensures.ok ∙ ap (appended (g.K.Sink.taken c.args.sink.now)) text)
    c.in-Ok-send_all.ensures.quiet

pub returns-in-Ok-clause-so_far : goal.returns-in-Ok-clause-so_far
returns-in-Ok-clause-so_far g c start held left reads s =
    let law : Laws g.P.Play = record { none = c.laws.ensures.none; more = c.laws.ensures.more; spelled = c.laws.ensures.spelled; delivers = c.laws.ensures.delivers } in
    let text : c.bytes.result.now ≡ c.in-Ok.text = cc in
    let turn : Turn g.P.Play c.args.line.now c.in-Ok.text c.args.state.now c.play_line.new.self =
    record { right = c.in-Ok.ensures.right.0; one_more = c.in-Ok.ensures.right.1; plays = c.in-Ok.ensures.plays } in
    let few : c.args.played < lines_limit = omega arith in
    let front : TakesFront c.in-Ok.text (g.K.Sink.taken c.args.sink.now) (g.K.Sink.taken c.send_all.new.sink) =
    subst (λ (l : List ℕ). TakesFront l (g.K.Sink.taken c.args.sink.now) (g.K.Sink.taken c.send_all.new.sink)) text c.in-Err.ensures.front in
    ends_unwritten g.row.P.Denot g.P.Play law c.args.line.now c.in-Ok.text c.args.state.now c.play_line.new.self held c.args.played start
    (flow left (g.K.Sink.taken c.args.sink.now) reads (g.K.Sink.faults c.args.sink.now))
    (g.K.Sink.taken c.send_all.new.sink) (g.K.Sink.faults c.send_all.new.sink) s turn few front c.in-Err.ensures.err

pub returns-in-Err-Wrong-clause-so_far : goal.returns-in-Err-Wrong-clause-so_far
returns-in-Err-Wrong-clause-so_far g c start held left reads s =
    let law : Laws g.P.Play = record { none = c.laws.ensures.none; more = c.laws.ensures.more; spelled = c.laws.ensures.spelled; delivers = c.laws.ensures.delivers } in
    ends_wrong g.row.P.Denot g.P.Play law c.args.line.now c.args.state.now held c.args.played start
    (flow left (g.K.Sink.taken c.args.sink.now) reads (g.K.Sink.faults c.args.sink.now)) s c.requires.spelled
    (c.in-Err-Wrong.ensures.wrong (cc))

pub returns-then-played-eq-MAX_LINES-clause-so_far : goal.returns-then-played-eq-MAX_LINES-clause-so_far
returns-then-played-eq-MAX_LINES-clause-so_far g c start held left reads s =
    let law : Laws g.P.Play = record { none = c.laws.ensures.none; more = c.laws.ensures.more; spelled = c.laws.ensures.spelled; delivers = c.laws.ensures.delivers } in
    ends_full g.row.P.Denot g.P.Play law c.args.line.now c.args.state.now held c.args.played start
    (flow left (g.K.Sink.taken c.args.sink.now) reads (g.K.Sink.faults c.args.sink.now)) s (omega arith)

pub returns-in-Err-TooMany-clause-so_far : goal.returns-in-Err-TooMany-clause-so_far
returns-in-Err-TooMany-clause-so_far g c start held left reads s =
    let law : Laws g.P.Play = record { none = c.laws.ensures.none; more = c.laws.ensures.more; spelled = c.laws.ensures.spelled; delivers = c.laws.ensures.delivers } in
    let many = c.in-Err-TooMany.ensures.too_many (cc) in
    let few : c.args.played < lines_limit = omega arith in
    ends_too_many g.row.P.Denot g.P.Play law c.args.line.now c.args.state.now held c.args.played start
    (flow left (g.K.Sink.taken c.args.sink.now) reads (g.K.Sink.faults c.args.sink.now)) s many.0 many.1 few

pub returns-clause-so_far : goal.returns-clause-so_far
returns-clause-so_far g c start held left reads s =
    let law : Laws g.P.Play = record { none = c.laws.ensures.none; more = c.laws.ensures.more; spelled = c.laws.ensures.spelled; delivers = c.laws.ensures.delivers } in
    ends_without_memory g.row.P.Denot g.P.Play law c.args.state.now (parted 10 (line_text c.args.line.now) held) c.args.played start
    (flow left (g.K.Sink.taken c.args.sink.now) reads (g.K.Sink.faults c.args.sink.now)) s
