use Rattle.std.proofs.Common.{◌≡◌, ◌∙◌, subst}
use Rattle.std.specs.Fmt.{decimal}
use Rattle.std.proofs.lemmas.Result.{on_ok_weaker}
use Rattle.as4_flow.specs.Flow.{TakesFront, appended}
use Rattle.relayer.proofs.LineLemmas.{front_1, front_2, front_3, front_4, front_5, sent_2, sent_3, sent_4, whole_line}
use Rattle.relayer.proofs.relaying.tell.Goals as goal

pub returns-in_err-send_all-clause-front : goal.returns-in_err-send_all-clause-front
returns-in_err-send_all-clause-front g c = front_1 c.args.number c.args.id.now (g.O.Sink.taken c.args.output.now) (g.O.Sink.taken c.send_all.new.sink) c.send_all.ensures.front

pub returns-in_err-send_all-2-clause-front : goal.returns-in_err-send_all-2-clause-front
returns-in_err-send_all-2-clause-front g c =
    let printed : c.as_bytes.result.now ≡ decimal c.args.number = c.as_bytes.ensures.value ∙ c.format.ensures.text in
    front_2 c.args.number c.args.id.now (g.O.Sink.taken c.args.output.now) (g.O.Sink.taken c.send_all.new.sink) (g.O.Sink.taken c.send_all-2.new.sink) c.in_ok-send_all.ensures.ok
    (subst (λ text. TakesFront text (g.O.Sink.taken c.send_all.new.sink) (g.O.Sink.taken c.send_all-2.new.sink)) printed c.send_all-2.ensures.front)

pub returns-in_err-send_all-3-clause-front : goal.returns-in_err-send_all-3-clause-front
returns-in_err-send_all-3-clause-front g c =
    let start = g.O.Sink.taken c.args.output.now in
    let one = g.O.Sink.taken c.send_all.new.sink in
    let two = g.O.Sink.taken c.send_all-2.new.sink in
    let printed : c.as_bytes.result.now ≡ decimal c.args.number = c.as_bytes.ensures.value ∙ c.format.ensures.text in
    let to_two = sent_2 c.args.number c.args.id.now start c.as_bytes.result.now one two printed c.in_ok-send_all.ensures.ok c.in_ok-send_all-2.ensures.ok in
    front_3 c.args.number c.args.id.now start two (g.O.Sink.taken c.send_all-3.new.sink) to_two c.send_all-3.ensures.front

pub returns-in_err-send_all-4-clause-front : goal.returns-in_err-send_all-4-clause-front
returns-in_err-send_all-4-clause-front g c =
    let start = g.O.Sink.taken c.args.output.now in
    let one = g.O.Sink.taken c.send_all.new.sink in
    let two = g.O.Sink.taken c.send_all-2.new.sink in
    let three = g.O.Sink.taken c.send_all-3.new.sink in
    let printed : c.as_bytes.result.now ≡ decimal c.args.number = c.as_bytes.ensures.value ∙ c.format.ensures.text in
    let to_two = sent_2 c.args.number c.args.id.now start c.as_bytes.result.now one two printed c.in_ok-send_all.ensures.ok c.in_ok-send_all-2.ensures.ok in
    let to_three = sent_3 c.args.number c.args.id.now start two three to_two c.in_ok-send_all-3.ensures.ok in
    front_4 c.args.number c.args.id.now start three (g.O.Sink.taken c.send_all-4.new.sink) to_three
    (subst (λ text. TakesFront text three (g.O.Sink.taken c.send_all-4.new.sink)) c.bytes.ensures.value c.send_all-4.ensures.front)

pub returns-clause-ok : goal.returns-clause-ok
returns-clause-ok g c =
    let start = g.O.Sink.taken c.args.output.now in
    let one = g.O.Sink.taken c.send_all.new.sink in
    let two = g.O.Sink.taken c.send_all-2.new.sink in
    let three = g.O.Sink.taken c.send_all-3.new.sink in
    let four = g.O.Sink.taken c.send_all-4.new.sink in
    let printed : c.as_bytes.result.now ≡ decimal c.args.number = c.as_bytes.ensures.value ∙ c.format.ensures.text in
    let to_two = sent_2 c.args.number c.args.id.now start c.as_bytes.result.now one two printed c.in_ok-send_all.ensures.ok c.in_ok-send_all-2.ensures.ok in
    let to_three = sent_3 c.args.number c.args.id.now start two three to_two c.in_ok-send_all-3.ensures.ok in
    let to_four = sent_4 c.args.number c.args.id.now start three four to_three (subst (λ text. four ≡ appended three text) c.bytes.ensures.value c.in_ok-send_all-4.ensures.ok) in
    on_ok_weaker c.send_all-5.result (λ sent. whole_line c.args.number c.args.id.now start four (g.O.Sink.taken c.send_all-5.new.sink) to_four sent) c.send_all-5.ensures.ok

pub returns-clause-front : goal.returns-clause-front
returns-clause-front g c =
    let start = g.O.Sink.taken c.args.output.now in
    let one = g.O.Sink.taken c.send_all.new.sink in
    let two = g.O.Sink.taken c.send_all-2.new.sink in
    let three = g.O.Sink.taken c.send_all-3.new.sink in
    let four = g.O.Sink.taken c.send_all-4.new.sink in
    let printed : c.as_bytes.result.now ≡ decimal c.args.number = c.as_bytes.ensures.value ∙ c.format.ensures.text in
    let to_two = sent_2 c.args.number c.args.id.now start c.as_bytes.result.now one two printed c.in_ok-send_all.ensures.ok c.in_ok-send_all-2.ensures.ok in
    let to_three = sent_3 c.args.number c.args.id.now start two three to_two c.in_ok-send_all-3.ensures.ok in
    let to_four = sent_4 c.args.number c.args.id.now start three four to_three (subst (λ text. four ≡ appended three text) c.bytes.ensures.value c.in_ok-send_all-4.ensures.ok) in
    front_5 c.args.number c.args.id.now start four (g.O.Sink.taken c.send_all-5.new.sink) to_four c.send_all-5.ensures.front
