use Rattle.std.proofs.Common.{◌≡◌, ◌++◌, codes, ◌∙◌, subst}
use Rattle.std.specs.Fmt.{decimal}
use Rattle.as4_flow.specs.Flow.{TakesFront, appended}
use Rattle.as4_tool.proofs.TellLemmas.{tells_front, tells_next, tells_sent}
use Rattle.as4_tool.proofs.status.send_line.Goals as goal

pub returns-in_err-send_all-clause-told : goal.returns-in_err-send_all-clause-told
returns-in_err-send_all-clause-told g c =
    tells_front c.args.words.now (decimal c.args.number ++ codes "\n") _ _ _ _
    c.in_err-send_all.ensures.front c.in_err-send_all.ensures.err

pub returns-in_err-send_all-2-clause-told : goal.returns-in_err-send_all-2-clause-told
returns-in_err-send_all-2-clause-told g c =
    let taken = g.E.Sink.taken c.send_all.new.sink in
    let later = g.E.Sink.taken c.send_all-2.new.sink in
    let printed : c.as_bytes.result.now ≡ decimal c.args.number = c.as_bytes.ensures.value ∙ c.format.ensures.text in
    tells_next c.args.words.now (decimal c.args.number ++ codes "\n") _ taken later _ _ _
    c.in_ok-send_all.ensures.ok c.in_ok-send_all.ensures.counted
    (tells_front (decimal c.args.number) (codes "\n") taken later _ _
    (subst (λ text. TakesFront text taken later) printed c.in_err-send_all-2.ensures.front)
    c.in_err-send_all-2.ensures.err)

pub returns-clause-told : goal.returns-clause-told
returns-clause-told g c =
    let taken = g.E.Sink.taken c.send_all.new.sink in
    let mid = g.E.Sink.taken c.send_all-2.new.sink in
    let later = g.E.Sink.taken c.send_all-3.new.sink in
    let printed : c.as_bytes.result.now ≡ decimal c.args.number = c.as_bytes.ensures.value ∙ c.format.ensures.text in
    tells_next c.args.words.now (decimal c.args.number ++ codes "\n") _ taken later _ _ _
    c.in_ok-send_all.ensures.ok c.in_ok-send_all.ensures.counted
    (tells_next (decimal c.args.number) (codes "\n") taken mid later _ _ _
    (subst (λ text. mid ≡ appended taken text) printed c.in_ok-send_all-2.ensures.ok)
    c.in_ok-send_all-2.ensures.counted
    (tells_sent c.send_all-3.result (codes "\n") mid later _ _
    c.send_all-3.ensures.ok c.send_all-3.ensures.err c.send_all-3.ensures.front))
