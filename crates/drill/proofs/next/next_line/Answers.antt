use Rattle.std.proofs.Common.{◌≡◌, refl}
use Rattle.as4_flow.specs.Flow.{before}
use Rattle.drill_script.specs.LineText.{line_text}
use Rattle.drill.proofs.NextLemmas.{unended_holds, too_long_holds, unread_told}
use Rattle.drill.proofs.next.next_line.Goals as goal

pub returns-in-Line-clause-outside : goal.returns-in-Line-clause-outside
returns-in-Line-clause-outside g c is =
    unread_told (before c.args.reader.now (g.S.Source.left c.args.source.now)) (g.S.Source.left c.next.new.source) c.in-Line.bytes c.next.new.self
    c.in-Line.ensures.line c.in-Line.ensures.lf
    (λ line said same. let read : c.bytes-in-Line.result.now ≡ line_text line = cc in c.read_line.ensures.outside is line said read)

pub returns-in-Unended-clause-outside : goal.returns-in-Unended-clause-outside
returns-in-Unended-clause-outside g c is =
    unended_holds (before c.args.reader.now (g.S.Source.left c.args.source.now)) (c.in-Unended.ensures.unended refl)

pub returns-in-TooLong-clause-outside : goal.returns-in-TooLong-clause-outside
returns-in-TooLong-clause-outside g c is =
    too_long_holds (before c.args.reader.now (g.S.Source.left c.args.source.now)) (c.in-TooLong.ensures.too_long refl)
