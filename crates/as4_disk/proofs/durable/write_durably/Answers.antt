use Rattle.std.proofs.Common.{length, sym, ◌∙◌}
use Rattle.std.proofs.lemmas.Result.{on_ok_weaker}
use Rattle.as4_disk.specs.Image.{TornFrom}
use Rattle.as4_disk.proofs.RunLemmas.{one_call, then}
use Rattle.as4_disk.proofs.ImageLemmas.{torn_nothing}
use Rattle.as4_disk.proofs.durable.write_durably.Goals as goal

-- the write alone: at its start nothing of it came, and at its end any of it
pub returns-in_err-write_at-clause-any_moment : goal.returns-in_err-write_at-clause-any_moment
returns-in_err-write_at-clause-any_moment g c =
    let old = c.args.disk.now in
    let P = TornFrom c.args.part c.args.at (length c.args.bytes.now) (g.D.Disk.may_leave old) in
    one_call g.D.Disk old c.write_at.new.self P _ c.write_at.ensures.time
    (λ image left. (image, g.met.D.Disk.only_now old image left, torn_nothing c.args.part c.args.at _ image))
    c.write_at.ensures.crash

pub returns-clause-written : goal.returns-clause-written
returns-clause-written g c =
    on_ok_weaker c.sync.result
    (λ durable v w is_old is_new. c.in_ok-write_at.ensures.written v w is_old (sym c.sync.ensures.seen ∙ is_new))
    c.sync.ensures.durable

pub returns-clause-durable : goal.returns-clause-durable
returns-clause-durable g c =
    on_ok_weaker c.sync.result (λ durable v is_new. durable v (sym c.sync.ensures.seen ∙ is_new)) c.sync.ensures.durable

-- the sync leaves what the write left
pub returns-clause-any_moment : goal.returns-clause-any_moment
returns-clause-any_moment g c =
    let old = c.args.disk.now in
    let mid = c.write_at.new.self in
    let P = TornFrom c.args.part c.args.at (length c.args.bytes.now) (g.D.Disk.may_leave old) in
    then g.D.Disk old mid c.sync.new.self P
    (one_call g.D.Disk old mid P _ c.write_at.ensures.time
    (λ image left. (image, g.met.D.Disk.only_now old image left, torn_nothing c.args.part c.args.at _ image))
    c.write_at.ensures.crash)
    (one_call g.D.Disk mid c.sync.new.self P _ c.sync.ensures.time
    (λ image left. c.write_at.ensures.crash image (g.met.D.Disk.only_now mid image left))
    (λ image now. c.write_at.ensures.crash image (c.sync.ensures.crash image now)))
