use Rattle.std.proofs.Common.{sym, arith}
use Rattle.as4_audit.proofs.StampLemmas.{dated, long, moment_is}
use Rattle.as4_audit.proofs.stamp.stamp_ms.Goals as goal

pub day_of-requires-clause-since : goal.day_of-requires-clause-since
day_of-requires-clause-since c =
    let d = dated c.bytes-text.result.now (c.is_moment_stamp.ensures.0 c.if-not-is_moment_stamp.false) in
    rw (c.two.ensures.value, c.two-2.ensures.value) d.since

pub day_of-requires-clause-until : goal.day_of-requires-clause-until
day_of-requires-clause-until c =
    let d = dated c.bytes-text.result.now (c.is_moment_stamp.ensures.0 c.if-not-is_moment_stamp.false) in
    rw (c.two.ensures.value, c.two-2.ensures.value) d.until

pub day_of-requires-clause-month : goal.day_of-requires-clause-month
day_of-requires-clause-month c =
    let d = dated c.bytes-text.result.now (c.is_moment_stamp.ensures.0 c.if-not-is_moment_stamp.false) in
    rw c.two-3.ensures.value d.months

pub day_of-requires-clause-day : goal.day_of-requires-clause-day
day_of-requires-clause-day c =
    let d = dated c.bytes-text.result.now (c.is_moment_stamp.ensures.0 c.if-not-is_moment_stamp.false) in
    rw c.two-4.ensures.value d.days

pub day_of-requires-clause-date : goal.day_of-requires-clause-date
day_of-requires-clause-date c =
    let d = dated c.bytes-text.result.now (c.is_moment_stamp.ensures.0 c.if-not-is_moment_stamp.false) in
    rw (c.two.ensures.value, c.two-2.ensures.value, c.two-3.ensures.value, c.two-4.ensures.value) d.date

pub two-requires-8 : goal.two-requires-8
two-requires-8 c =
    let len = long c.bytes-text.result.now (c.is_moment_stamp.ensures.0 c.if-not-is_moment_stamp.false) in
    omega (arith, len)

pub bounds-text-22 : goal.bounds-text-22
bounds-text-22 c =
    let len = long c.bytes-text.result.now (c.is_moment_stamp.ensures.0 c.if-not-is_moment_stamp.false) in
    omega (arith, len)

pub returns-clause-some : goal.returns-clause-some
returns-clause-some c =
    let text = c.bytes-text.result.now in
    let is = c.is_moment_stamp.ensures.0 c.if-not-is_moment_stamp.false in
    let day = rw (c.two.ensures.value, c.two-2.ensures.value, c.two-3.ensures.value, c.two-4.ensures.value) at c.in_ok-day.ensures in
    rw (sym c.bytes-text.ensures.value)
    (moment_is text c.in_ok-day.day _ is day.0 day.1
    (rw (c.two-5.ensures.value, c.two-6.ensures.value, c.two-7.ensures.value, c.two-8.ensures.value, c.saturating_sub.ensures) (omega arith)))
