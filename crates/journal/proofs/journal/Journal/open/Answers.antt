use Rattle.std.proofs.Common.{◌<◌, [], ◌∷◌, ◌++◌, ap, length, arith}
use Rattle.std.proofs.lemmas.Option.{MatchOption-at_some}
use Rattle.journal.specs.declared.version.Version.{Version}
use Rattle.journal.specs.declared.version.Version.TheVariants.{One, Two}
use Rattle.journal.specs.Leaf.{front_of, limit_of}
use Rattle.journal.proofs.LeafLemmas.{length-front}
use Rattle.journal.proofs.StoreLemmas.{settled_told}
use Rattle.journal.proofs.journal.Journal.open.Goals as goal

front_within : (version : Version) → length (front_of version []) < limit_of version
front_within One = omega (arith, length-front One [])
front_within Two = omega (arith, length-front Two [])

pub returns-in-Ok-Some-clause-read : goal.returns-in-Ok-Some-clause-read
returns-in-Ok-Some-clause-read g c b told =
    let found = MatchOption-at_some _ _ _ c.in-Ok-Some.field-0-is c.in-Ok-Some.ensures.read b told in (
      record {
        next = found.0.next;
        rest = found.0.rest;
        settled = found.0.settled;
        place = omega (arith, length-front c.in-Ok-Some.version []);
        within = front_within c.in-Ok-Some.version;
        made = found.0.made;
        ahead = tt;
      },
      found.1,
    )

pub returns-in-Ok-Some-clause-new : goal.returns-in-Ok-Some-clause-new
returns-in-Ok-Some-clause-new g c b told d told_now short =
    let begins = (MatchOption-at_some _ _ _ c.in-Ok-Some.field-0-is c.in-Ok-Some.ensures.read b told).0 in
    let leaf = front_of c.in-Ok-Some.version [] ++ begins.next ∷ begins.rest in
    begins.new (omega (arith, short, ap length (settled_told g.D.Disk c.start.new.disk c.in-Ok-Some.is_second leaf d begins.settled told_now).2))
