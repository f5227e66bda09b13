-- What the lines of a script do is what happens in a world of two ends.
use Rattle.std.proofs.Common.{◌≡◌, ℕ, ◌⊎◌, inl, inr, List, [], ◌∷◌, Bool, true, false, if◌then◌else◌, sym, ◌∙◌, ap, subst}
use Rattle.drill_world.specs.Endpoints.{MatchFold}
use Rattle.drill_world.specs.Events.{Doing, Sets, Does, Stops, Reopens, Folds, Says, site_of}
use Rattle.drill_world.specs.Transcript.{DrillState, Plays, PlaysAll, doing_of, stands}
use Rattle.drill_script.specs.declared.line.Line.{Line}
use Rattle.drill_script.specs.declared.line.Line.TheVariants as line
use Rattle.exchange_model.specs.World.{Act, Does as Acts, Folds as Resizes, Happening, Site, World, MayHappen, MayHappenAt, folded_at, speaker_at, world_after, world_at}

-- what may happen leads from one world to the other
pub record Leads (old new : World) : Type 0 where
  pub all : List Happening
  pub may : MayHappen all old
  pub after : new ≡ world_after all old

-- one happening does
pub record LeadsAtOnce (old new : World) : Type 0 where
  pub one : Happening
  pub may : MayHappen (one ∷ []) old
  pub after : new ≡ world_after (one ∷ []) old

leads_nowhere : (old new : World) → new ≡ old → Leads old new
leads_nowhere old new same = record { all = []; may = tt; after = same }

-- one happening, before others
before_others : (one : Happening) (old new : World) → MayHappen (one ∷ []) old → Leads (world_after (one ∷ []) old) new → Leads old new
before_others (Acts act) old new may rest = record { all = Acts act ∷ rest.all; may = (may.0, rest.may); after = rest.after }
before_others (Resizes site size) old new may rest = record { all = Resizes site size ∷ rest.all; may = (may.0, rest.may); after = rest.after }

leads_on : (old mid new : World) → (mid ≡ old) ⊎ LeadsAtOnce old mid → Leads mid new → Leads old new
leads_on old mid new (inl same) rest = subst (λ (w : World). Leads w new) same rest
leads_on old mid new (inr first) rest = before_others first.one old new first.may (subst (λ (w : World). Leads w new) first.after rest)

-- an act at this site leads there
leads_at : (act : Act) (site : Site) (old new : World) → act.site ≡ site → MayHappenAt site act old → new ≡ world_at site act old
    → LeadsAtOnce old new
leads_at act site old new at may after = record {
  one = Acts act;
  may = (subst (λ (s : Site). MayHappenAt s act old) (sym at) may, tt);
  after = after ∙ ap (λ (s : Site). world_at s act old) (sym at);
}

-- a stopped act leads there, or nowhere
stopped_leads : (act : Act) (site : Site) (old new : World) (stood : Bool) → act.site ≡ site → MayHappenAt site act old
    → new ≡ (if stood then world_at site act old else old) → (new ≡ old) ⊎ LeadsAtOnce old new
stopped_leads act site old new true at may after = inr (leads_at act site old new at may after)
stopped_leads act site old new false at may after = inl after

-- so does a fold
fold_leads : (site : Site) (old new : World) → MatchFold (speaker_at site old).end (λ size. new ≡ folded_at site size old) (new ≡ old)
    → (new ≡ old) ⊎ LeadsAtOnce old new
fold_leads site old new (inl shorter) = inr (record { one = Resizes site shorter.0; may = (shorter.1, tt); after = shorter.3 })
fold_leads site old new (inr least) = inl least.1

-- a line leads nowhere or makes one thing happen
line_leads : (l : Line) (doing : Doing) (old new : DrillState) (text : List ℕ) → Plays l doing old text new
    → (new.world ≡ old.world) ⊎ LeadsAtOnce old.world new.world
line_leads (line.Mode name link way retries period) doing old new text plays = inl (ap (λ (s : DrillState). s.world) plays.3)
line_leads l (Does ask) old new text makes =
    inr (leads_at makes.act _ old.world new.world makes.is.at makes.is.may (ap (λ (s : DrillState). s.world) makes.leads))
line_leads l (Stops call pick ask) old new text stops =
    stopped_leads stops.act (site_of ask.end) old.world new.world (stands call pick) stops.is.at stops.is.may (ap (λ (s : DrillState). s.world) stops.leads)
line_leads l (Reopens end) old new text reopens = inl (ap (λ (s : DrillState). s.world) reopens.1)
line_leads l (Folds end) old new text folds =
    let same : folds.world ≡ new.world = ap (λ (s : DrillState). s.world) (sym folds.leads) in
    fold_leads (site_of end) old.world new.world
    (subst (λ (w : World). MatchFold (speaker_at (site_of end) old.world).end (λ size. w ≡ folded_at (site_of end) size old.world) (w ≡ old.world)) same folds.folds)
line_leads l (Says end words) old new text says = inl (ap (λ (s : DrillState). s.world) says.1)
line_leads l Sets old new text never = absurd never

-- lines lead by what happens at each
pub lines_lead : (lines : List Line) (old new : DrillState) (text : List ℕ) → PlaysAll lines old text new → Leads old.world new.world
lines_lead [] old new text plays = leads_nowhere old.world new.world (ap (λ (s : DrillState). s.world) plays.1)
lines_lead (l ∷ lines) old new text plays =
    leads_on old.world plays.0.world new.world
    (line_leads l (doing_of old.world l) old plays.0 plays.1 plays.5)
    (lines_lead lines plays.0 new plays.2 plays.6)
