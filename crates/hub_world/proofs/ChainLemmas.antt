-- What the lines of a script do is what passes in a chain of three endpoints.
use Rattle.std.proofs.Common.{◌≡◌, suc, ◌⊎◌, inl, inr, List, [], ◌∷◌, ◌++◌, Bool, true, false, if◌then◌else◌, Some, length, length-append, map, refl, sym, ◌∙◌, ap, subst, arith}
use Rattle.std.proofs.lemmas.List.{append-nil}
use Rattle.as4_values.specs.declared.message.Message.{Message}
use Rattle.mode_values.specs.declared.mode.Mode.{Mode}
use Rattle.drill_script.specs.declared.line.EndName.{EndName}
use Rattle.drill_script.specs.declared.line.EndName.TheVariants as name
use Rattle.drill_script.specs.declared.line.LinkName.{LinkName}
use Rattle.drill_script.specs.declared.line.LinkName.TheVariants as link
use Rattle.exchange_model.specs.Apply.{applied}
use Rattle.exchange_model.specs.Table.{Step}
use Rattle.exchange_model.specs.World.{Act, Does as Acts, IsHeard, Left, MayHappenAt, Right, Site, sends}
use Rattle.exchange_model.specs.declared.event.Event.{Event}
use Rattle.exchange_model.specs.declared.outcome.Outcome.{Outcome}
use Rattle.exchange_model.specs.declared.what.What.{What}
use Rattle.hub_laws.specs.Chain.{MayAllPass, MayPass, MeetsAt, Passing, chain_after, next_chain, world_on}
use Rattle.hub_world.specs.Ends.{Ends, chain_of, ends_after, is_same_link, link_of, said_on, sent, speaker_of}

-- each message of the hub has its link
abbrev pub Balanced : Ends → Type 0
Balanced ends = length ends.links ≡ length ends.hub.said

-- more messages on a link

if_cons : {X : Type 0} (t : Bool) (x : X) (whole front rest : List X) → whole ≡ front ++ rest
    → (if t then x ∷ whole else whole) ≡ (if t then x ∷ front else front) ++ rest
if_cons true x whole front rest is = ap (λ (l : List _). x ∷ l) is
if_cons false x whole front rest is = is

all_said : (on other : LinkName) (ms : List Message) → said_on on (map (λ (m : Message). other) ms) ms ≡ (if is_same_link on (Some other) then ms else [])
all_said link.Front link.Front [] = refl
all_said link.Front link.Rear [] = refl
all_said link.Rear link.Front [] = refl
all_said link.Rear link.Rear [] = refl
all_said link.Front link.Front (m ∷ ms) = ap (λ (l : List Message). m ∷ l) (all_said link.Front link.Front ms)
all_said link.Front link.Rear (m ∷ ms) = all_said link.Front link.Rear ms
all_said link.Rear link.Front (m ∷ ms) = all_said link.Rear link.Front ms
all_said link.Rear link.Rear (m ∷ ms) = ap (λ (l : List Message). m ∷ l) (all_said link.Rear link.Rear ms)

said_more : (on other : LinkName) (links : List LinkName) (said ms : List Message) → length links ≡ length said
    → said_on on (links ++ map (λ (m : Message). other) ms) (said ++ ms) ≡ said_on on links said ++ (if is_same_link on (Some other) then ms else [])
said_more on other [] [] ms same = all_said on other ms
said_more on other [] (m ∷ said) ms same = absurd (omega (arith, same))
said_more on other (l ∷ links) [] ms same = absurd (omega (arith, same))
said_more on other (l ∷ links) (m ∷ said) ms same =
    if_cons (is_same_link on (Some l)) m _ (said_on on links said) (if is_same_link on (Some other) then ms else [])
    (said_more on other links said ms (omega (arith, same)))

-- what an outcome sends on a link
said_here : (on : LinkName) (links : List LinkName) (said : List Message) (outcome : Outcome) (lost : Bool) → length links ≡ length said
    → is_same_link on (Some on) ≡ true
    → said_on on (links ++ map (λ (m : Message). on) (sent lost outcome)) (if lost then said else said ++ sends outcome.reply)
    ≡ (if lost then said_on on links said else said_on on links said ++ sends outcome.reply)
said_here on links said outcome true same here = ap (λ (l : List LinkName). said_on on l said) (append-nil links)
said_here on links said outcome false same here =
    said_more on on links said (sends outcome.reply) same
    ∙ ap (λ (b : Bool). said_on on links said ++ (if b then sends outcome.reply else [])) here

said_there : (on other : LinkName) (links : List LinkName) (said : List Message) (outcome : Outcome) (lost : Bool) → length links ≡ length said
    → is_same_link on (Some other) ≡ false
    → said_on on (links ++ map (λ (m : Message). other) (sent lost outcome)) (if lost then said else said ++ sends outcome.reply)
    ≡ said_on on links said
said_there on other links said outcome true same there = ap (λ (l : List LinkName). said_on on l said) (append-nil links)
said_there on other links said outcome false same there =
    said_more on other links said (sends outcome.reply) same
    ∙ ap (λ (b : Bool). said_on on links said ++ (if b then sends outcome.reply else [])) there
    ∙ append-nil (said_on on links said)

-- an event at an endpoint, on a link

-- the endpoint stands at the link
abbrev pub Fits : EndName → LinkName → Type 0
Fits name.First link.Front = Unit {0}
Fits name.Hub on = Unit {0}
Fits name.Last link.Rear = Unit {0}
Fits end on = ⊥

abbrev pub site_on : EndName → LinkName → Site
site_on name.First on = Left
site_on name.Hub link.Front = Right
site_on name.Hub link.Rear = Left
site_on end on = Right

-- what the endpoint may hear there
abbrev pub heard_on : EndName → LinkName → Ends → List Message
heard_on name.First on ends = said_on link.Front ends.links ends.hub.said
heard_on name.Hub link.Front ends = ends.first.said
heard_on name.Hub link.Rear ends = ends.last.said
heard_on end on ends = said_on link.Rear ends.links ends.hub.said

-- the act of the event, as something that passes
abbrev pub act_of : EndName → LinkName → List Mode → Event → Outcome → Bool → Act
act_of end on modes event outcome lost =
    record { site = site_on end on; modes = modes; event = event; outcome = outcome; lost = lost }

abbrev pub passing_of : LinkName → Act → Passing
passing_of on act = record { link = link_of on; happening = Acts act }

-- it may pass
pub record IsMet (end : EndName) (on : LinkName) (w : What) (ends : Ends) : Type 0 where
  pub fits : Fits end on
  pub heard : IsHeard (heard_on end on ends) w
  pub meets : MeetsAt (link_of on) (site_on end on) ends.hub.end w

may_happen : (end : EndName) (on : LinkName) (ends : Ends) (act : Act) → Fits end on → IsHeard (heard_on end on ends) act.event.what
    → Step act.modes (speaker_of end ends).end act.event act.outcome
    → MayHappenAt (site_on end on) act (world_on (link_of on) (chain_of ends))
may_happen name.First link.Front ends act fits heard step = record { heard = heard; step = step }
may_happen name.First link.Rear ends act fits heard step = absurd fits
may_happen name.Hub link.Front ends act fits heard step = record { heard = heard; step = step }
may_happen name.Hub link.Rear ends act fits heard step = record { heard = heard; step = step }
may_happen name.Last link.Front ends act fits heard step = absurd fits
may_happen name.Last link.Rear ends act fits heard step = record { heard = heard; step = step }
may_happen end on ends act fits heard step = absurd fits

pub may_pass : (end : EndName) (on : LinkName) (ends : Ends) (modes : List Mode) (event : Event) (outcome : Outcome) (lost : Bool)
    → IsMet end on event.what ends → Step modes (speaker_of end ends).end event outcome
    → MayPass (passing_of on (act_of end on modes event outcome lost)) (chain_of ends)
may_pass end on ends modes event outcome lost met step = record {
  happens = (may_happen end on ends (act_of end on modes event outcome lost) met.fits met.heard step, tt);
  meets = met.meets;
}

-- it leads to the chain of the endpoints after it
leads_to : (end : EndName) (on : LinkName) (ends : Ends) (modes : List Mode) (event : Event) (outcome : Outcome) (lost : Bool) → Fits end on → Balanced ends
    → chain_of (ends_after end on outcome lost ends) ≡ next_chain (passing_of on (act_of end on modes event outcome lost)) (chain_of ends)
leads_to name.First link.Front ends modes event outcome lost fits balanced = refl
leads_to name.First link.Rear ends modes event outcome lost fits balanced = absurd fits
leads_to name.Hub link.Front ends modes event outcome lost fits balanced = λ i. record {
  first = ends.first;
  hub = applied outcome.effects ends.hub.end;
  back = said_here link.Front ends.links ends.hub.said outcome lost balanced refl i;
  onwards = said_there link.Rear link.Front ends.links ends.hub.said outcome lost balanced refl i;
  last = ends.last;
}
leads_to name.Hub link.Rear ends modes event outcome lost fits balanced = λ i. record {
  first = ends.first;
  hub = applied outcome.effects ends.hub.end;
  back = said_there link.Front link.Rear ends.links ends.hub.said outcome lost balanced refl i;
  onwards = said_here link.Rear ends.links ends.hub.said outcome lost balanced refl i;
  last = ends.last;
}
leads_to name.Last link.Front ends modes event outcome lost fits balanced = absurd fits
leads_to name.Last link.Rear ends modes event outcome lost fits balanced = refl
leads_to end on ends modes event outcome lost fits balanced = absurd fits

length_map : {X Y : Type 0} (f : X → Y) (xs : List X) → length (map f xs) ≡ length xs
length_map f [] = refl
length_map f (x ∷ xs) = ap suc (length_map f xs)

balanced_more : (on : LinkName) (links : List LinkName) (said : List Message) (outcome : Outcome) (lost : Bool) → length links ≡ length said
    → length (links ++ map (λ (m : Message). on) (sent lost outcome)) ≡ length (if lost then said else said ++ sends outcome.reply)
balanced_more on links said outcome true same = ap length (append-nil links) ∙ same
balanced_more on links said outcome false same =
    omega (arith, same, length-append links (map (λ (m : Message). on) (sends outcome.reply)), length-append said (sends outcome.reply), length_map (λ (m : Message). on) (sends outcome.reply))

pub stays_balanced : (end : EndName) (on : LinkName) (ends : Ends) (outcome : Outcome) (lost : Bool) → Balanced ends → Balanced (ends_after end on outcome lost ends)
stays_balanced name.First on ends outcome lost balanced = balanced
stays_balanced name.Last on ends outcome lost balanced = balanced
stays_balanced end on ends outcome lost balanced = balanced_more on ends.links ends.hub.said outcome lost balanced

-- one thing passes
pub record PassesOnce (old new : Ends) : Type 0 where
  pub one : Passing
  pub may : MayPass one (chain_of old)
  pub leads : chain_of new ≡ next_chain one (chain_of old)

-- nothing passes, or one thing does
pub record GoesOnce (old new : Ends) : Type 0 where
  pub passes : (chain_of new ≡ chain_of old) ⊎ PassesOnce old new
  pub balanced : Balanced new

pub rests : (old new : Ends) → new ≡ old → Balanced old → GoesOnce old new
rests old new same balanced =
    record { passes = inl (ap chain_of same); balanced = subst Balanced (sym same) balanced }

pub makes_go : (end : EndName) (on : LinkName) (ends new : Ends) (modes : List Mode) (event : Event) (outcome : Outcome) (lost : Bool) → Balanced ends
    → IsMet end on event.what ends → Step modes (speaker_of end ends).end event outcome → new ≡ ends_after end on outcome lost ends → GoesOnce ends new
makes_go end on ends new modes event outcome lost balanced met step leads = record {
  passes = inr (record {
    one = passing_of on (act_of end on modes event outcome lost);
    may = may_pass end on ends modes event outcome lost met step;
    leads = ap chain_of leads ∙ leads_to end on ends modes event outcome lost met.fits balanced;
  });
  balanced = subst Balanced (sym leads) (stays_balanced end on ends outcome lost balanced);
}

-- where its step stands
pub stop_goes : (end : EndName) (on : LinkName) (ends new : Ends) (modes : List Mode) (event : Event) (outcome : Outcome) (stood : Bool) → Balanced ends
    → IsMet end on event.what ends → Step modes (speaker_of end ends).end event outcome
    → new ≡ (if stood then ends_after end on outcome true ends else ends) → GoesOnce ends new
stop_goes end on ends new modes event outcome true balanced met step leads = makes_go end on ends new modes event outcome true balanced met step leads
stop_goes end on ends new modes event outcome false balanced met step leads = rests ends new leads balanced

-- what passes, one after another
pub record Leads (old new : Ends) : Type 0 where
  pub all : List Passing
  pub may : MayAllPass all (chain_of old)
  pub leads : chain_of new ≡ chain_after all (chain_of old)

pub leads_nowhere : (old new : Ends) → new ≡ old → Leads old new
leads_nowhere old new same = record { all = []; may = tt; leads = ap chain_of same }

pub leads_on : (old mid new : Ends) → GoesOnce old mid → Leads mid new → Leads old new
leads_on old mid new goes rest = by_passing goes.passes
  where
    by_passing : (chain_of mid ≡ chain_of old) ⊎ PassesOnce old mid → Leads old new
    by_passing (inl same) = record {
      all = rest.all;
      may = subst (MayAllPass rest.all) same rest.may;
      leads = rest.leads ∙ ap (chain_after rest.all) same;
    }
    by_passing (inr once) = record {
      all = once.one ∷ rest.all;
      may = (once.may, subst (MayAllPass rest.all) once.leads rest.may);
      leads = rest.leads ∙ ap (chain_after rest.all) once.leads;
    }
