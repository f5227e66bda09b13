-- What a hub reads it may relay, and each chain goes on where it does.
use Rattle.std.proofs.Common.{◌≡◌, ℕ, ◌≤◌, List, [], ◌∷◌, ◌++◌, Bool, true, false, Option, Some, None, length, append_assoc, refl, sym, ap, ◌∙◌, subst, arith}
use Rattle.std.specs.Prelude.{nat_lt, slice_get, if◌then◌else◌}
use Rattle.std.proofs.lemmas.Bool.Decides.{nat_tests}
use Rattle.as4_values.specs.declared.header.UserHeader.{UserHeader}
use Rattle.as4_values.specs.declared.message.Message.{Message}
use Rattle.as4_values.specs.declared.payload.Load.{Load}
use Rattle.as4_values.specs.declared.payload.Payload.{Payload}
use Rattle.mode_values.specs.declared.mode.Mode.{Mode}
use Rattle.exchange_model.specs.Apply.{applied}
use Rattle.exchange_model.specs.End.{End}
use Rattle.exchange_model.specs.Fold.{IsFoldedSize, resized}
use Rattle.exchange_model.specs.Table.{Rests, RowOf, Step, entry_reply, read_reply}
use Rattle.exchange_model.specs.World.{Does, Folds, IsHeard, Left}
use Rattle.exchange_model.specs.declared.event.Event.{Event}
use Rattle.exchange_model.specs.declared.inbox_entry.InboxEntry.{InboxEntry}
use Rattle.exchange_model.specs.declared.outcome.Outcome.{Outcome}
use Rattle.exchange_model.specs.declared.reply.Reply.TheVariants as reply
use Rattle.exchange_model.specs.declared.what.What.{What}
use Rattle.exchange_model.specs.declared.what.What.TheVariants as what
use Rattle.exchange_laws.proofs.RoomLemmas.{rest_taken}
use Rattle.hub_laws.specs.Chain.{Chain, IsOwn, MayAllPass, MayPass, MeetsRear, Passing, Rear, Relays, chain_after, loads_of, new_chain, next_chain}
use Rattle.hub_laws.specs.DeliveredThrough.{GoesOn, IsDelivered, LeadsOn}
use Rattle.hub_laws.proofs.ChainLemmas.{chain_holds, new_chain_holds}
use Rattle.hub_laws.proofs.DeliveredLemmas.{delivers_through}

-- the row of a `Read` is the outcome
pub read_rests : (modes : List Mode) (hub : End) (event : Event) (outcome : Outcome) (n : ℕ) → Step modes hub event outcome
    → event.what ≡ what.Read n → Rests (read_reply hub n) outcome
read_rests modes hub event outcome n step asked =
    rest_taken hub step.row outcome (read_reply hub n) step.limited
    (subst (λ (w : What). RowOf modes hub event w step.row) asked step.decided)

-- an entry is read where it isn't confirmed
pub record IsRead (hub : End) (n : ℕ) (header : UserHeader) (payloads : List Payload) : Type 0 where
  pub entry : InboxEntry
  pub there : slice_get hub.inbox n ≡ Some entry
  pub waits : hub.confirmed ≤ n
  pub headed : header ≡ entry.header
  pub loaded : payloads ≡ entry.payloads

read_entry : (hub : End) (n : ℕ) (header : UserHeader) (payloads : List Payload) → read_reply hub n ≡ reply.Entry header payloads
    → IsRead hub n header payloads
unfolding read_reply
read_entry hub n header payloads e = by_test (nat_lt n hub.confirmed) refl e
  where
    by_entry : (o : Option InboxEntry) → slice_get hub.inbox n ≡ o → hub.confirmed ≤ n → entry_reply o ≡ reply.Entry header payloads
        → IsRead hub n header payloads
    by_entry None at waits e = absurd cc
    by_entry (Some entry) at waits e =
        let head : entry.header ≡ header = cc in
        let body : entry.payloads ≡ payloads = cc in
        record { entry = entry; there = at; waits = waits; headed = sym head; loaded = sym body }

    by_test : (b : Bool) → nat_lt n hub.confirmed ≡ b → (if b then reply.Gone else entry_reply (slice_get hub.inbox n)) ≡ reply.Entry header payloads
        → IsRead hub n header payloads
    by_test true t e = absurd cc
    by_test false t e = by_entry (slice_get hub.inbox n) refl (grind (arith, nat_tests)) e

pub relays_read : (modes : List Mode) (hub : End) (event : Event) (outcome : Outcome) (header : UserHeader) (payloads : List Payload)
    → Step modes hub event outcome → event.what ≡ what.Read (length hub.sent) → outcome.reply ≡ reply.Entry header payloads
    → Relays hub header.conversation (loads_of payloads)
relays_read modes hub event outcome header payloads step asked told =
    let rests = read_rests modes hub event outcome (length hub.sent) step asked in
    let is = read_entry hub (length hub.sent) header payloads (sym (ap (λ (o : Outcome). o.reply) rests) ∙ told) in
    record {
      entry = is.entry;
      there = is.there;
      waits = is.waits;
      talks = ap (λ (h : UserHeader). h.conversation) is.headed;
      loaded = ap loads_of is.loaded;
    }

-- passings of two spans
may_join : (all more : List Passing) (chain : Chain) → MayAllPass all chain → MayAllPass more (chain_after all chain) → MayAllPass (all ++ more) chain
may_join [] more chain may later = later
may_join (passing ∷ all) more chain may later = (may.0, may_join all more (next_chain passing chain) may.1 later)

after_both : (all more : List Passing) (chain : Chain) → chain_after (all ++ more) chain ≡ chain_after more (chain_after all chain)
after_both [] more chain = refl
after_both (passing ∷ all) more chain = after_both all more (next_chain passing chain)

-- a chain goes on by these passings
pub leads_by : (all more : List Passing) (hub : End) → MayAllPass all new_chain → MayAllPass more (chain_after all new_chain)
    → (chain_after more (chain_after all new_chain)).hub ≡ hub → LeadsOn hub all
leads_by all more hub may later leads = record {
  more = more;
  may = both;
  leads = ap (λ (chain : Chain). chain.hub) (after_both all more new_chain) ∙ leads;
  delivered = delivers_through (chain_after (all ++ more) new_chain) (chain_holds (all ++ more) new_chain new_chain_holds both);
}
  where
    both : MayAllPass (all ++ more) new_chain
    both = may_join all more new_chain may later

pub goes_on_resting : (hub : End) → GoesOn hub hub
goes_on_resting hub all may is = leads_by all [] hub may tt is

-- one span after another
pub goes_on_joined : (a b c : End) → GoesOn a b → GoesOn b c → GoesOn a c
goes_on_joined a b c first second all may is = record {
  more = earlier.more ++ later.more;
  may = subst (λ (every : List Passing). MayAllPass every new_chain) whole later.may;
  leads = subst (λ (every : List Passing). (chain_after every new_chain).hub ≡ c) whole later.leads;
  delivered = subst (λ (every : List Passing). IsDelivered (chain_after every new_chain)) whole later.delivered;
}
  where
    earlier : LeadsOn b all
    earlier = first all may is

    later : LeadsOn c (all ++ earlier.more)
    later = second (all ++ earlier.more) earlier.may earlier.leads

    whole : (all ++ earlier.more) ++ later.more ≡ all ++ (earlier.more ++ later.more)
    whole = append_assoc all earlier.more later.more

-- an act of the hub by itself
acting : List Mode → Event → Outcome → Passing
acting modes event outcome =
    record { link = Rear; happening = Does (record { site = Left; modes = modes; event = event; outcome = outcome; lost = false }) }

own_heard : (said : List Message) (w : What) → IsOwn w → IsHeard said w
own_heard said (what.Came m) own = absurd own
own_heard said other own = tt

acts_from : (modes : List Mode) (event : Event) (outcome : Outcome) (chain : Chain) → Step modes chain.hub event outcome → IsOwn event.what
    → MeetsRear chain.hub event.what → MayPass (acting modes event outcome) chain
unfolding acting
acts_from modes event outcome chain step own meets =
    record { happens = (record { heard = own_heard chain.last.said event.what own; step = step }, tt); meets = meets }

pub goes_on_acting : (modes : List Mode) (hub : End) (event : Event) (outcome : Outcome) → Step modes hub event outcome → IsOwn event.what
    → MeetsRear hub event.what → GoesOn hub (applied outcome.effects hub)
unfolding acting
goes_on_acting modes hub event outcome step own meets all may is =
    leads_by all (acting modes event outcome ∷ []) (applied outcome.effects hub) may (
      acts_from modes event outcome (chain_after all new_chain) (subst (λ (end : End). Step modes end event outcome) (sym is) step) own
          (subst (λ (end : End). MeetsRear end event.what) (sym is) meets),
      tt,
    )
    (ap (applied outcome.effects) is)

pub goes_on_relaying : (modes : List Mode) (hub : End) (event : Event) (outcome : Outcome) (name : List ℕ) (conversation : Option (List ℕ)) (loads : List Load)
    → Step modes hub event outcome → event.what ≡ what.Submit name conversation loads → Relays hub conversation loads
    → GoesOn hub (applied outcome.effects hub)
goes_on_relaying modes hub event outcome name conversation loads step asked relays =
    goes_on_acting modes hub event outcome step (subst IsOwn (sym asked) tt) (subst (MeetsRear hub) (sym asked) relays)

-- the compaction of its journal
folding : ℕ → Passing
folding size = record { link = Rear; happening = Folds Left size }

pub goes_on_folding : (hub : End) (size : ℕ) → IsFoldedSize hub size → GoesOn hub (resized size hub)
unfolding folding
goes_on_folding hub size folds all may is =
    leads_by all (folding size ∷ []) (resized size hub) may
    (record { happens = (subst (λ (end : End). IsFoldedSize end size) (sym is) folds, tt); meets = tt }, tt)
    (ap (resized size) is)
