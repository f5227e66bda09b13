-- What becomes of the guests of a door who send several requests each.
use Rattle.std.proofs.Common.{◌≡◌, ◌⊎◌, ◌+◌, ◌≤◌, ℕ, zero, suc, Bool, true, false, List, [], ◌∷◌, ◌++◌, Option, Some, None, is_some, length, min, inl, inr, refl, sym, ap, subst, ◌∙◌, arith, append_assoc, length-append, true≢false}
use Rattle.std.specs.List.{AllByRecursion}
use mathlib.Core.List.{IsPrefix}
use Rattle.as4_disk.specs.declared.disk.Disk.{Ghosts as DiskMeaning}
use Rattle.as4_doors.specs.Asking.{AsksFor, IsRefusedBy, IsStranger}
use Rattle.as4_doors.specs.declared.door.DoorKind.{DoorKind}
use Rattle.as4_flow.specs.declared.clock.Clock.{Ghosts as ClockMeaning}
use Rattle.as4_flow.specs.declared.nonces.Nonces.{Ghosts as NoncesMeaning}
use Rattle.as4_host.proofs.CountLemmas.{parts, settled}
use Rattle.as4_host.specs.Counts.{HasNotRisen}
use Rattle.as4_host.specs.Lists.{first_of, without_first}
use Rattle.as4_host.specs.declared.door.Door.{Ghosts as DoorMeaning}
use Rattle.as4_host.specs.declared.link.Link.{Ghosts as LinkMeaning}
use Rattle.as4_http.specs.Requests.{BeginsRequest}
use Rattle.as4_http.specs.declared.message.Request.{Request}
use Rattle.as4_message.specs.declared.received.Refusal.{Refusal}
use Rattle.exchange_model.specs.declared.what.What.{What}
use Rattle.office.specs.declared.call.Call.{Call}
use Rattle.pass_book.specs.States.{PassState}
use Rattle.sessions.specs.declared.naming.Opening.{Ghosts as OpeningMeaning}
use Rattle.workers.specs.Bounds.{AskAtLeast, HasEventOf, IsEntered, IsQuiet, Took, door_of}
use Rattle.workers.specs.Endings.{goes_on}
use Rattle.workers.specs.Guests.{Caller, MeetsNobody}
use Rattle.workers.specs.Turns.{caller_of}
use Rattle.workers.specs.declared.job.Worker.{Worker}
use Rattle.workers.specs.declared.turn.Turn.{Turn}
use Rattle.workers.specs.declared.turn.Turn.TheVariants as turn
use Rattle.as4_keep.specs.KeptBounds.{GrowsKept}
use Rattle.as4_keep.specs.KeptGuests.{AtKeptDoor, KeepsGuest, MeetsKeptGuest, after_connection}
use Rattle.as4_keep.specs.KeptTurns.{MakesItsKeptTurns, TakesDoorTurn, TakesKeptTurns}
use Rattle.as4_keep.specs.declared.keep_end.KeepEnd.{KeepEnd}
use Rattle.as4_keep.proofs.FirstLemmas.{Entered, entered_later, first_asks}
use Rattle.as4_keep.proofs.GrowthLemmas.{IsFull}
use Rattle.as4_keep.proofs.TurnLemmas.{door_turn, finished, grows_then, room_before, starves_of, turn_grows, turns_grow}

all_later : (kind : DoorKind) (calls later : List Call) (taken : List (List ℕ)) → IsPrefix calls later → AllByRecursion (IsEntered kind calls) taken
    → AllByRecursion (IsEntered kind later) taken
all_later kind calls later [] more all = tt
all_later kind calls later (stream ∷ taken) more all = (
  λ request rest what begins asks. entered_later kind request calls later more (all.0 request rest what begins asks),
  all_later kind calls later taken more all.1,
)

all_both : (kind : DoorKind) (calls : List Call) (first second : List (List ℕ)) → AllByRecursion (IsEntered kind calls) first → AllByRecursion (IsEntered kind calls) second
    → AllByRecursion (IsEntered kind calls) (first ++ second)
all_both kind calls [] second one two = two
all_both kind calls (stream ∷ first) second one two = (one.0, all_both kind calls first second one.1 two)

-- those who ask, in two parts
asks_apart : (kind : DoorKind) (first second : List (List ℕ)) (n : ℕ) → AskAtLeast kind (first ++ second) n
    → (a b : ℕ) × (n ≡ a + b) × AskAtLeast kind first a × AskAtLeast kind second b
asks_apart kind [] second n asks = (0, n, omega arith, refl, asks)
asks_apart kind (stream ∷ first) second n (inl others) =
    let apart = asks_apart kind first second n others in
    (apart.0, apart.1, apart.2, inl apart.3, apart.4)
asks_apart kind (stream ∷ first) second n (inr (m, is, one, others)) =
    let apart = asks_apart kind first second m others in
    (suc apart.0, apart.1, omega (arith, is, apart.2), inr (apart.0, refl, one, apart.3), apart.4)

module _ {W In Out : Type 0} (G : DoorMeaning W In Out) where
  -- no count of a door falls
  pub record IsCounted (door later : W) : Type 0 where
    pub faults : G.faults door ≤ G.faults later
    pub reads : G.reads door ≤ G.reads later
    pub writes : G.writes door ≤ G.writes later

  quiet_parts : (door between later : W) → IsCounted door between → IsCounted between later → IsQuiet G door later → IsQuiet G door between × IsQuiet G between later
  quiet_parts door between later first second quiet =
      let f = parts (G.faults door) (G.faults between) (G.faults later) first.faults second.faults quiet.faults in
      let r = parts (G.reads door) (G.reads between) (G.reads later) first.reads second.reads quiet.reads in
      let w = parts (G.writes door) (G.writes between) (G.writes later) first.writes second.writes quiet.writes in
      (record { faults = f.0; reads = r.0; writes = w.0 }, record { faults = f.1; reads = r.1; writes = w.1 })

module _ {W In Out L C N : Type 0} (G : DoorMeaning W In Out) (limit : ℕ) where
  -- some turns at a door: what became of the guests, and no count fell
  pub record ServesOn (kind : DoorKind) (turns : ℕ) (all : List (List ℕ)) (door later : W) (old new : Worker W L C N) : Type 0 where
    pub took : Took G kind turns all door later old new
    pub counted : IsCounted G door later
    pub here : new.door ≡ Some later

  serves_none : (kind : DoorKind) (all : List (List ℕ)) (door : W) (old : Worker W L C N) → old.door ≡ Some door → G.guests door ≡ Some all → ServesOn kind 0 all door door old old
  serves_none kind all door old here told = record {
    took = record {
      taken = [];
      left = all;
      were = refl;
      are = told;
      few = omega arith;
      enough = λ quiet. omega arith;
      made = λ quiet room n asks. omega (arith, asks);
      entered = λ quiet room same. tt;
    };
    counted = record { faults = omega arith; reads = omega arith; writes = omega arith };
    here = here;
  }

  -- turns after turns
  serves_then : (kind : DoorKind) (m n : ℕ) (all : List (List ℕ)) (door between later : W) (old middle new : Worker W L C N)
      → (first : ServesOn kind m all door between old middle) → ServesOn kind n first.took.left between later middle new
      → GrowsKept limit m old middle → GrowsKept limit n middle new → ServesOn kind (m + n) all door later old new
  serves_then kind m n all door between later old middle new first second one two =
      let a = first.took in
      let b = second.took in
      let whole : all ≡ (a.taken ++ b.taken) ++ b.left = a.were ∙ ap (λ (l : List (List ℕ)). a.taken ++ l) b.were ∙ sym (append_assoc a.taken b.taken b.left) in
      let lengths : length (a.taken ++ b.taken) ≡ length a.taken + length b.taken = length-append a.taken b.taken in
      let total : length all ≡ length a.taken + length a.left = ap length a.were ∙ length-append a.taken a.left in record {
        took = record {
          taken = a.taken ++ b.taken;
          left = b.left;
          were = whole;
          are = b.are;
          few = omega (arith, lengths, a.few, b.few);
          enough = λ quiet.
              let apart = quiet_parts G door between later first.counted second.counted quiet in
              omega (arith, lengths, total, a.few, a.enough apart.0, b.enough apart.1);
          made = λ quiet room count asks.
              let apart = quiet_parts G door between later first.counted second.counted quiet in
              let of = asks_apart kind a.taken b.taken count asks in
              omega (arith, of.2, a.made apart.0 (room_before limit n middle new two room) of.0 of.3, b.made apart.1 room of.1 of.4);
          entered = λ quiet room same.
              let apart = quiet_parts G door between later first.counted second.counted quiet in
              all_both kind new.pass.list a.taken b.taken
              (all_later kind middle.pass.list new.pass.list a.taken two.list
              (a.entered apart.0 (room_before limit n middle new two room) (omega (arith, same, one.starved, two.starved))))
              (b.entered apart.1 room (omega (arith, same, one.starved, two.starved)));
        };
        counted = record {
          faults = omega (arith, first.counted.faults, second.counted.faults);
          reads = omega (arith, first.counted.reads, second.counted.reads);
          writes = omega (arith, first.counted.writes, second.counted.writes);
        };
        here = second.here;
      }

-- P of the first guest, where there is one
some_guest : (all : List (List ℕ)) (P : List (List ℕ) → Type 0) → ¬ (all ≡ []) → ((first : List ℕ) (others : List (List ℕ)) → P (first ∷ others)) → P all
some_guest [] P some goal = absurd (some refl)
some_guest (first ∷ others) P some goal = goal first others

module _ {D J W In Out L From To C N : Type 0} (M : DiskMeaning D) (O : OpeningMeaning J) (G : DoorMeaning W In Out) (K : LinkMeaning L From To) (T : ClockMeaning C) (R : NoncesMeaning N)
    (one : (stream : List ℕ) (a b : Request) (r q : List ℕ) → BeginsRequest stream a r → BeginsRequest stream b q → a ≡ b)
    (strangers : (door : DoorKind) (request : Request) (what : What) → IsStranger door request → ¬ (AsksFor door request what))
    (refused : (door : DoorKind) (request : Request) (refusal : Refusal) (what : What) → IsRefusedBy door request refusal → ¬ (AsksFor door request what))
    (limit : ℕ) (some : 1 ≤ limit) where
  module _ (kind : DoorKind) (door later : W) (old middle new : Worker W L C N) (s : ℕ) (pass : new.pass ≡ middle.pass) (starved : new.starved ≡ old.starved + s) (here : new.door ≡ Some later) where
    -- the guest who came was served
    serves_guest : (all : List (List ℕ)) (end : KeepEnd) → G.guests door ≡ Some all → KeepsGuest M O G T R limit kind door later (caller_of old) (caller_of middle) end
        → (after_connection end ≡ turn.Starved → s ≡ 1) → IsPrefix old.pass.list new.pass.list → old.pass.share ≤ new.pass.share → ServesOn G limit kind 1 all door later old new
    serves_guest all end told keeps counts grows share =
        some_guest all (λ a. G.guests door ≡ Some a → ServesOn G limit kind 1 a door later old new) (keeps.came all told) goal told
      where
        goal : (first : List ℕ) (others : List (List ℕ)) → G.guests door ≡ Some (first ∷ others) → ServesOn G limit kind 1 (first ∷ others) door later old new
        goal first others told =
            let left : keeps.start.left ≡ Some first = keeps.left ∙ ap first_of told in
            let list : new.pass.list ≡ middle.pass.list = ap (λ (p : PassState Call). p.list) pass in
            let asked : IsQuiet G door later → (request : Request) (rest : List ℕ) (what : What) → BeginsRequest first request rest → AsksFor kind request what
            → Entered kind request old.pass middle.pass ⊎ IsFull middle.pass ⊎ (after_connection end ≡ turn.Starved)
            = λ quiet request rest what begins asks. first_asks M O T R one strangers refused kind first rest request what begins asks limit _ _ end keeps.keeps
            left (keeps.tells ∙ ap is_some left) keeps.no_reads
            (settled keeps.finish.reads (G.reads door) (subst (λ (n : ℕ). HasNotRisen (G.reads door) n) keeps.reads quiet.reads)) keeps.no_writes
            (settled keeps.finish.writes (G.writes door) (subst (λ (n : ℕ). HasNotRisen (G.writes door) n) keeps.writes quiet.writes)) in
            record {
              took = record {
                taken = first ∷ [];
                left = others;
                were = refl;
                are = keeps.guests ∙ ap without_first told;
                few = omega arith;
                enough = λ quiet. omega (arith, starved);
                made = λ quiet room n asks. elim asks as (λ _. n + old.pass.share + old.starved ≤ new.pass.share + new.starved) [
                  | inl none ↦ omega (arith, none, share, starved)
                  | inr (m, is, one, others_ask) ↦
                      elim (asked quiet one.request one.rest one.what one.begins one.asks) as (λ _. n + old.pass.share + old.starved ≤ new.pass.share + new.starved) [
                        | inl made ↦ omega (arith, is, others_ask, made.share, ap (λ (p : PassState Call). p.share) pass, starved)
                        | inr without ↦ elim without as (λ _. n + old.pass.share + old.starved ≤ new.pass.share + new.starved) [
                          | inl full ↦ absurd (omega (arith, full, room, ap length list))
                          | inr memory ↦ omega (arith, is, others_ask, share, starved, counts memory)
                        ]
                      ]
                ];
                entered = λ quiet room same. (
                  λ request rest what begins asks. elim (asked quiet request rest what begins asks) as (λ _. HasEventOf kind request new.pass.list) [
                    | inl made ↦ subst (λ (l : List Call). HasEventOf kind request l) (sym list) made.event
                    | inr without ↦ elim without as (λ _. HasEventOf kind request new.pass.list) [
                      | inl full ↦ absurd (omega (arith, full, room, ap length list))
                      | inr memory ↦ absurd (omega (arith, same, starved, counts memory))
                    ]
                  ],
                  tt,
                );
              };
              counted = record { faults = omega (arith, keeps.faults); reads = keeps.counted.0; writes = keeps.counted.1 };
              here = here;
            }

    -- no guest came
    serves_nobody : (all : List (List ℕ)) → G.guests door ≡ Some all → MeetsNobody M O G T R door later (caller_of old) (caller_of middle)
        → G.faults door ≤ G.faults later → (IsQuiet G door later → min 1 (length all) ≤ s) → ServesOn G limit kind 1 all door later old new
    serves_nobody all told nobody faults why =
        let same : new.pass ≡ old.pass = pass ∙ ap (λ (c : Caller C N). c.pass) nobody.same in
        let share : new.pass.share ≡ old.pass.share = ap (λ (p : PassState Call). p.share) same in record {
          took = record {
            taken = [];
            left = all;
            were = refl;
            are = nobody.guests ∙ told;
            few = omega arith;
            enough = λ quiet. omega (arith, why quiet, starved);
            made = λ quiet room n asks. omega (arith, asks, share, starved);
            entered = λ quiet room is. tt;
          };
          counted = record { faults = faults; reads = omega (arith, nobody.reads); writes = omega (arith, nobody.writes) };
          here = here;
        }

  starves_for : (end : KeepEnd) (so : Turn) → after_connection end ≡ so → after_connection end ≡ turn.Starved → starves_of so ≡ 1
  starves_for end so is memory = ap starves_of (sym is ∙ memory)

  -- a turn at a door
  turn_meets : (kind : DoorKind) (all : List (List ℕ)) (door later : W) (old middle new : Worker W L C N) (end : Turn)
      → MeetsKeptGuest M O G T R limit kind door later (caller_of old) (caller_of middle) end → G.guests door ≡ Some all
      → new.pass ≡ middle.pass → new.starved ≡ old.starved + starves_of end → new.door ≡ Some later → GrowsKept limit 1 old new
      → ServesOn G limit kind 1 all door later old new × (goes_on end ≡ false → G.guests later ≡ Some [])
  turn_meets kind all door later old middle new turn.Worked (end, keeps, is) told pass starved here grows = (
    serves_guest kind door later old middle new 0 pass starved here all end told keeps (λ memory. starves_for end turn.Worked is memory) grows.list grows.share,
    λ goes. absurd (true≢false goes),
  )
  turn_meets kind all door later old middle new turn.Idle meets told pass starved here grows = (
    serves_nobody kind door later old middle new 0 pass starved here all told meets.0 meets.1.0 (λ quiet. absurd (omega (arith, quiet.faults, meets.1.1))),
    λ goes. absurd (true≢false goes),
  )
  turn_meets kind all door later old middle new turn.Starved (inl (end, keeps, is)) told pass starved here grows = (
    serves_guest kind door later old middle new 1 pass starved here all end told keeps (λ memory. refl) grows.list grows.share,
    λ goes. absurd (true≢false goes),
  )
  turn_meets kind all door later old middle new turn.Starved (inr meets) told pass starved here grows = (
    serves_nobody kind door later old middle new 1 pass starved here all told meets.0 (omega (arith, meets.1)) (λ quiet. omega arith),
    λ goes. absurd (true≢false goes),
  )
  turn_meets kind all door later old middle new turn.Closed meets told pass starved here grows =
      let none : all ≡ [] = meets.2 all told in (
        serves_nobody kind door later old middle new 0 pass starved here all told meets.0 (omega (arith, meets.1)) (λ quiet. omega (arith, ap length none)),
        λ goes. meets.0.guests ∙ told ∙ ap Some none,
      )

  -- the door after a turn
  pub record TurnServes (kind : DoorKind) (all : List (List ℕ)) (door : W) (old new : Worker W L C N) (goes : Bool) : Type 0 where
    pub later : W
    pub serves : ServesOn G limit kind 1 all door later old new
    pub closed : goes ≡ false → G.guests later ≡ Some []

  at_door : (kind : DoorKind) (all : List (List ℕ)) (door : W) (from to : Option W) (old middle new : Worker W L C N) (end : Turn) (goes : Bool)
      → AtKeptDoor M O G T R limit kind from to (caller_of old) (caller_of middle) end → from ≡ Some door → G.guests door ≡ Some all
      → new.pass ≡ middle.pass → new.starved ≡ old.starved + starves_of end → new.door ≡ to → GrowsKept limit 1 old new → goes ≡ goes_on end
      → TurnServes kind all door old new goes
  at_door kind all door (Some from) (Some to) old middle new end goes meets is told pass starved here grows goes_is =
      let same : from ≡ door = cc is in
      let served = turn_meets kind all from to old middle new end meets (ap G.guests same ∙ told) pass starved here grows in record {
        later = to;
        serves = subst (λ (d : W). ServesOn G limit kind 1 all d to old new) same served.0;
        closed = λ closes. served.1 (sym goes_is ∙ closes);
      }
  at_door kind all door (Some from) None old middle new end goes meets is told pass starved here grows goes_is = absurd meets
  at_door kind all door None to old middle new end goes meets is told pass starved here grows goes_is = absurd cc

  turn_serves : (kind : DoorKind) (all : List (List ℕ)) (door : W) (old new : Worker W L C N) (goes : Bool) → TakesDoorTurn M O G K T R limit kind old new goes
      → door_of old.job ≡ Some kind → old.door ≡ Some door → G.guests door ≡ Some all → TurnServes kind all door old new goes
  turn_serves kind all door old new goes takes at is told =
      let left = finished M O G K T R takes.end takes.middle new takes.finishes in
      let grows = turn_grows M O G K T R limit some kind old new goes at takes in
      at_door kind all door old.door takes.middle.door old takes.middle new takes.end goes takes.keeps.meets is told left.pass
      (omega (arith, left.starved, takes.keeps.starved)) left.door grows.grows takes.goes_is

  -- some turns at a door
  pub record TurnsServe (kind : DoorKind) (n : ℕ) (all : List (List ℕ)) (door : W) (old new : Worker W L C N) : Type 0 where
    pub later : W
    pub serves : ServesOn G limit kind n all door later old new

  turns_serve : (kind : DoorKind) (n : ℕ) (all : List (List ℕ)) (door : W) (old new : Worker W L C N) → TakesKeptTurns M O G K T R limit n old new
      → door_of old.job ≡ Some kind → old.door ≡ Some door → G.guests door ≡ Some all → TurnsServe kind n all door old new
  turns_serve kind zero all door old new takes at is told =
      subst (λ (w : Worker W L C N). TurnsServe kind 0 all door old w) (sym takes) (record { later = door; serves = serves_none G limit kind all door old is told })
  turns_serve kind (suc n) all door old new (middle, first, last) at is told =
      let before = turns_serve kind n all door old middle first at is told in
      let there = turns_grow M O G K T R limit some kind n old middle at first in
      let here : door_of middle.job ≡ Some kind = ap door_of there.job ∙ at in
      let takes = door_turn M O G K T R limit some kind middle new true here last in
      let grows = turn_grows M O G K T R limit some kind middle new true here takes in
      let then = turn_serves kind before.serves.took.left before.later middle new true takes here before.serves.here before.serves.took.are in record {
        later = then.later;
        serves = subst (λ (k : ℕ). ServesOn G limit kind k all door then.later old new) (omega arith)
            (serves_then G limit kind n 1 all door before.later then.later old middle new before.serves then.serves there.grows grows.grows);
      }

  -- a worker at a door that was closed has taken all guests
  serves_all : (kind : DoorKind) (m n : ℕ) (all : List (List ℕ)) (door later : W) (old new : Worker W L C N) → m ≤ n → GrowsKept limit m old new
      → (serves : ServesOn G limit kind m all door later old new) → G.guests later ≡ Some [] → ServesOn G limit kind n all door later old new
  serves_all kind m n all door later old new within grows serves none =
      let took = serves.took in
      let left : took.left ≡ [] = cc (took.are, none) in
      let total : length all ≡ length took.taken + length took.left = ap length took.were ∙ length-append took.taken took.left in record {
        took = record {
          taken = took.taken;
          left = took.left;
          were = took.were;
          are = took.are;
          few = omega (arith, took.few, within);
          enough = λ quiet. omega (arith, total, ap length left, grows.starved);
          made = took.made;
          entered = took.entered;
        };
        counted = serves.counted;
        here = serves.here;
      }

  pub worked_serves : (kind : DoorKind) (all : List (List ℕ)) (door : W) (old new : Worker W L C N) → MakesItsKeptTurns M O G K T R limit old new
      → door_of old.job ≡ Some kind → old.door ≡ Some door → G.guests door ≡ Some all → TurnsServe kind old.turns all door old new
  worked_serves kind all door old new (inl takes) at is told = turns_serve kind old.turns all door old new takes at is told
  worked_serves kind all door old new (inr (n, middle, fewer, first, last)) at is told =
      let before = turns_serve kind n all door old middle first at is told in
      let there = turns_grow M O G K T R limit some kind n old middle at first in
      let here : door_of middle.job ≡ Some kind = ap door_of there.job ∙ at in
      let takes = door_turn M O G K T R limit some kind middle new false here last in
      let one = turn_grows M O G K T R limit some kind middle new false here takes in
      let then = turn_serves kind before.serves.took.left before.later middle new false takes here before.serves.here before.serves.took.are in
      let whole = serves_then G limit kind n 1 all door before.later then.later old middle new before.serves then.serves there.grows one.grows in
      let grows : GrowsKept limit (n + 1) old new = subst (λ (k : ℕ). GrowsKept limit k old new) (omega arith) (grows_then limit n old middle new there one).grows in record {
        later = then.later;
        serves = serves_all kind (n + 1) old.turns all door then.later old new (omega (arith, fewer)) grows whole (then.closed refl);
      }
