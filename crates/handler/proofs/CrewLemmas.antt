-- What the turns of all workers add up to.
use Rattle.std.proofs.Common.{◌≡◌, ◌≢◌, ◌⊎◌, ◌+◌, ◌*◌, ◌≤◌, ◌<◌, ℕ, zero, suc, false, List, [], ◌∷◌, ◌++◌, Option, Some, None, All, length, slice_index_or, refl, sym, ap, subst, ◌∙◌, inl, inr, arith, append-nil, append_assoc, suc-mul, mul-le-mul_left}
use Rattle.std.proofs.lemmas.List.Elements.{All-head, All-tail}
use mathlib.Core.List.{IsPrefix}
use Rattle.as4_disk.specs.declared.disk.Disk.{Ghosts as DiskMeaning}
use Rattle.as4_doors.specs.declared.door.DoorKind.{DoorKind}
use Rattle.as4_doors.specs.declared.door.DoorKind.TheVariants as door
use Rattle.as4_flow.specs.Flow.{one_more}
use Rattle.as4_flow.specs.declared.clock.Clock.{Ghosts as ClockMeaning}
use Rattle.as4_flow.specs.declared.nonces.Nonces.{Ghosts as NoncesMeaning}
use Rattle.as4_host.specs.Counts.{HasNotRisen, raised}
use Rattle.as4_host.specs.Lists.{and_all}
use Rattle.as4_host.specs.declared.door.Door.{Ghosts as DoorMeaning}
use Rattle.as4_host.specs.declared.host.Host.{Ghosts as HostMeaning}
use Rattle.as4_host.specs.declared.link.Link.{Ghosts as LinkMeaning}
use Rattle.as4_keep.specs.KeptBounds.{most_kept_calls}
use Rattle.handler.specs.Crews.{AllMadeTurns, AllTookTurns, IsAside, IsHired, MadeTurns, StandsAt, TookTurns}
use Rattle.handler.specs.Dismissal.{AllRetire, Gathering, Retires, SettlesDialer, SettlesDoor, SettlesDoorIf, address_of}
use Rattle.handler.specs.declared.setup.Setup.{Setup}
use Rattle.pass_book.specs.States.{Book}
use Rattle.pass_book.proofs.Beginnings.{prefix_self}
use Rattle.sessions.specs.declared.naming.Opening.{Ghosts as OpeningMeaning}
use Rattle.workers.specs.Bounds.{Took, door_of}
use Rattle.workers.specs.declared.job.Job.{Job}
use Rattle.workers.specs.declared.job.Job.TheVariants as job
use Rattle.workers.specs.declared.job.Worker.{Worker}

pub prefix_then : {A : Type 0} (xs ys zs : List A) → IsPrefix xs ys → IsPrefix ys zs → IsPrefix xs zs
prefix_then xs ys zs (more, is) (rest, was) =
    (more ++ rest, sym (append_assoc xs more rest) ∙ ap (λ l. l ++ rest) is ∙ was)

at_most_thousand : (keep : ℕ) (j : Job) → keep ≤ 1000 → most_kept_calls keep j ≤ 1000
at_most_thousand keep job.Peer few = few
at_most_thousand keep job.Local few = few
at_most_thousand keep job.Push few = omega arith
at_most_thousand keep (job.Pull mode) few = omega arith
at_most_thousand keep job.Tick few = omega arith

-- the address of a worker that serves at a door
peer_address : (setup : Setup) (j : Job) → door_of j ≡ Some door.Peer → address_of setup j ≡ setup.peer.now
peer_address setup job.Peer at = refl
peer_address setup job.Local at = absurd cc
peer_address setup job.Push at = refl
peer_address setup (job.Pull mode) at = refl
peer_address setup job.Tick at = refl

local_address : (setup : Setup) (j : Job) → door_of j ≡ Some door.Local → address_of setup j ≡ setup.local.now
local_address setup job.Peer at = absurd cc
local_address setup job.Local at = refl
local_address setup job.Push at = absurd cc
local_address setup (job.Pull mode) at = absurd cc
local_address setup job.Tick at = absurd cc

-- a count that hasn't risen over a longer time says that what was settled in it has not failed
pub never_failed : (first count faults later last : ℕ) → HasNotRisen first last → first ≤ count → later ≡ raised faults count → later ≤ last → faults ≡ 0
never_failed first count zero later last quiet before is after = refl
never_failed first count (suc n) later last quiet before is after = absurd (let same : later ≡ one_more count = is in omega (arith, quiet, before, same, after))

module _ {W L C N In Out : Type 0} (G : DoorMeaning W In Out) (keep : ℕ) where
  pub made_all : (olds news : List (Worker W L C N)) → length news ≡ length olds
      → ((i : ℕ) (w : Worker W L C N) → i < length olds → MadeTurns G keep (slice_index_or olds i w) (slice_index_or news i w)) → AllMadeTurns G keep olds news
  made_all [] [] long each = tt
  made_all [] (new ∷ news) long each = absurd (omega (arith, long))
  made_all (old ∷ olds) [] long each = absurd (omega (arith, long))
  made_all (old ∷ olds) (new ∷ news) long each =
      (each 0 old (omega arith), made_all olds news (omega (arith, long)) (λ i w lt. each (suc i) w (omega (arith, lt))))

  pub record Parts (xs ys : List (Worker W L C N)) (news : List (Worker W L C N)) : Type 0 where
    pub first : List (Worker W L C N)
    pub last : List (Worker W L C N)
    pub are : news ≡ first ++ last
    pub firsts : AllMadeTurns G keep xs first
    pub lasts : AllMadeTurns G keep ys last

  pub made_parts : (xs ys news : List (Worker W L C N)) → AllMadeTurns G keep (xs ++ ys) news → Parts xs ys news
  made_parts [] ys news all = record { first = []; last = news; are = refl; firsts = tt; lasts = all }
  made_parts (x ∷ xs) ys [] all = absurd all
  made_parts (x ∷ xs) ys (new ∷ news) all =
      let rest = made_parts xs ys news all.1 in record {
        first = new ∷ rest.first;
        last = rest.last;
        are = ap (λ l. new ∷ l) rest.are;
        firsts = (all.0, rest.firsts);
        lasts = rest.lasts;
      }

  -- the last two
  pub record Pair (x y : Worker W L C N) (news : List (Worker W L C N)) : Type 0 where
    pub one : Worker W L C N
    pub two : Worker W L C N
    pub are : news ≡ one ∷ two ∷ []
    pub first : MadeTurns G keep x one
    pub second : MadeTurns G keep y two

  pub made_pair : (x y : Worker W L C N) (news : List (Worker W L C N)) → AllMadeTurns G keep (x ∷ y ∷ []) news → Pair x y news
  made_pair x y [] all = absurd all
  made_pair x y (one ∷ []) all = absurd all.1
  made_pair x y (one ∷ two ∷ []) all = record { one = one; two = two; are = refl; first = all.0; second = all.1.0 }
  made_pair x y (one ∷ two ∷ three ∷ more) all = absurd all.1.1

module _ {D J W In Out L From To C N : Type 0} (S : DiskMeaning D) (O : OpeningMeaning J) (G : DoorMeaning W In Out) (K : LinkMeaning L From To) (T : ClockMeaning C) (R : NoncesMeaning N) (keep : ℕ) where
  pub took_all : (olds news : List (Worker W L C N)) → length news ≡ length olds
      → ((i : ℕ) (w : Worker W L C N) → i < length olds → TookTurns S G K T R keep O (slice_index_or olds i w) (slice_index_or news i w)) → AllTookTurns S G K T R keep O olds news
  took_all [] [] long each = tt
  took_all [] (new ∷ news) long each = absurd (omega (arith, long))
  took_all (old ∷ olds) [] long each = absurd (omega (arith, long))
  took_all (old ∷ olds) (new ∷ news) long each =
      (each 0 old (omega arith), took_all olds news (omega (arith, long)) (λ i w lt. each (suc i) w (omega (arith, lt))))

module _ {H Store Door Dialer Time Dice DoorIn DoorOut DialerIn DialerOut : Type 0} (M : HostMeaning H Store Door Dialer Time Dice DoorIn DoorOut DialerIn DialerOut) (G : DoorMeaning Door DoorIn DoorOut) (K : LinkMeaning Dialer DialerIn DialerOut) (setup : Setup) where
  -- the sums over all passes
  pub record Sums (count turns : ℕ) (old new : Gathering H) : Type 0 where
    pub stake : new.pass.stake ≡ old.pass.stake + count
    pub share : new.pass.share ≤ old.pass.share + count * (turns * 1000)
    pub starved : new.starved ≡ false → old.starved ≡ false
    pub list : IsPrefix old.pass.list new.pass.list

  pub sums : (book : Book) (turns : ℕ) (crew done : List (Worker Door Dialer Time Dice)) (old new : Gathering H) → setup.keep ≤ 1000 → All (IsHired book turns) crew
      → AllMadeTurns G setup.keep crew done → AllRetire M G K setup done old new → Sums (length crew) turns old new
  sums book turns [] [] old new few hired made same = record {
    stake = ap (λ (g : Gathering H). g.pass.stake) same ∙ omega arith;
    share = omega (arith, ap (λ (g : Gathering H). g.pass.share) same);
    starved = λ is. sym (ap (λ (g : Gathering H). g.starved) same) ∙ is;
    list = subst (λ (g : Gathering H). IsPrefix old.pass.list g.pass.list) (sym same) (prefix_self old.pass.list);
  }
  sums book turns [] (d ∷ ds) old new few hired made all = absurd made
  sums book turns (c ∷ cs) [] old new few hired made all = absurd made
  sums book turns (c ∷ cs) (d ∷ ds) old new few hired made (middle, first, last) =
      let rest = sums book turns cs ds old middle few (All-tail (IsHired book turns) c cs hired) made.1 first in
      let is = All-head (IsHired book turns) c cs hired in
      let stake : new.pass.stake ≡ middle.pass.stake + d.pass.stake = ap (λ p. p.stake) last.pass.sums in
      let share : new.pass.share ≡ middle.pass.share + d.pass.share = ap (λ p. p.share) last.pass.sums in
      let most : c.turns * most_kept_calls setup.keep c.job ≤ c.turns * 1000 = mul-le-mul_left c.turns (at_most_thousand setup.keep c.job few) in
      let turns_are : c.turns * 1000 ≡ turns * 1000 = ap (λ t. t * 1000) is.turns_are in
      let product : suc (length cs) * (turns * 1000) ≡ length cs * (turns * 1000) + turns * 1000 = suc-mul (length cs) (turns * 1000) in record {
        stake = omega (arith, stake, rest.stake, made.0.pass.1, is.stake);
        share = omega (arith, share, rest.share, made.0.grows.most, most, turns_are, product, is.share);
        starved = λ none. rest.starved (last.starved none).0;
        list = prefix_then old.pass.list middle.pass.list new.pass.list rest.list last.pass.one;
      }

  -- the door at which a worker stood was given back there
  pub record GivesBack (kind : DoorKind) (address : List ℕ) (all : List (List ℕ)) (w later : Worker Door Dialer Time Dice) (old new : Gathering H) : Type 0 where
    pub from : Door
    pub to : Door
    pub new_at_first : (G.faults from ≡ 0) × (G.reads from ≡ 0) × (G.writes from ≡ 0)
    pub took : Took G kind w.turns all from to w later
    pub middle : H
    pub settles : SettlesDoor M G K address to old.host middle
    pub link : SettlesDialer M G K later.link middle new.host

  gives_back : (kind : DoorKind) (address : List ℕ) (guests : Option (List (List ℕ))) (all : List (List ℕ)) (w later : Worker Door Dialer Time Dice) (old new : Gathering H)
      → StandsAt G kind guests w → guests ≡ Some all → MadeTurns G setup.keep w later → address_of setup w.job ≡ address → Retires M G K setup later old new
      → GivesBack kind address all w later old new
  gives_back kind address guests all w later old new stands are made is retires =
      let took = made.took kind stands.door all stands.at stands.is (stands.guests_are ∙ are) in
      let place : address_of setup later.job ≡ address = ap (address_of setup) made.kept.0 ∙ is in record {
        from = stands.door;
        to = took.0;
        new_at_first = stands.is_new;
        took = took.2;
        middle = retires.middle;
        settles = subst (λ (door : Option Door). SettlesDoorIf M G K address door old.host retires.middle) took.1
            (subst (λ a. SettlesDoorIf M G K a later.door old.host retires.middle) place retires.door);
        link = retires.link;
      }

  pub gives_back_peer : (guests : Option (List (List ℕ))) (all : List (List ℕ)) (w later : Worker Door Dialer Time Dice) (old new : Gathering H)
      → StandsAt G door.Peer guests w → guests ≡ Some all → MadeTurns G setup.keep w later → Retires M G K setup later old new
      → GivesBack door.Peer setup.peer.now all w later old new
  gives_back_peer guests all w later old new stands are made retires =
      gives_back door.Peer setup.peer.now guests all w later old new stands are made (peer_address setup w.job stands.at) retires

  pub gives_back_local : (guests : Option (List (List ℕ))) (all : List (List ℕ)) (w later : Worker Door Dialer Time Dice) (old new : Gathering H)
      → StandsAt G door.Local guests w → guests ≡ Some all → MadeTurns G setup.keep w later → Retires M G K setup later old new
      → GivesBack door.Local setup.local.now all w later old new
  gives_back_local guests all w later old new stands are made retires =
      gives_back door.Local setup.local.now guests all w later old new stands are made (local_address setup w.job stands.at) retires

  -- the guests of that address and of others
  pub left_there : (kind : DoorKind) (address : List ℕ) (all xs : List (List ℕ)) (w later : Worker Door Dialer Time Dice) (old new : Gathering H)
      → (gives : GivesBack kind address all w later old new) → M.guests old.host address ≡ Some xs → M.guests new.host address ≡ Some (xs ++ gives.took.left)
  left_there kind address all xs w later old new gives were =
      gives.link.guests address ∙ gives.settles.left ∙ ap (λ told. and_all told (G.guests gives.to)) were ∙ ap (λ told. and_all (Some xs) told) gives.took.are

  pub left_elsewhere : (kind : DoorKind) (address : List ℕ) (all : List (List ℕ)) (w later : Worker Door Dialer Time Dice) (old new : Gathering H)
      → GivesBack kind address all w later old new → (a : List ℕ) → a ≢ address → M.guests new.host a ≡ M.guests old.host a
  left_elsewhere kind address all w later old new gives a other = gives.link.guests a ∙ gives.settles.guests a other

  -- a worker without guests of its own leaves none
  no_more : (xs : List (List ℕ)) (taken left : List (List ℕ)) → [] ≡ taken ++ left → xs ++ left ≡ xs
  no_more xs [] [] none = append-nil xs
  no_more xs [] (l ∷ left) none = absurd cc
  no_more xs (t ∷ taken) left none = absurd cc

  no_door : (address : List ℕ) (door : Option Door) (old new : H) → door ≡ None → SettlesDoorIf M G K address door old new → new ≡ old
  no_door address None old new none same = same
  no_door address (Some door) old new none settles = absurd cc

  aside_keeps : (peers : List (List ℕ)) (w later : Worker Door Dialer Time Dice) (old new : Gathering H) (a : List ℕ) (xs : List (List ℕ))
      → (a ≡ setup.peer.now) ⊎ (a ≢ setup.peer.now) → IsAside G (Some peers) w → MadeTurns G setup.keep w later → Retires M G K setup later old new
      → M.guests old.host a ≡ Some xs → M.guests new.host a ≡ Some xs
  aside_keeps peers w later old new a xs which (inl (away, none)) made retires were =
      let same = no_door (address_of setup later.job) later.door old.host retires.middle (made.kept.1 away ∙ none) retires.door in
      retires.link.guests a ∙ ap (λ (h : H). M.guests h a) same ∙ were
  aside_keeps peers w later old new a xs (inl is) (inr stands) made retires were =
      let gives = gives_back_peer (Some []) [] w later old new stands refl made retires in
      let there : M.guests old.host setup.peer.now ≡ Some xs = ap (M.guests old.host) (sym is) ∙ were in
      ap (M.guests new.host) is ∙ left_there door.Peer setup.peer.now [] xs w later old new gives there
      ∙ ap Some (no_more xs gives.took.taken gives.took.left gives.took.were)
  aside_keeps peers w later old new a xs (inr other) (inr stands) made retires were =
      let gives = gives_back_peer (Some []) [] w later old new stands refl made retires in
      left_elsewhere door.Peer setup.peer.now [] w later old new gives a other ∙ were

  pub all_aside_keep : (peers : List (List ℕ)) (ws laters : List (Worker Door Dialer Time Dice)) (old new : Gathering H) (a : List ℕ) (xs : List (List ℕ))
      → (a ≡ setup.peer.now) ⊎ (a ≢ setup.peer.now) → All (IsAside G (Some peers)) ws → AllMadeTurns G setup.keep ws laters → AllRetire M G K setup laters old new
      → M.guests old.host a ≡ Some xs → M.guests new.host a ≡ Some xs
  all_aside_keep peers [] [] old new a xs which aside made same were = ap (λ (g : Gathering H). M.guests g.host a) same ∙ were
  all_aside_keep peers [] (l ∷ ls) old new a xs which aside made all were = absurd made
  all_aside_keep peers (w ∷ ws) [] old new a xs which aside made all were = absurd made
  all_aside_keep peers (w ∷ ws) (l ∷ ls) old new a xs which aside made (middle, first, last) were =
      aside_keeps peers w l middle new a xs which (All-head (IsAside G (Some peers)) w ws aside) made.0 last
      (all_aside_keep peers ws ls old middle a xs which (All-tail (IsAside G (Some peers)) w ws aside) made.1 first were)
