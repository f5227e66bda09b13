-- What a handler has done that served.
use Rattle.std.proofs.Common.{◌≡◌, ◌≢◌, ◌*◌, ◌≤◌, ◌<◌, ◌^◌, ℕ, Bool, true, false, List, [], ◌∷◌, ◌++◌, Option, Some, None, IfSome, All, length, min, is_some, refl, sym, ap, subst, ◌∙◌, inl, inr, arith, length-append, mul-le-mul_right}
use Rattle.std.proofs.lemmas.List.{get_or_append_left}
use Rattle.std.proofs.lemmas.List.Elements.{All-contains, Contains-append_right}
use mathlib.Core.List.{IsPrefix}
use Rattle.as4_disk.specs.Image.{Image}
use Rattle.as4_disk.specs.declared.disk.Disk.{Ghosts as DiskMeaning}
use Rattle.as4_disk.specs.declared.fault_counts.FaultCounts.{FaultCounts}
use Rattle.as4_doors.specs.declared.door.DoorKind.{DoorKind}
use Rattle.as4_doors.specs.declared.door.DoorKind.TheVariants as door
use Rattle.as4_flow.specs.Flow.{Rose, Told}
use Rattle.as4_host.specs.Counts.{HasNotRisen}
use Rattle.as4_host.specs.Lists.{none_of}
use Rattle.as4_host.specs.declared.door.Door.{Ghosts as DoorMeaning}
use Rattle.as4_host.specs.declared.host.Host.{Ghosts as HostMeaning}
use Rattle.as4_host.specs.declared.link.Link.{Ghosts as LinkMeaning}
use Rattle.as4_disk.specs.declared.part.Part.{Part}
use Rattle.as4_flow.specs.declared.clock.Clock.{Ghosts as ClockMeaning}
use Rattle.as4_flow.specs.declared.nonces.Nonces.{Ghosts as NoncesMeaning}
use Rattle.as4_host.specs.Files.{bytes_in}
use Rattle.office.specs.State.{OfficeState}
use Rattle.handler.specs.Crews.{AllMadeTurns, IsAside, IsHired, MadeTurns}
use Rattle.handler.specs.Dismissal.{AllRetire, Gathering, Retires, gathering}
use Rattle.handler.specs.Handling.{Serves}
use Rattle.handler.specs.Hosts.{CountsOn, file_of}
use Rattle.handler.specs.Served.{Delivers, IsQuiet, TakesGuests}
use Rattle.handler.specs.Stores.{Stores}
use Rattle.handler.specs.Working.{Works}
use Rattle.handler.specs.declared.ending.HandlerEnd.TheVariants.{Served}
use Rattle.handler.specs.declared.setup.Setup.{Setup}
use Rattle.handler.proofs.CrewLemmas.{GivesBack, gives_back_local, gives_back_peer, left_elsewhere, left_there, made_pair, made_parts, never_failed, prefix_then, sums, all_aside_keep}
use Rattle.handler.proofs.DeliveryLemmas.{Laws, all_delivered, all_entered_on, left_at}
use Rattle.handler.proofs.HostLemmas.{counts_then}
use Rattle.handler.proofs.DismissalLemmas.{all_retire_split, all_retire_touches, retires_touches}
use Rattle.handler.proofs.StoreLemmas.{reads_stored, settled_bytes, still_seen}
use Rattle.handler.proofs.WorkLemmas.{end_served, own_few}
use Rattle.office.specs.Calls.{LeadsWhere, stop_of}
use Rattle.office.specs.Left.{IsLeft}
use Rattle.office.specs.declared.call.Call.{Call}
use Rattle.workers.specs.Bounds.{IsQuiet as Quiet}
use Rattle.workers.specs.declared.job.Worker.{Worker}

-- no fault of the disk was among the calls, if the disk has not failed
never_stopped : (faults : ℕ) (stop : Option FaultCounts) → faults ≡ 0 → IfSome stop (λ halt. Rose halt.before halt.after × (halt.after ≤ faults)) → stop ≡ None
never_stopped faults None none at = refl
never_stopped faults (Some halt) none at = absurd (omega (arith, none, at.0, at.1))

shorter : {A : Type 0} (xs ys : List A) → IsPrefix xs ys → length xs ≤ length ys
shorter xs ys (rest, is) = let long : length (xs ++ rest) ≡ length ys = ap length is in omega (arith, long, length-append xs rest)

-- of the first ones it holds too
all_front : {A : Type 0} (P : A → Type 0) (xs ys : List A) → All P (xs ++ ys) → All P xs
all_front P xs ys all k d lt =
    subst P (get_or_append_left xs ys d k lt) (all k d (let long = length-append xs ys in omega (arith, long, lt)))

zero_quiet : (count later : ℕ) → count ≡ 0 → later ≡ 0 → HasNotRisen count later
zero_quiet count later none still = omega (arith, none, still)

module _ {H Store Door Dialer Time Dice DoorIn DoorOut DialerIn DialerOut : Type 0} (M : HostMeaning H Store Door Dialer Time Dice DoorIn DoorOut DialerIn DialerOut) (G : DoorMeaning Door DoorIn DoorOut) (K : LinkMeaning Dialer DialerIn DialerOut) (S : DiskMeaning Store) (T : ClockMeaning Time) (R : NoncesMeaning Dice) (setup : Setup) (told later : Option (List ℕ)) where
  -- one door's guests were served
  served_at : (kind : DoorKind) (address : List ℕ) (all : List (List ℕ)) (w later : Worker Door Dialer Time Dice) (start before after : Gathering H) (old new : H) (calls : List Call)
      → (gives : GivesBack M G K setup kind address all w later before after) → IsQuiet M old new → CountsOn M old before.host → CountsOn M after.host new
      → w.turns ≡ setup.turns → w.starved ≡ 0 → later.starved ≡ 0 → length calls < 2 ^ 63 → IsPrefix later.pass.list calls → M.guests new address ≡ Some gives.took.left
      → TakesGuests kind setup.turns calls all (M.guests new address)
  served_at kind address all w later start before after old new calls gives quiet first last turns fresh starved room within there =
      let counted = gives.link.counted in
      let no_faults = never_failed (M.fault_count old) (M.fault_count before.host) (G.faults gives.to) (M.fault_count gives.middle) (M.fault_count new) quiet.faults first.faults gives.settles.faults (omega (arith, counted.0, last.faults)) in
      let no_reads = never_failed (M.reads old) (M.reads before.host) (G.reads gives.to) (M.reads gives.middle) (M.reads new) quiet.reads first.reads gives.settles.reads (omega (arith, counted.1, last.reads)) in
      let no_writes = never_failed (M.writes old) (M.writes before.host) (G.writes gives.to) (M.writes gives.middle) (M.writes new) quiet.writes first.writes gives.settles.writes (omega (arith, counted.2, last.writes)) in
      let still : Quiet G gives.from gives.to = record {
        faults = zero_quiet (G.faults gives.from) (G.faults gives.to) gives.new_at_first.0 no_faults;
        reads = zero_quiet (G.reads gives.from) (G.reads gives.to) gives.new_at_first.1 no_reads;
        writes = zero_quiet (G.writes gives.from) (G.writes gives.to) gives.new_at_first.2 no_writes;
      } in
      let little : length later.pass.list < 2 ^ 63 = let short = shorter later.pass.list calls within in omega (arith, short, room) in record {
        taken = gives.took.taken;
        left = gives.took.left;
        were = gives.took.were;
        are = there;
        enough = subst (λ t. min t (length all) ≤ length gives.took.taken) turns (let enough = gives.took.enough still in omega (arith, enough, fresh, starved));
        entered = all_entered_on kind later.pass.list calls gives.took.taken within (gives.took.entered still little (starved ∙ sym fresh));
      }

  -- the last steps of giving back, by which the two doors with guests are settled
  record LastTwo (local peer : Worker Door Dialer Time Dice) (done : List (Worker Door Dialer Time Dice)) (others : List (Worker Door Dialer Time Dice)) (start last : Gathering H) : Type 0 where
    one : Worker Door Dialer Time Dice
    two : Worker Door Dialer Time Dice
    rest : List (Worker Door Dialer Time Dice)
    between : Gathering H
    middle : Gathering H
    first : MadeTurns G setup.keep local one
    second : MadeTurns G setup.keep peer two
    firsts : AllMadeTurns G setup.keep others rest
    at_peer : Retires M G K setup two start between
    at_local : Retires M G K setup one between middle
    aside : AllRetire M G K setup rest middle last

  last_two : (local peer : Worker Door Dialer Time Dice) (done others : List (Worker Door Dialer Time Dice)) (start last : Gathering H)
      → AllMadeTurns G setup.keep (others ++ local ∷ peer ∷ []) done → AllRetire M G K setup done start last → LastTwo local peer done others start last
  last_two local peer done others start last made retire =
      let parts = made_parts G setup.keep others (local ∷ peer ∷ []) done made in
      let pair = made_pair G setup.keep local peer parts.last parts.lasts in
      let split = all_retire_split M G K setup parts.first parts.last start last (subst (λ l. AllRetire M G K setup l start last) parts.are retire) in
      let two = subst (λ l. AllRetire M G K setup l start split.0) pair.are split.1 in record {
        one = pair.one;
        two = pair.two;
        rest = parts.first;
        between = two.0;
        middle = split.0;
        first = pair.first;
        second = pair.second;
        firsts = parts.firsts;
        at_peer = subst (λ (g : Gathering H). Retires M G K setup pair.two g two.0) two.1.1 two.1.2;
        at_local = two.2;
        aside = split.2;
      }

  -- the counts up to where the workers begin
  counts_to_start : (old new : H) → (serves : Serves M G K S T R setup told later old new) → CountsOn M old serves.works.works.first
  counts_to_start old new serves =
      let by = serves.works in
      let at_peer = by.opens.at_doors.at_peer in
      let at_local = by.opens.at_doors.at_local in
      let store = by.opens.on_store.store in
      let hires = by.works.hires in record {
        faults = omega (arith, serves.reads.counts.faults, at_peer.faults, at_local.faults, store.faults, hires.faults);
        reads = omega (arith, serves.reads.counts.reads, at_peer.reads, at_local.reads, store.reads, hires.reads);
        writes = omega (arith, serves.reads.counts.writes, at_peer.writes, at_local.writes, store.writes, hires.writes);
      }

  -- the same from where the two workers at the doors are given back
  counts_from_middle : {pulls : List (List ℕ)} {peer local : Door} {office : OfficeState Store} {opened : H} (middle : Gathering H) (new : H)
      (works : Works M G K S T R setup told later pulls peer local office opened new Served) (rest : List (Worker Door Dialer Time Dice))
      → AllRetire M G K setup rest middle works.last → CountsOn M middle.host new
  counts_from_middle middle new works rest aside =
      let counts = (all_retire_touches M G K setup rest middle works.last aside).counts in record {
        faults = omega (arith, counts.faults, works.settles.counted);
        reads = omega (arith, counts.reads, works.settles.reads);
        writes = omega (arith, counts.writes, works.settles.writes);
      }

  -- the files before the store is opened
  read_same : (old : H) {new : H} (serves : Serves M G K S T R setup told later old new) (q : Part)
      → bytes_in (M.file serves.works.opens.middle (file_of setup.journal.now q)) ≡ bytes_in (M.file old (file_of setup.journal.now q))
  read_same old serves q =
      let doors = serves.works.opens.at_doors in
      ap bytes_in (doors.at_local.files (file_of setup.journal.now q) ∙ doors.at_peer.files (file_of setup.journal.now q) ∙ serves.reads.files (file_of setup.journal.now q))

  pub delivers : ((d : Store) → Told (S.seen d) (S.may_leave d)) → (laws : Laws) (old new : H) (peers locals : List (List ℕ)) (before : Image) → Serves M G K S T R setup told later old new → IsQuiet M old new
      → setup.keep ≤ 1000 → setup.turns ≤ 2 ^ 49 → setup.peer.now ≢ setup.local.now → M.guests old setup.peer.now ≡ Some peers → M.guests old setup.local.now ≡ Some locals
      → Stores M setup.journal.now old before → Delivers M setup old new peers locals before
  delivers reads_now laws old new peers locals before serves quiet kept few apart told_peers told_locals stored =
      let P = setup.peer.now in
      let L = setup.local.now in
      let by = serves.works in
      let works = by.works in
      let crew = works.staffed in
      let at_peer = by.opens.at_doors.at_peer in
      let at_local = by.opens.at_doors.at_local in
      let store = by.opens.on_store.store in
      let office = by.opens.on_store.opens in
      let start = gathering works.first works.pass false in
      -- the guests
      let read_peers : M.guests serves.read P ≡ Some peers = serves.reads.guests P ∙ told_peers in
      let read_locals : M.guests by.opens.at_doors.first L ≡ Some locals = at_peer.guests L (λ is. apart (sym is)) ∙ serves.reads.guests L ∙ told_locals in
      let of_peer : G.guests by.peer ≡ Some peers = at_peer.guests_are ∙ read_peers in
      let of_local : G.guests by.local ≡ Some locals = at_local.guests_are ∙ read_locals in
      let none_at_peer : M.guests works.first P ≡ Some [] =
      works.hires.guests P ∙ store.guests P ∙ at_local.guests P apart ∙ at_peer.taken ∙ ap none_of read_peers in
      let none_at_local : M.guests works.first L ≡ Some [] =
      works.hires.guests L ∙ store.guests L ∙ at_local.taken ∙ ap none_of read_locals in
      -- the workers
      let both = end_served works.how works.last.starved (sym works.ends) in
      let made = (works.served both.0).0 in
      let two = last_two crew.local crew.peer works.done crew.others start works.last (subst (λ l. AllMadeTurns G setup.keep l works.done) crew.are made) works.retires in
      let to_peer = gives_back_peer M G K setup (G.guests by.peer) peers crew.peer two.two start two.between crew.at_peer of_peer two.second two.at_peer in
      let to_local = gives_back_local M G K setup (G.guests by.local) locals crew.local two.one two.between two.middle crew.at_local of_local two.first two.at_local in
      let aside = subst (λ told. All (IsAside G told) crew.others) of_peer crew.aside in
      let peer_left : M.guests new P ≡ Some to_peer.took.left =
      works.settles.guests P ∙ all_aside_keep M G K setup peers crew.others two.rest two.middle works.last P to_peer.took.left (inl refl) aside two.firsts two.aside
      (left_elsewhere M G K setup door.Local L locals crew.local two.one two.between two.middle to_local P apart
      ∙ left_there M G K setup door.Peer P peers [] crew.peer two.two start two.between to_peer none_at_peer) in
      let local_left : M.guests new L ≡ Some to_local.took.left =
      works.settles.guests L ∙ all_aside_keep M G K setup peers crew.others two.rest two.middle works.last L to_local.took.left (inr (λ is. apart (sym is))) aside two.firsts two.aside
      (left_there M G K setup door.Local L locals [] crew.local two.one two.between two.middle to_local
      (left_elsewhere M G K setup door.Peer P peers crew.peer two.two start two.between to_peer L (λ is. apart (sym is)) ∙ none_at_local)) in
      -- the sums
      let total = sums M G K setup by.office.book setup.turns works.crew works.done start works.last kept crew.hired made works.retires in
      let hired_others = subst (All (IsHired by.office.book setup.turns)) crew.are crew.hired in
      let rest = sums M G K setup by.office.book setup.turns crew.others two.rest two.middle works.last kept (all_front (IsHired by.office.book setup.turns) crew.others (crew.local ∷ crew.peer ∷ []) hired_others) two.firsts two.aside in
      let local_is = All-contains (IsHired by.office.book setup.turns) (crew.others ++ crew.local ∷ crew.peer ∷ []) crew.local hired_others (Contains-append_right crew.others (crew.local ∷ crew.peer ∷ []) crew.local (0, omega arith, refl)) in
      let peer_is = All-contains (IsHired by.office.book setup.turns) (crew.others ++ crew.local ∷ crew.peer ∷ []) crew.peer hired_others (Contains-append_right crew.others (crew.local ∷ crew.peer ∷ []) crew.peer (1, omega arith, refl)) in
      let product : length works.crew * (setup.turns * 1000) ≤ 16 * (setup.turns * 1000) = mul-le-mul_right (setup.turns * 1000) works.many in
      let own = own_few by.office.end works.how works.pass.list works.own in
      let whole = works.alone (total.stake ∙ works.stakes) in
      let room : length works.calls < 2 ^ 63 = omega (arith, whole, total.share, works.share, own, product, few) in
      -- the counts
      let middle_starved = rest.starved both.1 in
      let local_starved = two.at_local.starved middle_starved in
      let peer_starved = two.at_peer.starved local_starved.0 in
      let to_start = counts_to_start old new serves in
      let after_peer = counts_then M two.between.host two.middle.host new (retires_touches M G K setup two.one two.between two.middle two.at_local).counts (counts_from_middle two.middle new works two.rest two.aside) in
      let before_local = counts_then M old works.first two.between.host to_start (retires_touches M G K setup two.two start two.between two.at_peer).counts in
      -- the store
      let was = reads_stored M S setup.journal.now by.opens.middle by.opened by.opens.on_store.disk before store (λ q. read_same old serves q ∙ stored q) in
      let told : is_some (S.seen by.office.disk) ≡ true = office.tells ∙ ap is_some was in
      let now = still_seen (S.seen works.disk) (works.closed.tells ∙ told) in
      let disk_faults = never_failed (M.fault_count old) (M.fault_count works.last.host) (S.fault_count works.disk) (M.fault_count new) (M.fault_count new) quiet.faults
      (counts_then M old works.first works.last.host to_start (all_retire_touches M G K setup works.done start works.last works.retires).counts).faults works.settles.faults (omega arith) in
      let none = never_stopped (S.fault_count works.disk) (stop_of works.calls) disk_faults works.closed.stopped in
      let leads = subst (λ (b : Bool). LeadsWhere b serves.modes by.office.end works.calls works.close) told
      (subst (λ m. LeadsWhere (is_some (S.seen by.office.disk)) m by.office.end works.calls works.close) office.modes_are works.closed.leads) in
      let left = subst (λ m. IsLeft m works.close works.calls now.0) office.modes_are (works.closed.left now.0 now.1 now.0 (reads_now works.disk now.0 now.1)) in
      let two_within = prefix_then two.two.pass.list two.between.pass.list works.calls two.at_peer.pass.two
      (prefix_then two.between.pass.list two.middle.pass.list works.calls two.at_local.pass.one (prefix_then two.middle.pass.list works.last.pass.list works.calls rest.list works.seen)) in
      let one_within = prefix_then two.one.pass.list two.middle.pass.list works.calls two.at_local.pass.two (prefix_then two.middle.pass.list works.last.pass.list works.calls rest.list works.seen) in
      let peer_served = served_at door.Peer P peers crew.peer two.two start start two.between old new works.calls to_peer quiet to_start after_peer peer_is.turns_are peer_is.fresh peer_starved.1 room two_within peer_left in
      let local_served = served_at door.Local L locals crew.local two.one start two.between two.middle old new works.calls to_local quiet before_local (counts_from_middle two.middle new works two.rest two.aside) local_is.turns_are local_is.fresh local_starved.1 room one_within local_left in record {
        modes = serves.modes;
        modes_are = serves.modes_are;
        start = by.office.end;
        begins = office.begins before was;
        calls = works.calls;
        end = works.close;
        leads = leads;
        compacted = works.compacted both.0 told;
        after = now.0;
        stored = settled_bytes M S setup.journal.now works.last.host new works.disk now.0 works.settles now.1;
        is = left_at serves.modes works.close works.calls now.0 none left;
        at_peer = peer_served;
        at_local = local_served;
        delivered = all_delivered laws serves.modes by.office.end works.close works.calls leads none peer_served.taken peer_served.entered;
      }
