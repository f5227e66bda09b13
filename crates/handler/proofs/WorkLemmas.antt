-- What a handler has done with what it opened.
use Rattle.std.proofs.Common.{◌≡◌, ◌≤◌, ℕ, Bool, true, false, List, [], ◌∷◌, ◌++◌, All, length, inl, inr, refl, sym, ap, subst, ◌∙◌, arith}
use Rattle.std.proofs.lemmas.List.Elements.{All-cons, All-head, All-nil, All-tail}
use mathlib.Core.List.{IsPrefix}
use Rattle.as4_disk.specs.declared.disk.Disk.{Ghosts as DiskMeaning}
use Rattle.as4_host.specs.declared.door.Door.{Ghosts as DoorMeaning}
use Rattle.as4_host.specs.declared.host.Host.{Ghosts as HostMeaning}
use Rattle.as4_host.specs.declared.link.Link.{Ghosts as LinkMeaning}
use Rattle.exchange_model.specs.End.{End}
use Rattle.handler.specs.Crews.{AllMadeTurns, IsHired, IsOfBook}
use Rattle.handler.specs.Dismissal.{AllRetire, Gathering}
use Rattle.handler.specs.Endings.{IsUnserved}
use Rattle.handler.specs.Working.{AreOwn, BeginWithFold, RunsOver, end_of}
use Rattle.handler.specs.declared.ending.HandlerEnd.{HandlerEnd}
use Rattle.handler.specs.declared.ending.HandlerEnd.TheVariants.{Served, NoMemory, HostFault, ModesRefused, NotJournal}
use Rattle.handler.specs.declared.running.Ran.{Ran}
use Rattle.handler.specs.declared.running.Ran.TheVariants as ran
use Rattle.handler.specs.declared.setup.Setup.{Setup}
use Rattle.handler.proofs.CrewLemmas.{prefix_then}
use Rattle.office.specs.State.{OfficeState}
use Rattle.office.specs.declared.call.Call.{Call}
use Rattle.pass_book.specs.States.{Book, PassState}
use Rattle.pass_book.proofs.Beginnings.{prefix_self}
use Rattle.workers.specs.Turns.{IsReady}
use Rattle.workers.specs.declared.job.Worker.{Worker}

-- how a handler ends that came so far
pub end_served : (how : Ran) (starved : Bool) → end_of how starved ≡ Served → (how ≡ ran.Served) × (starved ≡ false)
end_served ran.Served false is = (refl, refl)
end_served ran.Served true is = absurd cc
end_served ran.NoMemory starved is = absurd cc
end_served ran.DiskFault starved is = absurd cc

pub end_failed : (how : Ran) (starved : Bool) → end_of how starved ≡ HostFault → how ≡ ran.DiskFault
end_failed ran.Served false is = absurd cc
end_failed ran.Served true is = absurd cc
end_failed ran.NoMemory starved is = absurd cc
end_failed ran.DiskFault starved is = refl

-- how work may end
abbrev pub IsEndOfWork : HandlerEnd → Type 0
IsEndOfWork Served = Unit {0}
IsEndOfWork NoMemory = Unit {0}
IsEndOfWork HostFault = Unit {0}
IsEndOfWork ModesRefused = ⊥
IsEndOfWork (NotJournal at) = ⊥

pub end_is : (how : Ran) (starved : Bool) → IsEndOfWork (end_of how starved)
end_is ran.Served false = tt
end_is ran.Served true = tt
end_is ran.NoMemory starved = tt
end_is ran.DiskFault starved = tt

pub never_unserved : (end : HandlerEnd) → IsEndOfWork end → IsUnserved end → ⊥
never_unserved Served works unserved = unserved
never_unserved NoMemory works unserved = unserved
never_unserved HostFault works unserved = unserved
never_unserved ModesRefused works unserved = works
never_unserved (NotJournal at) works unserved = works

-- a handler makes at most one call by itself
pub own_few : (end : End) (how : Ran) (calls : List Call) → AreOwn end how calls → length calls ≤ 1
own_few end ran.Served calls (inl no_call) = let long : length calls ≡ 0 = ap length no_call in omega (arith, long)
own_few end ran.Served calls (inr (size, folded, shorter, one)) = let long : length calls ≡ 1 = ap length one in omega (arith, long)
own_few end ran.NoMemory calls no_call = let long : length calls ≡ 0 = ap length no_call in omega (arith, long)
own_few end ran.DiskFault calls (halt, one) = let long : length calls ≡ 1 = ap length one in omega (arith, long)

-- calls that go on still begin with a compaction
pub folds_on : (calls more : List Call) → IsPrefix calls more → BeginWithFold calls → BeginWithFold more
folds_on calls more (rest, is) (size, later, begins) = (size, later ++ rest, sym is ∙ ap (λ l. l ++ rest) begins)

module _ {W L C N : Type 0} where
  -- workers that were hired are ready, and have passes of the opening
  pub are_ready : (book : Book) (turns : ℕ) (crew : List (Worker W L C N)) → All (IsHired book turns) crew → All (IsReady book) crew
  are_ready book turns [] hired = All-nil (IsReady book)
  are_ready book turns (w ∷ ws) hired =
      let is = All-head (IsHired book turns) w ws hired in
      All-cons (IsReady book) w ws (record { here = is.here; fresh = is.fresh }) (are_ready book turns ws (All-tail (IsHired book turns) w ws hired))

  pub have_books : (book : Book) (turns : ℕ) (crew : List (Worker W L C N)) → All (IsHired book turns) crew → All (IsOfBook book) crew
  have_books book turns [] hired = All-nil (IsOfBook book)
  have_books book turns (w ∷ ws) hired =
      All-cons (IsOfBook book) w ws (All-head (IsHired book turns) w ws hired).here (have_books book turns ws (All-tail (IsHired book turns) w ws hired))

  module _ {In Out : Type 0} (G : DoorMeaning W In Out) (keep : ℕ) where
    keep_books : (book : Book) (crew done : List (Worker W L C N)) → AllMadeTurns G keep crew done → All (IsOfBook book) crew → All (IsOfBook book) done
    keep_books book [] [] made books = books
    keep_books book [] (d ∷ ds) made books = absurd made
    keep_books book (c ∷ cs) [] made books = absurd made
    keep_books book (c ∷ cs) (d ∷ ds) made books =
        All-cons (IsOfBook book) d ds (made.0.pass.0 ∙ All-head (IsOfBook book) c cs books) (keep_books book cs ds made.1 (All-tail (IsOfBook book) c cs books))

    pub done_books : {D : Type 0} (S : DiskMeaning D) (book : Book) (office later : OfficeState D) (old new : PassState Call) (crew done : List (Worker W L C N)) (how : Ran)
        → RunsOver S G keep office later old new crew done how → All (IsOfBook book) crew → All (IsOfBook book) done
    done_books S book office later old new crew done ran.Served runs books = keep_books book crew done (runs.served refl) books
    done_books S book office later old new crew done ran.NoMemory runs books = subst (All (IsOfBook book)) (sym (runs.early (λ wrong. absurd cc))) books
    done_books S book office later old new crew done ran.DiskFault runs books = subst (All (IsOfBook book)) (sym (runs.early (λ wrong. absurd cc))) books

module _ {H Store Door Dialer Time Dice DoorIn DoorOut DialerIn DialerOut : Type 0} (M : HostMeaning H Store Door Dialer Time Dice DoorIn DoorOut DialerIn DialerOut) (G : DoorMeaning Door DoorIn DoorOut) (K : LinkMeaning Dialer DialerIn DialerOut) (setup : Setup) where
  -- what the pass had seen it still has
  pub retired_prefix : (done : List (Worker Door Dialer Time Dice)) (old new : Gathering H) → AllRetire M G K setup done old new → IsPrefix old.pass.list new.pass.list
  retired_prefix [] old new same = subst (λ (g : Gathering H). IsPrefix old.pass.list g.pass.list) (sym same) (prefix_self old.pass.list)
  retired_prefix (d ∷ ds) old new (middle, first, last) =
      prefix_then old.pass.list middle.pass.list new.pass.list (retired_prefix ds old middle first) last.pass.one
