-- Runs of calls on a host.
use Rattle.std.proofs.Common.{◌≡◌, ℕ, List, [], ◌++◌, Option, Some, None, Contains, All, refl, sym, ap, subst, ◌∙◌, arith, append-nil, append_assoc, get_or}
use Rattle.std.proofs.lemmas.List.{get_or_default}
use Rattle.std.proofs.lemmas.List.Elements.{All-append, All-nil, Contains-append_left, Contains-append_right}
use Rattle.as4_host.specs.Lists.{and_all}
use Rattle.as4_host.specs.declared.host.Host.{Ghosts as HostMeaning}
use Rattle.handler.specs.Hosts.{Asks, CountsOn, IsStill, Knows, Touches, words_of}
use Rattle.handler.specs.declared.setup.Setup.{Setup}

and_none : (told : Option (List (List ℕ))) → and_all told (Some []) ≡ told
and_none None = refl
and_none (Some all) = ap Some (append-nil all)

and_then : (told : Option (List (List ℕ))) (more next : List (List ℕ)) → and_all (and_all told (Some more)) (Some next) ≡ and_all told (Some (more ++ next))
and_then None more next = refl
and_then (Some all) more next = ap Some (append_assoc all more next)

all_within : {X : Type 0} (P Q : X → Type 0) (xs : List X) → ((x : X) → P x → Q x) → All P xs → All Q xs
all_within P Q xs within all k d lt = within (get_or xs k d) (all k d lt)

known_more : (words : List (List ℕ)) (told : Option (List (List ℕ))) (more later : List (List ℕ)) → and_all told (Some more) ≡ Some later
    → ((all : List (List ℕ)) → told ≡ Some all → All (Contains all) words) → All (Contains later) words
known_more words None more later is known = absurd cc
known_more words (Some all) more later is known =
    let same : all ++ more ≡ later = cc in
    all_within (Contains all) (Contains later) words (λ n has. subst (λ l. Contains l n) same (Contains-append_left all more n has)) (known all refl)

known_asked : (told : Option (List (List ℕ))) (more later : List (List ℕ)) → and_all told (Some more) ≡ Some later → All (Contains later) more
known_asked None more later is = absurd cc
known_asked (Some all) more later is =
    let same : all ++ more ≡ later = cc in
    λ k d lt. subst (λ l. Contains l (get_or more k d)) same (Contains-append_right all more (get_or more k d) (k, lt, get_or_default more k (get_or more k d) d lt))

module _ {H Store Door Dialer Time Dice DoorIn DoorOut DialerIn DialerOut : Type 0} (M : HostMeaning H Store Door Dialer Time Dice DoorIn DoorOut DialerIn DialerOut) where
  pub asks_none : (words : List (List ℕ)) (old new : H) → M.names new ≡ M.names old → Asks M words old new
  asks_none words old new same = record { more = []; are = same ∙ sym (and_none (M.names old)); each = All-nil (Contains words) }

  pub asks_then : (words : List (List ℕ)) (old middle new : H) → Asks M words old middle → Asks M words middle new → Asks M words old new
  asks_then words old middle new first last = record {
    more = first.more ++ last.more;
    are = last.are ∙ ap (λ told. and_all told (Some last.more)) first.are ∙ and_then (M.names old) first.more last.more;
    each = All-append (Contains words) first.more last.more first.each last.each;
  }

  pub asks_within : (few many : List (List ℕ)) (old new : H) → ((n : List ℕ) → Contains few n → Contains many n) → Asks M few old new → Asks M many old new
  asks_within few many old new within asks = record {
    more = asks.more;
    are = asks.are;
    each = all_within (Contains few) (Contains many) asks.more within asks.each;
  }

  -- a name that was asked for stays so
  pub knows_on : (known words : List (List ℕ)) (old new : H) → Asks M words old new → Knows M known old → Knows M known new
  knows_on known words old new asks knows later is = known_more known (M.names old) asks.more later (sym asks.are ∙ is) knows

  pub knows_asked : (words : List (List ℕ)) (old new : H) → M.names new ≡ and_all (M.names old) (Some words) → Knows M words new
  knows_asked words old new are later is = known_asked (M.names old) words later (sym are ∙ is)

  pub knows_same : (words : List (List ℕ)) (old new : H) → M.names new ≡ M.names old → Knows M words old → Knows M words new
  knows_same words old new same knows later is = knows later (sym same ∙ is)

  pub counts_then : (old middle new : H) → CountsOn M old middle → CountsOn M middle new → CountsOn M old new
  counts_then old middle new first last = record {
    faults = omega (arith, first.faults, last.faults);
    reads = omega (arith, first.reads, last.reads);
    writes = omega (arith, first.writes, last.writes);
  }

  pub counts_same : (old new : H) → M.fault_count new ≡ M.fault_count old → M.reads new ≡ M.reads old → M.writes new ≡ M.writes old → CountsOn M old new
  counts_same old new faults reads writes = record { faults = omega (arith, faults); reads = omega (arith, reads); writes = omega (arith, writes) }

  module _ (setup : Setup) where
    pub touches_then : (old middle new : H) → Touches M setup old middle → Touches M setup middle new → Touches M setup old new
    touches_then old middle new first last = record {
      asks = asks_then (words_of setup) old middle new first.asks last.asks;
      counts = counts_then old middle new first.counts last.counts;
      files = λ p away. last.files p away ∙ first.files p away;
      guests = λ a not_peer not_local. last.guests a not_peer not_local ∙ first.guests a not_peer not_local;
    }

    pub touches_none : (old new : H) → new ≡ old → Touches M setup old new
    touches_none old new same = record {
      asks = asks_none (words_of setup) old new (ap M.names same);
      counts = counts_same old new (ap M.fault_count same) (ap M.reads same) (ap M.writes same);
      files = λ p away. ap (λ (h : H). M.file h p) same;
      guests = λ a not_peer not_local. ap (λ (h : H). M.guests h a) same;
    }

    pub still_touches : (old new : H) → IsStill M old new → Touches M setup old new
    still_touches old new still = record {
      asks = asks_none (words_of setup) old new still.names;
      counts = counts_same old new still.faults still.reads still.writes;
      files = λ p away. still.files p;
      guests = λ a not_peer not_local. still.guests a;
    }

  pub still_none : (host : H) → IsStill M host host
  still_none host = record { files = λ p. refl; guests = λ a. refl; names = refl; faults = refl; reads = refl; writes = refl }

  pub still_then : (old middle new : H) → IsStill M old middle → IsStill M middle new → IsStill M old new
  still_then old middle new first last = record {
    files = λ p. last.files p ∙ first.files p;
    guests = λ a. last.guests a ∙ first.guests a;
    names = last.names ∙ first.names;
    faults = last.faults ∙ first.faults;
    reads = last.reads ∙ first.reads;
    writes = last.writes ∙ first.writes;
  }
