-- Workers that are hired one after another.
use Rattle.std.proofs.Common.{◌≡◌, ◌+◌, ◌-◌, ℕ, zero, suc, List, [], ◌∷◌, ◌++◌, Option, Some, None, All, length, replicate, refl, sym, ap, subst, ◌∙◌, inl, inr, arith, append_assoc, length-append}
use Rattle.std.proofs.lemmas.List.Elements.{All-append, All-cons, All-nil}
use Rattle.as4_doors.specs.declared.door.DoorKind.TheVariants as door
use Rattle.as4_host.specs.Lists.{none_of}
use Rattle.as4_host.specs.declared.door.Door.{Ghosts as DoorMeaning}
use Rattle.handler.specs.Crews.{HiresAside, IsAside, IsCrew, IsHired, IsNew, Splits, StandsAt, jobs_in, jobs_of, pulls_by}
use Rattle.office.specs.declared.call.Call.{Call}
use Rattle.pass_book.specs.States.{PassState}
use Rattle.workers.specs.Bounds.{door_of}
use Rattle.workers.specs.declared.job.Job.{Job}
use Rattle.workers.specs.declared.job.Job.TheVariants as job
use Rattle.workers.specs.declared.job.Worker.{Worker}

pub splits_then : (m n : ℕ) (old middle new : PassState Call) → Splits m old middle → Splits n middle new → Splits (m + n) old new
splits_then m n old middle new first last = (
  last.0 ∙ ap (λ (p : PassState Call). record p { stake = new.stake }) first.0,
  omega (arith, first.1, last.1),
)

pub splits_none : (pass : PassState Call) → Splits 0 pass pass
splits_none pass = (refl, omega arith)

pub pulls_length : (pulls : List (List ℕ)) → length (pulls_by pulls) ≡ length pulls
pulls_length [] = refl
pulls_length (p ∷ pulls) = ap suc (pulls_length pulls)

pub pulls_more : (pulls more : List (List ℕ)) → pulls_by (pulls ++ more) ≡ pulls_by pulls ++ pulls_by more
pulls_more [] more = refl
pulls_more (p ∷ pulls) more = ap (λ l. job.Pull p ∷ l) (pulls_more pulls more)

pub replicate_more : (n : ℕ) (j : Job) → replicate (n + 1) j ≡ replicate n j ++ j ∷ []
replicate_more zero j = refl
replicate_more (suc n) j = let next : suc n + 1 ≡ suc (n + 1) = omega arith in ap (λ m. replicate m j) next ∙ ap (λ l. j ∷ l) (replicate_more n j)

pub replicate_length : (n : ℕ) (j : Job) → length (replicate n j) ≡ n
replicate_length zero j = refl
replicate_length (suc n) j = ap suc (replicate_length n j)

module _ {W L C N : Type 0} where
  pub jobs_append : (xs ys : List (Worker W L C N)) → jobs_in (xs ++ ys) ≡ jobs_in xs ++ jobs_in ys
  jobs_append [] ys = refl
  jobs_append (x ∷ xs) ys = ap (λ l. x.job ∷ l) (jobs_append xs ys)

  jobs_length : (xs : List (Worker W L C N)) → length (jobs_in xs) ≡ length xs
  jobs_length [] = refl
  jobs_length (x ∷ xs) = ap suc (jobs_length xs)

  module _ {In Out : Type 0} (G : DoorMeaning W In Out) where
    pub hires_none : (turns : ℕ) (peers : Option (List (List ℕ))) (pass : PassState Call) → HiresAside {W = W} {L = L} {C = C} {N = N} G turns peers pass pass [] []
    hires_none turns peers pass = record {
      hired = All-nil (IsHired pass.book turns);
      aside = All-nil (IsAside G peers);
      jobs_are = refl;
      splits = splits_none pass;
    }

    pub hires_then : (turns : ℕ) (peers : Option (List (List ℕ))) (old middle new : PassState Call) (jobs jobs_later : List Job) (more later : List (Worker W L C N))
        → HiresAside G turns peers old middle jobs more → HiresAside G turns peers middle new jobs_later later
        → HiresAside G turns peers old new (jobs ++ jobs_later) (more ++ later)
    hires_then turns peers old middle new jobs jobs_later more later first last =
        let book : middle.book ≡ old.book = ap (λ (p : PassState Call). p.book) first.splits.0 in record {
          hired = All-append (IsHired old.book turns) more later first.hired (subst (λ b. All (IsHired b turns) later) book last.hired);
          aside = All-append (IsAside G peers) more later first.aside last.aside;
          jobs_are = jobs_append more later ∙ ap (λ l. l ++ jobs_in later) first.jobs_are ∙ ap (λ l. jobs ++ l) last.jobs_are;
          splits = subst (λ n. Splits n old new) (sym (length-append more later)) (splits_then (length more) (length later) old middle new first.splits last.splits);
        }

    -- one worker without guests of its own
    pub hires_one : (turns : ℕ) (peers : Option (List (List ℕ))) (old new : PassState Call) (j : Job) (w : Worker W L C N) → IsHired old.book turns w → w.job ≡ j
        → IsAside G peers w → Splits 1 old new → HiresAside G turns peers old new (j ∷ []) (w ∷ [])
    hires_one turns peers old new j w hired is aside splits = record {
      hired = All-cons (IsHired old.book turns) w [] hired (All-nil (IsHired old.book turns));
      aside = All-cons (IsAside G peers) w [] aside (All-nil (IsAside G peers));
      jobs_are = ap (λ x. x ∷ []) is;
      splits = splits;
    }

    pub stands_aside : (peers : Option (List (List ℕ))) (w : Worker W L C N) (d : W) → w.job ≡ job.Peer → w.door ≡ Some d → G.guests d ≡ none_of peers → IsNew G d → IsAside G peers w
    stands_aside peers w d is has guests new = inr (record { at = ap door_of is; door = d; is = has; guests_are = guests; is_new = new })

    pub doorless : (peers : Option (List (List ℕ))) (w : Worker W L C N) (j : Job) → w.job ≡ j → door_of j ≡ None → w.door ≡ None → IsAside G peers w
    doorless peers w j is away none = inl (ap door_of is ∙ away, none)

    -- all of them
    pub all_hired : (turns : ℕ) (peers locals : Option (List (List ℕ))) (old middle with_local new : PassState Call) (jobs : List Job) (others : List (Worker W L C N)) (local peer : Worker W L C N)
        → HiresAside G turns peers old middle jobs others → IsHired middle.book turns local → IsHired with_local.book turns peer
        → Splits 1 middle with_local → Splits 1 with_local new → StandsAt G door.Local locals local → StandsAt G door.Peer peers peer
        → IsCrew G old.book turns peers locals (others ++ local ∷ peer ∷ []) × Splits (length (others ++ local ∷ peer ∷ [])) old new
    all_hired turns peers locals old middle with_local new jobs others local peer first local_is peer_is to_local to_peer at_local at_peer =
        let book : middle.book ≡ old.book = ap (λ (p : PassState Call). p.book) first.splits.0 in
        let later : with_local.book ≡ old.book = ap (λ (p : PassState Call). p.book) to_local.0 ∙ book in
        let P = IsHired old.book turns in (
          record {
            others = others;
            local = local;
            peer = peer;
            are = refl;
            hired = All-append P others (local ∷ peer ∷ []) first.hired
                (All-cons P local (peer ∷ []) (subst (λ b. IsHired b turns local) book local_is) (All-cons P peer [] (subst (λ b. IsHired b turns peer) later peer_is) (All-nil P)));
            aside = first.aside;
            at_local = at_local;
            at_peer = at_peer;
          },
          subst (λ n. Splits n old new) (sym (length-append others (local ∷ peer ∷ [])))
              (splits_then (length others) 2 old middle new first.splits (splits_then 1 1 middle with_local new to_local to_peer)),
        )

    -- there are as many as jobs
    pub as_many : (turns : ℕ) (peers : Option (List (List ℕ))) (old new : PassState Call) (jobs : List Job) (more : List (Worker W L C N))
        → HiresAside G turns peers old new jobs more → length more ≡ length jobs
    as_many turns peers old new jobs more hires = sym (jobs_length more) ∙ ap length hires.jobs_are

-- a list that got four more, two of them before others
pub four_more : {A : Type 0} (xs zs one two three four five six : List A) (a b c d : A) → one ≡ xs → two ≡ one ++ a ∷ [] → three ≡ two ++ b ∷ [] → four ≡ three ++ zs
    → five ≡ four ++ c ∷ [] → six ≡ five ++ d ∷ [] → six ≡ (((xs ++ a ∷ []) ++ b ∷ []) ++ zs) ++ c ∷ d ∷ []
four_more xs zs one two three four five six a b c d is is_a is_b is_zs is_c is_d =
    is_d ∙ ap (λ l. l ++ d ∷ []) (is_c ∙ ap (λ l. l ++ c ∷ []) (is_zs ∙ ap (λ l. l ++ zs) (is_b ∙ ap (λ l. l ++ b ∷ []) (is_a ∙ ap (λ l. l ++ a ∷ []) is))))
    ∙ append_assoc (((xs ++ a ∷ []) ++ b ∷ []) ++ zs) (c ∷ []) (d ∷ [])

-- the jobs of all workers
pub jobs_together : {W L C N : Type 0} (pulls : List (List ℕ)) (shared peers : ℕ) (local peer : Worker W L C N) → local.job ≡ job.Local → peer.job ≡ job.Peer → shared ≡ peers - 1
    → (((pulls_by pulls ++ job.Push ∷ []) ++ job.Tick ∷ []) ++ replicate shared job.Peer) ++ jobs_in (local ∷ peer ∷ []) ≡ jobs_of pulls peers
jobs_together pulls shared peers local peer is_local is_peer is =
    let last : jobs_in (local ∷ peer ∷ []) ≡ job.Local ∷ job.Peer ∷ [] = ap (λ j. j ∷ peer.job ∷ []) is_local ∙ ap (λ j. job.Local ∷ j ∷ []) is_peer in
    let front = pulls_by pulls ++ job.Push ∷ [] in
    ap (λ l. ((front ++ job.Tick ∷ []) ++ replicate shared job.Peer) ++ l) last
    ∙ ap (λ n. ((front ++ job.Tick ∷ []) ++ replicate n job.Peer) ++ job.Local ∷ job.Peer ∷ []) is
    ∙ append_assoc (front ++ job.Tick ∷ []) (replicate (peers - 1) job.Peer) (job.Local ∷ job.Peer ∷ [])
    ∙ append_assoc front (job.Tick ∷ []) (replicate (peers - 1) job.Peer ++ (job.Local ∷ job.Peer ∷ []))
    ∙ append_assoc (pulls_by pulls) (job.Push ∷ []) (job.Tick ∷ (replicate (peers - 1) job.Peer ++ (job.Local ∷ job.Peer ∷ [])))
