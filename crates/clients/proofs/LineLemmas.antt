-- The lines of a collection, put together from those of its entries.
use Rattle.std.proofs.Common.{◌≡◌, ◌≢◌, ◌+◌, ◌<◌, ◌≤◌, ◌^◌, ℕ, zero, suc, List, [], ◌++◌, length, Option, Result, Ok, Err, inl, inr, ◌∙◌, refl, sym, ap, subst, arith}
use Rattle.std.specs.Prelude.{⊤, codes, decimal}
use Rattle.std.proofs.Math.Seq.{take-length}
use Rattle.std.proofs.lemmas.Fmt.{decimal_injective}
use Rattle.std.proofs.lemmas.List.{append_cancel_left, append_cancel_right}
use Rattle.as4_flow.specs.Flow.{TakesFront, appended}
use Rattle.as4_flow.specs.declared.sink.Sink.{Ghosts as SinkMeaning}
use Rattle.as4_flow.proofs.FlowLemmas.{appended_append, appended_nil}
use Rattle.as4_host.specs.declared.host.Host.{Ghosts as HostMeaning}
use Rattle.as4_host.specs.declared.link.Link.{Ghosts as LinkMeaning}
use Rattle.clients.specs.Lines.{AreLines, HasOutput, IsKept, IsLine, KeepsOthers, WritesLines}
use Rattle.clients.specs.Runs.{Collects, CollectsOver, Run, Takes, TakesAll, Tells, file_path, line_of, run}
use Rattle.clients.specs.declared.ending.CollectEnd.{CollectEnd}
use Rattle.clients.specs.declared.ending.CollectEnd.TheVariants as collect
use Rattle.clients.specs.declared.ending.Visit.{Visit}
use Rattle.clients.specs.declared.ending.Visit.TheVariants as visit
use Rattle.clients.proofs.HostLemmas.{not_done}
use Rattle.clients.proofs.KeptLemmas.{IsLater, Left, visit_left}
use Rattle.clients.proofs.TellingLemmas.{second_prefix}

-- two entries have two files
path_differs : (folder : List ℕ) (m n : ℕ) → m < 2 ^ 64 → n < 2 ^ 64 → m ≢ n → file_path folder m ≢ file_path folder n
path_differs folder m n small other differ same =
    differ (decimal_injective m n small other
    (append_cancel_left (folder ++ codes "/") (decimal m) (decimal n)
    (append_cancel_right (folder ++ codes "/" ++ decimal m) (folder ++ codes "/" ++ decimal n) (codes ".as4") same)))

-- what was written whole was written, however the call ended
whole_output : (end : CollectEnd) (bytes : List ℕ) (old new : Option (List ℕ)) → new ≡ appended old bytes → HasOutput end bytes old new
whole_output collect.OutputFault bytes old new is = (length bytes, omega arith, is ∙ ap (appended old) (sym (take-length bytes)))
whole_output collect.Done bytes old new is = is
whole_output collect.NoEntry bytes old new is = is
whole_output (collect.Refused status) bytes old new is = is
whole_output collect.BadResponse bytes old new is = is
whole_output collect.LinkFault bytes old new is = is
whole_output collect.WriteFault bytes old new is = is
whole_output collect.ReadFault bytes old new is = is
whole_output collect.FileFault bytes old new is = is
whole_output collect.NoMemory bytes old new is = is

module _ {H Store Door DoorIn DoorOut Dialer DialerIn DialerOut Time Dice : Type 0} (M : HostMeaning H Store Door DoorIn DoorOut Dialer DialerIn DialerOut Time Dice)
    {L In Out : Type 0} (K : LinkMeaning L In Out) (address folder : List ℕ) (answers : Option (List (List ℕ))) where
  -- lines stay true of other files
  pub kept_stays : (n : ℕ) (old new : H) → M.file new (file_path folder n) ≡ M.file old (file_path folder n)
      → IsKept M folder answers n old → IsKept M folder answers n new
  kept_stays n old new same kept = record {
    number = kept.number;
    response = kept.response;
    came = kept.came;
    status = kept.status;
    file = λ held told. kept.file held (sym same ∙ told);
  }

  line_stays : (n : ℕ) (old new : H) (line : List ℕ) → M.file new (file_path folder n) ≡ M.file old (file_path folder n)
      → IsLine M folder answers n old line → IsLine M folder answers n new line
  line_stays n old new line same (inl gone) = inl gone
  line_stays n old new line same (inr (is, kept)) = inr (is, kept_stays n old new same kept)

  lines_stay : (first k : ℕ) (old new : H) (bytes : List ℕ)
      → ((i : ℕ) → i < k → M.file new (file_path folder (first + i)) ≡ M.file old (file_path folder (first + i)))
      → AreLines M folder answers first k old bytes → AreLines M folder answers first k new bytes
  lines_stay first zero old new bytes same none = none
  lines_stay first (suc k) old new bytes same (before, line, lines, last, is) = (
    before,
    line,
    lines_stay first k old new before (λ i below. same i (omega (arith, below))) lines,
    line_stays (first + k) old new line (same k (omega arith)) last,
    is,
  )

  module _ {O : Type 0} (S : SinkMeaning O) where
    pub left_by : (n : ℕ) (old new : Run H L O) (result : Result ⊤ CollectEnd) (t : Takes M K address folder S n old new result)
        → IsLater answers (K.answers old.link) → Left K answers M address folder n old.host new.host new.link t.end
    left_by n old new result t later = visit_left K answers M address folder n old.host new.host old.link new.link t.end t.visits later

    -- the line of an entry after which the collection goes on
    line_told : (n : ℕ) (end : Visit) (host : H) (old new : O) → (end ≡ visit.Collected → IsKept M folder answers n host)
        → Tells S n end old new (Ok tt) → (line : List ℕ) × IsLine M folder answers n host line × (S.taken new ≡ appended (S.taken old) line)
    line_told n visit.Collected host old new kept tells = (line_of n visit.Collected, inr (refl, kept refl), tells.0)
    line_told n visit.Gone host old new kept tells = (line_of n visit.Gone, inl refl, tells.0)
    line_told n (visit.Ends end) host old new kept tells = absurd cc

    -- the lines so far, and what they rest on
    pub record Lines (first k : ℕ) (old new : Run H L O) : Type 0 where
      pub later : IsLater answers (K.answers new.link)
      pub bytes : List ℕ
      pub lines : AreLines M folder answers first k new.host bytes
      pub output : S.taken new.output ≡ appended (S.taken old.output) bytes
      pub others : KeepsOthers M folder first k old.host new.host

    -- an entry changes no other entry's file
    pub stays_at : (first k : ℕ) → first + suc k ≤ 2 ^ 64 → (old new : Run H L O) (result : Result ⊤ CollectEnd) (t : Takes M K address folder S (first + k) old new result)
        → IsLater answers (K.answers old.link) → (i : ℕ) → i < k
        → M.file new.host (file_path folder (first + i)) ≡ M.file old.host (file_path folder (first + i))
    stays_at first k small old new result t later i below =
        (left_by (first + k) old new result t later).others (file_path folder (first + i))
        (path_differs folder (first + i) (first + k) (omega (arith, small, below)) (omega (arith, small)) (λ same. absurd (omega (arith, same, below))))

    others_then : (first k : ℕ) (old middle new : Run H L O) (result : Result ⊤ CollectEnd) (t : Takes M K address folder S (first + k) middle new result)
        → IsLater answers (K.answers middle.link) → KeepsOthers M folder first k old.host middle.host → KeepsOthers M folder first (suc k) old.host new.host
    others_then first k old middle new result t later before path other =
        (left_by (first + k) middle new result t later).others path (other (first + k) (omega arith) (omega arith))
        ∙ before path (λ n from below. other n from (omega (arith, below)))

    pub all_lines : (first k : ℕ) (old new : Run H L O) → first + k ≤ 2 ^ 64 → TakesAll M K address folder S first k old new
        → IsLater answers (K.answers old.link) → Lines first k old new
    all_lines first zero old new small same later = record {
      later = subst (λ (r : Run H L O). IsLater answers (K.answers r.link)) (sym same) later;
      bytes = [];
      lines = refl;
      output = ap (λ (r : Run H L O). S.taken r.output) same ∙ sym (appended_nil (S.taken old.output));
      others = λ path other. ap (λ (r : Run H L O). M.file r.host path) same;
    }
    all_lines first (suc k) old new small (middle, all, last) later =
        let so_far : Lines first k old middle = all_lines first k old middle (omega (arith, small)) all later in
        let left : Left K answers M address folder (first + k) middle.host new.host new.link last.end = left_by (first + k) middle new (Ok tt) last so_far.later in
        let line = line_told (first + k) last.end new.host middle.output new.output left.kept last.tells in record {
          later = left.later;
          bytes = so_far.bytes ++ line.0;
          lines = (
            so_far.bytes,
            line.0,
            lines_stay first k middle.host new.host so_far.bytes (stays_at first k small middle new (Ok tt) last so_far.later) so_far.lines,
            line.1,
            refl,
          );
          output = line.2 ∙ ap (λ (taken : Option (List ℕ)). appended taken line.0) so_far.output ∙ appended_append (S.taken old.output) so_far.bytes line.0;
          others = others_then first k old middle new (Ok tt) last so_far.later so_far.others;
        }

    -- a line that was begun, and the output failed
    line_failed : (first k count : ℕ) → k < count → (old middle new : Run H L O) (end : CollectEnd) (line : List ℕ)
        → (end ≡ collect.Done → ⊥) → (so_far : Lines first k old middle) → AreLines M folder answers first k new.host so_far.bytes → IsLine M folder answers (first + k) new.host line
        → (end ≡ collect.OutputFault) × TakesFront line (S.taken middle.output) (S.taken new.output)
        → WritesLines M folder answers first count new.host (S.taken old.output) (S.taken new.output) end
    line_failed first k count few old middle new end line never so_far lines is (ended, front) = record {
      entries = suc k;
      few = omega (arith, few);
      all = λ is. absurd (never is);
      bytes = so_far.bytes ++ line;
      lines = (so_far.bytes, line, lines, is, refl);
      output = subst (λ (e : CollectEnd). HasOutput e (so_far.bytes ++ line) (S.taken old.output) (S.taken new.output)) (sym ended)
          (second_prefix so_far.bytes line (S.taken old.output) (S.taken middle.output) (S.taken new.output) so_far.output front);
    }

    last_lines : (first k count : ℕ) → k < count → (old middle new : Run H L O) (end : CollectEnd) (last : Visit)
        → (end ≡ collect.Done → ⊥) → (so_far : Lines first k old middle) → AreLines M folder answers first k new.host so_far.bytes
        → (last ≡ visit.Collected → IsKept M folder answers (first + k) new.host) → Tells S (first + k) last middle.output new.output (Err end)
        → WritesLines M folder answers first count new.host (S.taken old.output) (S.taken new.output) end
    last_lines first k count few old middle new end visit.Collected never so_far lines kept tells =
        line_failed first k count few old middle new end (line_of (first + k) visit.Collected) never so_far lines (inr (refl, kept refl)) (tells.0, tells.1)
    last_lines first k count few old middle new end visit.Gone never so_far lines kept tells =
        line_failed first k count few old middle new end (line_of (first + k) visit.Gone) never so_far lines (inl refl) (tells.0, tells.1)
    last_lines first k count few old middle new end (visit.Ends other) never so_far lines kept tells = record {
      entries = k;
      few = omega (arith, few);
      all = λ is. absurd (never is);
      bytes = so_far.bytes;
      lines = lines;
      output = whole_output end so_far.bytes (S.taken old.output) (S.taken new.output) (ap (λ o. S.taken o) tells.1 ∙ so_far.output);
    }

    -- what a collection over a link leaves
    pub record Leaves (first count : ℕ) (old new : Run H L O) (end : CollectEnd) : Type 0 where
      pub lines : WritesLines M folder answers first count new.host (S.taken old.output) (S.taken new.output) end
      pub others : KeepsOthers M folder first count old.host new.host

    fewer_others : (first k count : ℕ) (old new : H) → k ≤ count → KeepsOthers M folder first k old new → KeepsOthers M folder first count old new
    fewer_others first k count old new few keeps path other = keeps path (λ n from below. other n from (omega (arith, few, below)))

    pub collect_lines : (first count : ℕ) (old new : Run H L O) (end : CollectEnd) → first + count ≤ 2 ^ 64
        → CollectsOver M K address folder S first count old new end → IsLater answers (K.answers old.link) → Leaves first count old new end
    collect_lines first count old new end small (inl (is, all)) later =
        let lines : Lines first count old new = all_lines first count old new small all later in record {
          lines = record {
            entries = count;
            few = omega arith;
            all = λ is. refl;
            bytes = lines.bytes;
            lines = lines.lines;
            output = whole_output end lines.bytes (S.taken old.output) (S.taken new.output) lines.output;
          };
          others = lines.others;
        }
    collect_lines first count old new end small (inr (k, middle, few, all, last)) later =
        let so_far : Lines first k old middle = all_lines first k old middle (omega (arith, small, few)) all later in
        let left : Left K answers M address folder (first + k) middle.host new.host new.link last.end = left_by (first + k) middle new (Err end) last so_far.later in record {
          lines = last_lines first k count few old middle new end last.end (not_done M K address folder S (first + k) middle new end last) so_far
              (lines_stay first k middle.host new.host so_far.bytes (stays_at first k (omega (arith, small, few)) middle new (Err end) last so_far.later) so_far.lines)
              left.kept last.tells;
          others = fewer_others first (suc k) count old.host new.host (omega (arith, few)) (others_then first k old middle new (Err end) last so_far.later so_far.others);
        }

    -- what a collection leaves, once its link is settled
    pub record LeavesAll (first count : ℕ) (old new : H) (before after : O) (end : CollectEnd) : Type 0 where
      pub lines : WritesLines M folder answers first count new (S.taken before) (S.taken after) end
      pub others : KeepsOthers M folder first count old new

    pub collect_leaves : (first count : ℕ) (old new : H) (before after : O) (end : CollectEnd) → first + count ≤ 2 ^ 64 → answers ≡ M.answers old
        → Collects M K S address folder first count old new before after end → LeavesAll first count old new before after end
    collect_leaves first count old new before after end small same c =
        let leaves : Leaves first count (run c.middle c.link before) (run c.last c.later after) end =
        collect_lines first count (run c.middle c.link before) (run c.last c.later after) end small c.collects (0, c.dials.answers ∙ sym same) in record {
          lines = record {
            entries = leaves.lines.entries;
            few = leaves.lines.few;
            all = leaves.lines.all;
            bytes = leaves.lines.bytes;
            lines = lines_stay first leaves.lines.entries c.last new leaves.lines.bytes (λ i below. c.settles.files (file_path folder (first + i))) leaves.lines.lines;
            output = leaves.lines.output;
          };
          others = λ path other. c.settles.files path ∙ leaves.others path other ∙ c.dials.files path;
        }
