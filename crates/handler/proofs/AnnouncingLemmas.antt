-- The line that a handler writes.
use Rattle.std.proofs.Common.{◌≡◌, ◌≢◌, ◌+◌, ◌-◌, ℕ, Bool, List, [], ◌∷◌, Option, Some, None, cond, length, refl, sym, ap, subst, ◌∙◌, arith, append-nil}
use Rattle.std.proofs.lemmas.List.Sums.{sum_by-cons}
use Rattle.std.specs.List.{count_by}
use Rattle.as4_disk.specs.declared.disk.Disk.{Ghosts as DiskMeaning}
use Rattle.as4_effects.specs.declared.mark.Mark.{Mark}
use Rattle.as4_effects.specs.declared.mark.Mark.TheVariants as mark
use Rattle.as4_flow.specs.Flow.{TakesFront}
use Rattle.exchange_model.specs.End.{End, empty_end}
use Rattle.exchange_model.specs.Questions.{is_failed_mark, is_pending, is_pending_mark, is_receipted_mark, is_refused_mark}
use Rattle.exchange_model.specs.declared.sent.Sent.{Sent}
use Rattle.handler.specs.Announcing.{Announces, counts_of, head_of, line_of, numbers_of}
use Rattle.handler.specs.declared.running.Ran.{Ran}
use Rattle.handler.specs.declared.running.Ran.TheVariants as ran
use Rattle.handler.specs.declared.setup.Setup.{Setup}
use Rattle.office.specs.State.{OfficeState}
use Rattle.office.specs.declared.call.Call.{Call}

-- nothing is a prefix of any line
pub takes_none : (line : List ℕ) (told : Option (List ℕ)) → TakesFront line told told
takes_none line None = (0, omega arith, refl)
takes_none line (Some all) = (0, omega arith, ap Some (sym (append-nil all)))

pub no_line : (setup : Setup) (told later : Option (List ℕ)) → later ≡ told → (end : End) × TakesFront (line_of setup end) told later
no_line setup told later same = (empty_end, subst (TakesFront (line_of setup empty_end) told) (sym same) (takes_none (line_of setup empty_end) told))

-- each submission is pending, or was settled in one way
abbrev one_if : Bool → ℕ
one_if b = cond b 1 0

one_mark : (m : Mark) → one_if (is_pending_mark m) + (one_if (is_receipted_mark m) + one_if (is_failed_mark m) + one_if (is_refused_mark m)) ≡ 1
one_mark mark.Pending = refl
one_mark mark.Receipted = refl
one_mark mark.Failed = refl
one_mark (mark.Refused code) = refl

count_step : (p : Sent → Bool) (s : Sent) (sent : List Sent) → count_by p (s ∷ sent) ≡ one_if (p s) + count_by p sent
count_step p s sent = sum_by-cons (λ (x : Sent). one_if (p x)) s sent

abbrev receipted_in : List Sent → ℕ
receipted_in sent = count_by (λ (s : Sent). is_receipted_mark s.mark) sent

abbrev failed_in : List Sent → ℕ
failed_in sent = count_by (λ (s : Sent). is_failed_mark s.mark) sent

abbrev refused_in : List Sent → ℕ
refused_in sent = count_by (λ (s : Sent). is_refused_mark s.mark) sent

pending_counts : (sent : List Sent) → count_by is_pending sent + (receipted_in sent + failed_in sent + refused_in sent) ≡ length sent
pending_counts [] = refl
pending_counts (s ∷ sent) =
    let rest = pending_counts sent in
    let one = one_mark s.mark in
    let pending = count_step is_pending s sent in
    let receipted = count_step (λ (x : Sent). is_receipted_mark x.mark) s sent in
    let failed = count_step (λ (x : Sent). is_failed_mark x.mark) s sent in
    let refused = count_step (λ (x : Sent). is_refused_mark x.mark) s sent in
    omega (arith, rest, one, pending, receipted, failed, refused)

pending_is : (sent : List Sent) (submitted receipted failed refused : ℕ) → submitted ≡ length sent → receipted ≡ receipted_in sent → failed ≡ failed_in sent
    → refused ≡ refused_in sent → submitted - (receipted + failed + refused) ≡ count_by is_pending sent
pending_is sent submitted receipted failed refused a b c d = let all = pending_counts sent in omega (arith, all, a, b, c, d)

-- the numbers that are written are those of the endpoint
pub counts_are : (end : End) (size submitted receipted failed refused received : ℕ) → size ≡ end.size → submitted ≡ length end.sent → receipted ≡ receipted_in end.sent
    → failed ≡ failed_in end.sent → refused ≡ refused_in end.sent → received ≡ length end.inbox
    → numbers_of size (submitted - (receipted + failed + refused)) received ≡ counts_of end
counts_are end size submitted receipted failed refused received sized a b c d e =
    ap (λ n. numbers_of n (submitted - (receipted + failed + refused)) received) sized
    ∙ ap (λ n. numbers_of end.size n received) (pending_is end.sent submitted receipted failed refused a b c d)
    ∙ ap (λ n. numbers_of end.size (count_by is_pending end.sent) n) e

-- what was written by how far a handler came
pub line_by : {D : Type 0} (S : DiskMeaning D) (setup : Setup) (how : Ran) (office : OfficeState D) (calls : List Call) (told later : Option (List ℕ))
    → (how ≡ ran.Served → Announces S office calls (head_of setup) told later) → (how ≢ ran.Served → later ≡ told)
    → (here : End) × TakesFront (line_of setup here) told later
line_by S setup ran.Served office calls told later line silent = let wrote = line refl in (wrote.0, wrote.2)
line_by S setup ran.NoMemory office calls told later line silent = no_line setup told later (silent (λ wrong. absurd cc))
line_by S setup ran.DiskFault office calls told later line silent = no_line setup told later (silent (λ wrong. absurd cc))
