-- Relaying one message after another.
use Rattle.std.proofs.Common.{◌≡◌, ◌≢◌, ◌<◌, ◌+◌, ℕ, suc, Bool, List, [], ◌++◌, Option, Some, None, Result, Ok, Err, OnOk, false, is_some, refl, sym, ap, subst, ◌∙◌, inl, inr, arith}
use Rattle.std.specs.Result.{is_err}
use Rattle.as4_disk.specs.declared.disk.Disk.{Ghosts as DiskMeaning}
use Rattle.as4_flow.specs.Flow.{TakesFront, Told, appended}
use Rattle.as4_flow.specs.declared.clock.Clock.{Ghosts as ClockMeaning}
use Rattle.as4_flow.specs.declared.nonces.Nonces.{Ghosts as NoncesMeaning}
use Rattle.as4_flow.proofs.FlowLemmas.{appended_append, appended_nil, takes_more}
use Rattle.as4_hub.specs.declared.ended.RelayEnd.{RelayEnd}
use Rattle.as4_hub.specs.declared.ended.RelayEnd.TheVariants.{Relayed, Nothing, Gone, NoMode, OutboxFull, TooLarge, Full, DiskFault, Stopped, Worn, NoMemory}
use Rattle.hub_laws.specs.DeliveredThrough.{GoesOn}
use Rattle.hub_laws.proofs.GoingOnLemmas.{goes_on_joined, goes_on_resting}
use Rattle.mode_values.specs.declared.mode.Mode.{Mode}
use Rattle.office.specs.Calls.{LeadsWhere}
use Rattle.office.specs.Steps.{Keeps}
use Rattle.relayer.specs.Ends.{end_of}
use Rattle.relayer.specs.Relaying.{KeepsAll, Moment, Relays, RelaysAll, RelaysMany, line_of}
use Rattle.relayer.specs.declared.ending.RelayerEnd.{RelayerEnd}
use Rattle.relayer.specs.declared.ending.RelayerEnd.TheVariants.{Done, WriteFault}

told_on : {X : Type 0} (first last : Option X) → is_some last ≡ is_some first → (P : Type 0) → Told last (λ _. P) → Told first (λ _. P)
told_on None None same P told = λ v is. absurd cc
told_on None (Some x) same P told = λ v is. absurd cc
told_on (Some x) None same P told = absurd cc
told_on (Some x) (Some y) same P told = λ v is. told y refl

module _ {D C N : Type 0} (M : DiskMeaning D) where
  pub keeps_none : (now : Moment D C N) → KeepsAll M now now
  keeps_none now = record { modes = refl; book = refl; pass_book = refl; tells = refl; legal = λ start leads. leads }

  pub keeps_more : (old middle new : Moment D C N) → KeepsAll M old middle → Keeps M middle.office new.office middle.pass new.pass → KeepsAll M old new
  keeps_more old middle new first last = record {
    modes = last.modes ∙ first.modes;
    book = last.book ∙ first.book;
    pass_book = last.pass_book ∙ first.pass_book;
    tells = last.tells ∙ first.tells;
    legal = λ start leads.
        subst (λ (b : Bool). LeadsWhere b old.office.modes start new.office.list new.office.end) first.tells
        (subst (λ (m : List Mode). LeadsWhere (is_some (M.seen middle.office.disk)) m start new.office.list new.office.end) first.modes
        (last.legal start
        (subst (λ (m : List Mode). LeadsWhere (is_some (M.seen middle.office.disk)) m start middle.office.list middle.office.end) (sym first.modes)
        (subst (λ (b : Bool). LeadsWhere b old.office.modes start middle.office.list middle.office.end) (sym first.tells) (first.legal start leads)))));
  }

  pub goes_more : (old middle new : Moment D C N) → KeepsAll M old middle → Told (M.seen old.office.disk) (λ _. GoesOn old.office.end middle.office.end)
      → Told (M.seen middle.office.disk) (λ _. GoesOn middle.office.end new.office.end) → Told (M.seen old.office.disk) (λ _. GoesOn old.office.end new.office.end)
  goes_more old middle new keeps first last v is =
      goes_on_joined old.office.end middle.office.end new.office.end (first v is)
      (told_on (M.seen old.office.disk) (M.seen middle.office.disk) keeps.tells (GoesOn middle.office.end new.office.end) last v is)

  module _ (T : ClockMeaning C) (R : NoncesMeaning N) (mode : List ℕ) where
    -- this number of messages was relayed, and their lines written
    pub record SoFar (n : ℕ) (old new : Moment D C N) (taken later : Option (List ℕ)) : Type 0 where
      pub keeps : KeepsAll M old new
      pub goes : Told (M.seen old.office.disk) (λ _. GoesOn old.office.end new.office.end)
      pub text : List ℕ
      pub many : RelaysMany M T R mode n old new text
      pub sent : later ≡ appended taken text

    pub so_far_none : (now : Moment D C N) (taken : Option (List ℕ)) → SoFar 0 now now taken taken
    so_far_none now taken = record {
      keeps = keeps_none now;
      goes = λ v is. goes_on_resting now.office.end;
      text = [];
      many = (refl, refl);
      sent = sym (appended_nil taken);
    }

    pub so_far_more : (n number : ℕ) (id : List ℕ) (old middle new : Moment D C N) (taken mid later : Option (List ℕ)) → SoFar n old middle taken mid
        → Relays M T R mode middle new (Relayed number id) → Keeps M middle.office new.office middle.pass new.pass
        → Told (M.seen middle.office.disk) (λ _. GoesOn middle.office.end new.office.end) → later ≡ appended mid (line_of number id)
        → SoFar (suc n) old new taken later
    so_far_more n number id old middle new taken mid later so_far relays keeps goes line = record {
      keeps = keeps_more old middle new so_far.keeps keeps;
      goes = goes_more old middle new so_far.keeps so_far.goes goes;
      text = so_far.text ++ line_of number id;
      many = (middle, so_far.text, line_of number id, so_far.many, record { number = number; id = id; relays = relays; line_is = refl }, refl);
      sent = line ∙ ap (λ t. appended t (line_of number id)) so_far.sent ∙ appended_append taken so_far.text (line_of number id);
    }

    pub so_far_next : (n number : ℕ) (id : List ℕ) (old middle new : Moment D C N) (taken mid later : Option (List ℕ)) → SoFar n old middle taken mid
        → Relays M T R mode middle new (Relayed number id) → Keeps M middle.office new.office middle.pass new.pass
        → Told (M.seen middle.office.disk) (λ _. GoesOn middle.office.end new.office.end) → later ≡ appended mid (line_of number id)
        → SoFar (n + 1) old new taken later
    so_far_next n number id old middle new taken mid later so_far relays keeps goes line =
        subst (λ k. SoFar k old new taken later) (let more : suc n ≡ n + 1 = omega arith in more)
        (so_far_more n number id old middle new taken mid later so_far relays keeps goes line)

    pub ends_done : (n count : ℕ) (old new : Moment D C N) (taken later : Option (List ℕ)) → SoFar n old new taken later → n ≡ count → RelaysAll M T R mode count old new taken later Done
    ends_done n count old new taken later so_far all = record {
      n = n;
      few = omega (arith, all);
      middle = new;
      text = so_far.text;
      many = so_far.many;
      ends = inl (inl (all, refl, refl), so_far.sent);
    }

    pub ends_unwritten : (n count number : ℕ) (id : List ℕ) (old middle new : Moment D C N) (taken mid later : Option (List ℕ)) → n < count → SoFar n old middle taken mid
        → Relays M T R mode middle new (Relayed number id) → TakesFront (line_of number id) mid later → RelaysAll M T R mode count old new taken later WriteFault
    ends_unwritten n count number id old middle new taken mid later within so_far relays front = record {
      n = suc n;
      few = omega (arith, within);
      middle = new;
      text = so_far.text ++ line_of number id;
      many = (middle, so_far.text, line_of number id, so_far.many, record { number = number; id = id; relays = relays; line_is = refl }, refl);
      ends = inr (refl, refl, takes_more so_far.text (line_of number id) taken mid later so_far.sent front);
    }

    pub ends_by : (n count : ℕ) (old middle new : Moment D C N) (taken later : Option (List ℕ)) (last : RelayEnd) (end : RelayerEnd) → n < count → SoFar n old middle taken later
        → Relays M T R mode middle new last → ((number : ℕ) (id : List ℕ) → last ≢ Relayed number id) → end ≡ end_of last → RelaysAll M T R mode count old new taken later end
    ends_by n count old middle new taken later last end within so_far relays other is = record {
      n = n;
      few = omega (arith, within);
      middle = middle;
      text = so_far.text;
      many = so_far.many;
      ends = inl (inr (last, relays, other, is), so_far.sent);
    }

-- a relaying that relayed nothing never ends by a fault of the output
pub never_unwritten : (last : RelayEnd) → end_of last ≡ WriteFault → ⊥
never_unwritten (Relayed number id) is = absurd cc
never_unwritten Nothing is = absurd cc
never_unwritten Gone is = absurd cc
never_unwritten NoMode is = absurd cc
never_unwritten OutboxFull is = absurd cc
never_unwritten TooLarge is = absurd cc
never_unwritten (Full size need) is = absurd cc
never_unwritten (DiskFault before after) is = absurd cc
never_unwritten (Stopped before after) is = absurd cc
never_unwritten Worn is = absurd cc
never_unwritten NoMemory is = absurd cc

pub on_ok_of : {A E : Type 0} (r : Result A E) (P : Type 0) → is_err r ≡ false → OnOk r P → P
on_ok_of (Ok x) P none p = p
on_ok_of (Err e) P none p = absurd cc
