-- The relaying of several messages, one after another.
use Rattle.std.specs.Prelude.{◌≡◌, ◌≢◌, ◌⊎◌, ◌≤◌, ℕ, zero, suc, List, [], ◌++◌, Option, codes, is_some}
use Rattle.std.specs.Fmt.{decimal}
use Rattle.as4_disk.specs.declared.disk.Disk.{Ghosts as DiskMeaning}
use Rattle.as4_flow.specs.Flow.{Rose, TakesFront, appended}
use Rattle.as4_flow.specs.declared.clock.Clock.{Ghosts as ClockMeaning}
use Rattle.as4_flow.specs.declared.nonces.Nonces.{Ghosts as NoncesMeaning}
use Rattle.as4_hub.specs.Relaying.{RelaysOnwards}
use Rattle.as4_hub.specs.declared.ended.RelayEnd.{RelayEnd}
use Rattle.as4_hub.specs.declared.ended.RelayEnd.TheVariants.{Relayed}
use Rattle.exchange_model.specs.End.{End}
use Rattle.office.specs.Calls.{LeadsWhere}
use Rattle.office.specs.State.{OfficeState}
use Rattle.office.specs.declared.call.Call.{Call}
use Rattle.pass_book.specs.States.{PassState}
use Rattle.sessions.specs.Sessions.{DrawsBoth}
use Rattle.relayer.specs.Ends.{end_of}
use Rattle.relayer.specs.declared.ending.RelayerEnd.{RelayerEnd}
use Rattle.relayer.specs.declared.ending.RelayerEnd.TheVariants.{Done, WriteFault}

-- the line of a message that was relayed
unfoldable pub line_of : ℕ → List ℕ → List ℕ
line_of number id = codes "relayed " ++ decimal number ++ codes " " ++ id ++ codes "\n"

-- the output has failed exactly where the relaying ended so
pub record TellsFaults (end : RelayerEnd) (faults later : ℕ) : Type 0 where
  pub rose : end ≡ WriteFault → Rose faults later
  pub stays : end ≢ WriteFault → later ≡ faults

-- an office, a caller's pass, a clock and a source of nonces at one moment
pub record Moment (D C N : Type 0) : Type 0 where
  pub office : OfficeState D
  pub pass : PassState Call
  pub clock : C
  pub nonces : N

abbrev pub moment : {D C N : Type 0} → OfficeState D → PassState Call → C → N → Moment D C N
moment office pass clock nonces = record { office = office; pass = pass; clock = clock; nonces = nonces }

-- what relaying keeps: the modes, the opening, and that the calls lead to the endpoint
pub record KeepsAll {D C N : Type 0} (M : DiskMeaning D) (old new : Moment D C N) : Type 0 where
  pub modes : new.office.modes ≡ old.office.modes
  pub book : new.office.book ≡ old.office.book
  pub pass_book : new.pass.book ≡ old.pass.book
  pub tells : is_some (M.seen new.office.disk) ≡ is_some (M.seen old.office.disk)
  pub legal : (start : End) → LeadsWhere (is_some (M.seen old.office.disk)) old.office.modes start old.office.list old.office.end
      → LeadsWhere (is_some (M.seen old.office.disk)) old.office.modes start new.office.list new.office.end

module _ {D C N : Type 0} (M : DiskMeaning D) (T : ClockMeaning C) (R : NoncesMeaning N) (mode : List ℕ) where
  -- one relaying ended so: its moment and its nonce are the next ones of the clock and of the source of nonces
  pub record Relays (old new : Moment D C N) (end : RelayEnd) : Type 0 where
    pub stamp : ℕ
    pub nonce : ℕ
    pub drawn : DrawsBoth T R old.clock new.clock old.nonces new.nonces stamp nonce
    pub relays : RelaysOnwards M old.office new.office old.pass new.pass mode stamp nonce end

  -- one message was relayed, and this is its line
  pub record RelaysOne (old new : Moment D C N) (line : List ℕ) : Type 0 where
    pub number : ℕ
    pub id : List ℕ
    pub relays : Relays old new (Relayed number id)
    pub line_is : line ≡ line_of number id

  -- this number of messages, and these are their lines
  abbrev pub RelaysMany : ℕ → Moment D C N → Moment D C N → List ℕ → Type 0
  RelaysMany zero old new text = (new ≡ old) × (text ≡ [])
  RelaysMany (suc n) old new text =
      (middle : Moment D C N) × (before : List ℕ) × (line : List ℕ)
      × RelaysMany n old middle before × RelaysOne middle new line × (text ≡ before ++ line)

  -- no more is relayed: as many were as may be, or one more relaying relayed nothing
  abbrev pub EndsAfter : ℕ → ℕ → Moment D C N → Moment D C N → RelayerEnd → Type 0
  EndsAfter count n old new end =
      ((n ≡ count) × (new ≡ old) × (end ≡ Done))
      ⊎ ((last : RelayEnd) × Relays old new last × ((number : ℕ) (id : List ℕ) → last ≢ Relayed number id) × (end ≡ end_of last))

  -- at most `count` messages were relayed, and their lines written; or the output failed
  pub record RelaysAll (count : ℕ) (old new : Moment D C N) (taken later : Option (List ℕ)) (end : RelayerEnd) : Type 0 where
    pub n : ℕ
    pub few : n ≤ count
    pub middle : Moment D C N
    pub text : List ℕ
    pub many : RelaysMany n old middle text
    pub ends :
        (EndsAfter count n middle new end × (later ≡ appended taken text))
        ⊎ ((end ≡ WriteFault) × (new ≡ middle) × TakesFront text taken later)
