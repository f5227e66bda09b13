-- What is read of a journal, and what it leads to.
use Rattle.std.specs.Prelude.{◌≡◌, ℕ, ◌+◌, ◌<◌, List, [], ◌∷◌, ◌++◌, None, length}
use Rattle.as4_disk.specs.declared.disk.Disk.{Ghosts as DiskMeaning}
use Rattle.as4_effects.specs.declared.effect.Effect.{Effect}
use Rattle.as4_flow.specs.Flow.{Told}
use Rattle.exchange_model.specs.Apply.{applied, first_unfit}
use Rattle.exchange_model.specs.End.{End, empty_end}
use Rattle.inbox.specs.Spots.{Spot}
use Rattle.journal.specs.Leaf.{Lists, front_of, limit_of, width_of}
use Rattle.journal.specs.State.{HasRead, HasRecords}
use Rattle.journal.specs.Store.{picked_leaf}
use Rattle.journal.specs.declared.journal.Journal.{Journal}
use Rattle.msh_journal.specs.Payloads.{HoldsPayloads}
use Rattle.msh_recovery.specs.Records.{IsBodyOf, RecordsLead}
use Rattle.msh_state.specs.Places.{places_after_all}

-- the effects of the record with this body and gate fit one endpoint, and lead from it and its places to the other
pub record RecordBrings (body : List ℕ) (gate : ℕ) (start : End) (before : List Spot) (end : End) (after : List Spot) : Type 0 where
  pub effects : List Effect
  pub is : IsBodyOf effects body
  pub fit : first_unfit effects start ≡ None
  pub end_is : end ≡ applied effects start
  pub places_are : after ≡ places_after_all effects gate before

module _ {D : Type 0} (M : DiskMeaning D) where
  -- one record was read, and its effects led on
  pub record ReadsOn (old new : Journal D) (start : End) (before : List Spot) (end : End) (after : List Spot) : Type 0 where
    pub body : List ℕ
    pub brings : RecordBrings body old.gate start before end after
    pub version : new.version ≡ old.version
    pub fold : new.fold ≡ old.fold
    pub gate : new.gate ≡ old.gate + (1 + width_of old.version + length body)
    pub within : new.gate < limit_of old.version
    pub told : M.seen new.disk ≡ M.seen old.disk
    pub read : (bodies : List (List ℕ)) → HasRead M old bodies → HasRead M new (bodies ++ body ∷ [])

  -- the closed gate was met
  pub record EndsReading (old new : Journal D) : Type 0 where
    pub version : new.version ≡ old.version
    pub fold : new.fold ≡ old.fold
    pub gate : new.gate ≡ old.gate
    pub records : (bodies : List (List ℕ)) → HasRead M old bodies → HasRecords M new bodies
    pub all : (bodies : List (List ℕ)) → HasRead M old bodies → Told (M.seen old.disk) (λ b. Lists bodies (picked_leaf b))

  -- of a journal of which none had been read these records were read, and their effects led to this endpoint and its places
  pub record HasReplayed (first now : Journal D) (end : End) (places : List Spot) (bodies : List (List ℕ)) : Type 0 where
    pub leads : RecordsLead bodies empty_end end
    pub held : HoldsPayloads now.version bodies end places
    pub version : now.version ≡ first.version
    pub fold : now.fold ≡ first.fold
    pub place : now.gate ≡ length (front_of now.version bodies)
    pub within : now.gate < limit_of now.version
    pub told : M.seen now.disk ≡ M.seen first.disk
    pub read : HasRead M first [] → HasRead M now bodies

  -- and these were all
  pub record HasReplayedAll (first now : Journal D) (end : End) (places : List Spot) (bodies : List (List ℕ)) : Type 0 where
    pub leads : RecordsLead bodies empty_end end
    pub held : HoldsPayloads now.version bodies end places
    pub version : now.version ≡ first.version
    pub fold : now.fold ≡ first.fold
    pub place : now.gate ≡ length (front_of now.version bodies)
    pub within : now.gate < limit_of now.version
    pub records : HasRead M first [] → HasRecords M now bodies
    pub all : HasRead M first [] → Told (M.seen first.disk) (λ b. Lists bodies (picked_leaf b))
