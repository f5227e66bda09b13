-- A leaf that is no journal of an end.
use Rattle.std.specs.Prelude.{◌≡◌, ◌≢◌, ◌⊎◌, ℕ, ◌<◌, List, [], ◌∷◌, ◌++◌, length, take}
use Rattle.msh_recovery.specs.Records.{RecordLeads, RecordsLead}
use Rattle.exchange_model.specs.End.{End, empty_end}
use Rattle.journal.specs.Leaf.{IsCutShort, front_of, limit_of, magic_of}
use Rattle.journal.specs.declared.version.Version.{Version}

-- The leaf's first records lead to an end. The next one, whose gate is at this place, leads on to none: its body isn't
-- that of effects, or they don't fit there.
pub record IsUnfit (at : ℕ) (leaf : List ℕ) : Type 0 where
  pub version : Version
  pub bodies : List (List ℕ)
  pub body : List ℕ
  pub behind : List ℕ
  pub bytes : leaf ≡ front_of version (bodies ++ body ∷ []) ++ behind
  pub within : length (front_of version (bodies ++ body ∷ [])) < limit_of version
  pub place : at ≡ length (front_of version bodies)
  pub end : End
  pub leads : RecordsLead bodies empty_end end
  pub none : (next : End) → RecordLeads body end next → ⊥

-- The leaf's first records lead to an end. The next one, whose gate is at this place, is cut short.
pub record IsCutOff (at : ℕ) (leaf : List ℕ) : Type 0 where
  pub version : Version
  pub bodies : List (List ℕ)
  pub rest : List ℕ
  pub cut : IsCutShort version bodies rest leaf
  pub place : at ≡ length (front_of version bodies)
  pub end : End
  pub leads : RecordsLead bodies empty_end end

-- The leaf is no journal of an end, and this is where: at 0 where neither magic stands there, else at the gate of the
-- first record that is cut short or leads to no end.
abbrev pub IsNoJournal : ℕ → List ℕ → Type 0
IsNoJournal at leaf = (9 < length leaf)
    × (((at ≡ 0) × ((version : Version) → take 8 leaf ≢ magic_of version)) ⊎ (IsCutOff at leaf ⊎ IsUnfit at leaf))
