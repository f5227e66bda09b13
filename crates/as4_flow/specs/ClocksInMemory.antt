-- A clock and nonces in memory: their last answer, and those to come.
use Rattle.std.specs.Prelude.{ℕ, zero, suc, ◌+◌, ◌%◌, ◌^◌, List, [], ◌∷◌, min}
use Rattle.as4_flow.specs.Draws.{last_moment}

-- a clock in memory
pub record ClockState : Type 0 where
  -- the moments to come, of which the last comes again and again
  pub moments : List ℕ
  pub last : ℕ

-- nonces in memory
pub record NoncesState : Type 0 where
  -- the number to come
  pub next : ℕ
  pub last : ℕ

abbrev pub new_clock : List ℕ → ClockState
new_clock moments = record { moments = moments; last = 0 }

abbrev pub new_nonces : ℕ → NoncesState
new_nonces first = record { next = first; last = 0 }

-- moment k of a list whose last one repeats, up to the last moment there is; 0 where there is none
abbrev pub moment_at : List ℕ → ℕ → ℕ
moment_at [] k = 0
moment_at (moment ∷ []) k = min moment last_moment
moment_at (moment ∷ next ∷ moments) zero = min moment last_moment
moment_at (moment ∷ next ∷ moments) (suc k) = moment_at (next ∷ moments) k

-- the moments after the first, of which the last stays
abbrev pub moments_after : List ℕ → List ℕ
moments_after [] = []
moments_after (moment ∷ []) = moment ∷ []
moments_after (moment ∷ next ∷ moments) = next ∷ moments

-- number k from this one upwards, in 128 bits
abbrev pub nonce_at : ℕ → ℕ → ℕ
nonce_at next k = (next + k) % (2 ^ 128)

-- a clock after it gave a moment
abbrev pub after_now : ClockState → ClockState
after_now clock = record { moments = moments_after clock.moments; last = moment_at clock.moments 0 }

-- nonces after they gave one
abbrev pub after_next : NoncesState → NoncesState
after_next nonces = record { next = nonce_at nonces.next 1; last = nonces.next }
