-- What becomes of one request of a connection, by how the connection goes on.
use Rattle.std.specs.Prelude.{◌≡◌, ℕ, Bool, true, false, List, []}
use Rattle.as4_disk.specs.declared.disk.Disk.{Ghosts as DiskMeaning}
use Rattle.as4_doors.specs.declared.door.DoorKind.{DoorKind}
use Rattle.as4_flow.specs.declared.clock.Clock.{Ghosts as ClockMeaning}
use Rattle.as4_flow.specs.declared.nonces.Nonces.{Ghosts as NoncesMeaning}
use Rattle.as4_flow.specs.Flow.{Streams, Told}
use Rattle.as4_http.specs.declared.refusal.HttpRefusal.{HttpRefusal}
use Rattle.sessions.specs.Sessions.{Writes, ended_unread, text_unread}
use Rattle.sessions.specs.declared.ended.Ended.{Ended}
use Rattle.sessions.specs.declared.naming.Opening.{Ghosts as OpeningMeaning}
use Rattle.as4_keep.specs.Connections.{Breaks, Moment, ServesRequest, ahead, is_full}
use Rattle.as4_keep.specs.declared.next.Next.{Next}
use Rattle.as4_keep.specs.declared.next.Next.TheVariants as next

-- how a connection goes on after a request with this end, where these bytes were read past it
abbrev pub FollowsEnd : Ended → Bool → List ℕ → Next → Type 0
FollowsEnd end goes_on held (next.GoesOn intake) = (is_full end ≡ true) × (goes_on ≡ true) × (intake ≡ held)
FollowsEnd end goes_on held next.Closes = (is_full end ≡ true) × (goes_on ≡ false)
FollowsEnd end goes_on held next.Ended = ⊥
FollowsEnd end goes_on held (next.Breaks by) = (is_full end ≡ false) × (by ≡ end)

-- no further request was read, for this reason
abbrev pub BreaksUnread : HttpRefusal → Streams → Next → Type 0
BreaksUnread refusal streams (next.Breaks end) = Writes (ended_unread refusal) (text_unread refusal) end streams
BreaksUnread refusal streams other = ⊥

module _ {D J C N : Type 0} (M : DiskMeaning D) (O : OpeningMeaning J) (T : ClockMeaning C) (R : NoncesMeaning N) (door : DoorKind) where
  -- what became of the next request
  abbrev pub MeetsRequest : Bool → Moment C N → Moment C N → Next → Type 0
  MeetsRequest is_last old new (next.GoesOn held) = ServesRequest M O T R door is_last old (ahead held new) true
  MeetsRequest is_last old new next.Closes =
      (held : List ℕ) × ServesRequest M O T R door is_last old (ahead held new) false
  MeetsRequest is_last old new next.Ended = (new ≡ old) × Told old.flow.left (λ bytes. bytes ≡ [])
  MeetsRequest is_last old new (next.Breaks end) = Breaks M O T R door is_last old new end
