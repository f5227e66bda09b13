-- What the adapters keep: the last answer of a clock and of nonces, and the counts of faults.
use Rattle.std.specs.Prelude.{ℕ, ◌≤◌, length}
use Rattle.as4_host.specs.declared.host.FileGot.{FileGot}
use Rattle.as4_host.specs.declared.host.FileGot.TheVariants.{Bytes, Missing, TooLong, Failed, NoMemory}
use Rattle.host_adapters.specs.declared.clock.SystemClock.{SystemClock}
use Rattle.host_adapters.specs.declared.nonces.SystemNonces.{SystemNonces}
use Rattle.host_adapters.specs.declared.counts.HostCounts.{HostCounts}
use Rattle.host_adapters.specs.declared.link.TcpLink.{TcpLink}
use Rattle.host_adapters.specs.declared.door.TcpDoor.{TcpDoor}
use Rattle.host_adapters.specs.declared.host.SystemHost.{SystemHost}

abbrev pub clock_last : {R : Type 0} → SystemClock R → ℕ
clock_last clock = clock.last

abbrev pub nonces_last : {R : Type 0} → SystemNonces R → ℕ
nonces_last nonces = nonces.last

abbrev pub no_faults : HostCounts
no_faults = record { faults = 0; reads = 0; writes = 0 }

abbrev pub link_counts : {R L : Type 0} → TcpLink R L → HostCounts
link_counts link = link.counts

abbrev pub door_counts : {R : Type 0} → TcpDoor R → HostCounts
door_counts door = door.counts

abbrev pub host_counts : {R D : Type 0} → SystemHost R D → HostCounts
host_counts host = host.counts

-- the bytes that a read gives are within the limit
abbrev pub IsWithin : ℕ → FileGot → Type 0
IsWithin limit (Bytes bytes) = length bytes ≤ limit
IsWithin limit Missing = Unit {0}
IsWithin limit TooLong = Unit {0}
IsWithin limit Failed = Unit {0}
IsWithin limit NoMemory = Unit {0}
