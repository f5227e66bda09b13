-- An office over a disk in memory that is to stop: what the disk holds is as it was.
use Rattle.std.proofs.Common.{ℕ, List, [], Option, Some}
use Rattle.as4_disk.specs.Memory.{DiskState}
use Rattle.as4_disk.specs.MemoryMeaning.{memory_meaning}
use Rattle.as4_disk.specs.declared.fault_counts.FaultCounts.{FaultCounts}
use Rattle.mode_values.specs.declared.mode.Mode.{Mode}
use Rattle.inbox.specs.Spots.{Spot}
use Rattle.msh_journal.specs.Payloads.{IsJournalWith}
use Rattle.exchange_model.specs.End.{End}
use Rattle.journal.specs.State.{HasRecords}
use Rattle.journal.specs.declared.journal.Journal.{Journal}
use Rattle.office.specs.State.{IsInOrder}
use Rattle.office.specs.declared.call.Call.{Call}

module _ (journal : Journal DiskState) (call : ℕ) where
  abbrev pub to_stop : Journal DiskState
  to_stop = record journal { disk = record journal.disk { failing = []; stop = Some call } }

  records_stay : (bodies : List (List ℕ)) → HasRecords memory_meaning journal bodies → HasRecords memory_meaning to_stop bodies
  records_stay bodies has =
      let settled = has.settled in
      record {
        rest = has.rest;
        settled = record {
          image = settled.image;
          told = settled.told;
          picked = settled.picked;
          bytes = settled.bytes;
          selector_only = settled.selector_only;
          leaf_only = settled.leaf_only;
        };
        place = has.place;
        within = has.within;
        ahead = has.ahead;
      }

  kept : (end : End) (places : List Spot) → IsJournalWith memory_meaning end places journal → IsJournalWith memory_meaning end places to_stop
  kept end places with_places =
      let own = with_places.is in
      record {
        is = record {
          version = own.version;
          no_fold = own.no_fold;
          size = own.size;
          records = λ image told. let found = own.records image told in (found.0, records_stay found.0 found.1, found.2);
        };
        held = λ image told. let found = with_places.held image told in (found.0, records_stay found.0 found.1, found.2);
      }

  pub order_to_stop : (end : End) (places : List Spot) (modes : List Mode) (halt : Option FaultCounts) (list : List Call) → IsInOrder memory_meaning journal end places modes halt list
      → IsInOrder memory_meaning to_stop end places modes halt list
  order_to_stop end places modes halt list order = record {
    halted = order.halted;
    kept = λ none. kept end places (order.kept none);
    left = order.left;
    counted = order.counted;
  }
