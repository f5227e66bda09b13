-- What a call leaves of an office, from what the office keeps inside.
use Rattle.std.proofs.Common.{◌≡◌, ℕ, ◌+◌, ◌<◌, ◌≤◌, ◌^◌, List, [], ◌∷◌, ◌++◌, Option, Some, None, is_some, length, refl, sym, ap, ◌∙◌, subst, arith}
use mathlib.Core.List.{IsPrefix}
use Rattle.as4_disk.specs.declared.disk.Disk.{Ghosts as DiskMeaning}
use Rattle.mode_values.specs.declared.mode.Mode.{Mode}
use Rattle.inbox.specs.Spots.{Spot}
use Rattle.msh_state.specs.Rooms.{Rooms}
use Rattle.exchange_model.specs.End.{End}
use Rattle.journal.specs.declared.journal.Journal.{Journal}
use Rattle.office.specs.Calls.{LeadsWhere}
use Rattle.office.specs.State.{IsInOrder, OfficeState}
use Rattle.office.specs.Steps.{Enters, FindsItWorn, Keeps}
use Rattle.office.specs.declared.call.Call.{Call}
use Rattle.as4_disk.specs.declared.fault_counts.FaultCounts.{FaultCounts}
use Rattle.office.proofs.StateLemmas.{order_keeps}
use Rattle.pass_book.specs.States.{Book, PassState}

pub not_both : {X : Type 0} (o : Option X) (x : X) → o ≡ Some x → o ≡ None → ⊥
not_both o x some none = cc

-- an office by its parts
abbrev pub office : {D : Type 0} → Journal D → End → List Spot → List Mode → Rooms → Book → List Call → OfficeState D
office journal end places modes rooms book list = record { disk = journal.disk; end = end; places = places; modes = modes; rooms = rooms; book = book; list = list }

pub keeps : {D : Type 0} {M : DiskMeaning D} {old : OfficeState D} {after : Journal D} {next : End} {places : List Spot} {later : List Mode} {others : Rooms} {books : Book} {halt : Option FaultCounts} {more shown : List Call} {share : ℕ} {pass passed : PassState Call}
    → IsInOrder M after next places later halt more → later ≡ old.modes → books ≡ old.book → passed ≡ record pass { list = shown; share = share }
    → ((start : End) → LeadsWhere (is_some (M.seen old.disk)) old.modes start old.list old.end → LeadsWhere (is_some (M.seen old.disk)) old.modes start more next) → is_some (M.seen after.disk) ≡ is_some (M.seen old.disk) → (halt ≡ None → M.fault_count after.disk ≡ M.fault_count old.disk) → M.fault_count old.disk ≤ M.fault_count after.disk
    → Keeps M old (office after next places later others books more) pass passed
keeps order modes_same book_same passes legal tells calm counted = record {
  modes = modes_same;
  book = book_same;
  pass_book = ap (λ (p : PassState Call). p.book) passes;
  stake = ap (λ (p : PassState Call). p.stake) passes;
  legal = legal;
  safe = order_keeps order;
  left = order.left;
  tells = tells;
  calm = λ none. calm (order.halted ∙ none);
  counted = counted;
}

pub finds_worn : {D : Type 0} {old : OfficeState D} {pass passed : PassState Call} → length old.list ≡ 2 ^ 63 → IsPrefix pass.list old.list → passed ≡ record pass { list = old.list } → FindsItWorn old old pass passed
finds_worn full seen_by whole = record { full = full; seen = seen_by; list = refl; end = refl; disk = refl; pass = whole }

pub enters : {D : Type 0} {old new : OfficeState D} {pass passed : PassState Call} (call : Call) → length old.list < 2 ^ 63 → IsPrefix pass.list old.list → new.list ≡ old.list ++ call ∷ []
    → passed ≡ record pass { list = new.list; share = pass.share + 1 } → Enters old new pass passed call
enters call room seen_by is passes = record {
  room = room;
  seen = seen_by;
  list = is;
  whole = ap (λ (p : PassState Call). p.list) passes;
  share = ap (λ (p : PassState Call). p.share) passes;
}
