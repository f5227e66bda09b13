use Rattle.std.proofs.Common.{◌≤◌, ℕ, inl, inr, List}
use Rattle.exchange_model.specs.Alone.{end_after}
use Rattle.exchange_model.specs.End.{End, empty_end}
use Rattle.exchange_model.specs.World.{Act, acts_of}
use Rattle.exchange_model.specs.declared.inbox_entry.InboxEntry.{InboxEntry}
use Rattle.exchange_model.proofs.NumberedLemmas.{none_numbered}
use Rattle.exchange_laws.proofs.ListLemmas.{contains_had}
use Rattle.stranger_laws.specs.Brought.{WasBrought}
use Rattle.stranger_laws.proofs.BroughtLemmas.{ComesFrom, brought_all}
use Rattle.stranger_laws.proofs.laws.what_came_was_brought.Goals as goal

brought : (acts : List Act) (end : End) (n : ℕ) (entry : InboxEntry) → ComesFrom acts empty_end end n entry
    → WasBrought acts entry (end.confirmed ≤ n)
brought acts end n entry (inl stood) = absurd (let no = stood.there in cc)
brought acts end n entry (inr b) = record {
  act = b.act;
  done = contains_had acts b.act b.done;
  payloads = b.payloads;
  came = b.came;
  mode = b.mode;
  same = b.same;
}

pub returns : goal.returns
returns c all may n entry at =
    brought (acts_of all) (end_after all empty_end) n entry (brought_all all empty_end none_numbered may n entry at)
