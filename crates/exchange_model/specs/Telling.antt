-- What the replies to producers and consumers say is true.
use Rattle.std.specs.Prelude.{◌≡◌, ℕ, ◌<◌, ◌≤◌, List, Some, length, slice_get}
use Rattle.exchange_model.specs.End.{End}
use Rattle.exchange_model.specs.Questions.{sent_of}
use Rattle.exchange_model.specs.declared.inbox_entry.InboxEntry.{InboxEntry}
use Rattle.exchange_model.specs.declared.reply.Reply.{Reply}
use Rattle.exchange_model.specs.declared.reply.Reply.TheVariants as reply
use Rattle.as4_effects.specs.declared.mark.Mark.{Mark}
use Rattle.as4_effects.specs.declared.mark.Mark.TheVariants as mark
use Rattle.exchange_model.specs.declared.sent.Sent.{Sent}
use Rattle.exchange_model.specs.declared.what.What.{What}
use Rattle.exchange_model.specs.declared.what.What.TheVariants as what

-- the reply for a submission with this mark
abbrev pub TellsOf : Sent → Mark → Reply → Type 0
TellsOf s mark.Pending told = told ≡ reply.Pending s.tries
TellsOf s mark.Receipted told = told ≡ reply.Receipted
TellsOf s mark.Failed told = told ≡ reply.Failed
TellsOf s (mark.Refused code) told = told ≡ reply.RefusedWith code

-- a query at an endpoint, and its reply
pub record Tells (end : End) (asked : What) (told : Reply) : Type 0 where
  -- an entry that isn't confirmed is read unchanged, and a confirmed or missing one isn't read
  pub entry : (n : ℕ) (e : InboxEntry) → asked ≡ what.Read n → slice_get end.inbox n ≡ Some e → end.confirmed ≤ n
      → told ≡ reply.Entry e.header e.payloads
  pub gone : (n : ℕ) → asked ≡ what.Read n → n < end.confirmed → told ≡ reply.Gone
  pub none : (n : ℕ) → asked ≡ what.Read n → end.confirmed ≤ n → length end.inbox ≤ n → told ≡ reply.NoEntry
  -- the state of a submission
  pub stands : (id : List ℕ) (s : Sent) → asked ≡ what.Status id → sent_of id end.sent ≡ Some s → TellsOf s s.mark told
  pub receipted : (id : List ℕ) → asked ≡ what.Status id → told ≡ reply.Receipted
      → (s : Sent) × (sent_of id end.sent ≡ Some s) × (s.mark ≡ mark.Receipted)
