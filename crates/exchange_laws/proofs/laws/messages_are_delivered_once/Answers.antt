use Rattle.std.proofs.Common.{◌≡◌, ◌≤◌, List, Some, ap, ◌∙◌}
use Rattle.exchange_model.specs.DeliveredOnce.{CameFrom, DeliversOnce}
use Rattle.exchange_model.specs.Questions.{sent_of}
use Rattle.exchange_model.specs.World.{Act, Speaker, Left, Right, acts_at, new_world, world_after}
use Rattle.exchange_model.specs.declared.inbox_entry.InboxEntry.{InboxEntry}
use Rattle.exchange_model.specs.declared.sent.Sent.{Sent}
use Rattle.exchange_model.proofs.ListLemmas.{Has}
use Rattle.exchange_laws.proofs.ListLemmas.{has_contained}
use Rattle.exchange_laws.proofs.SentLemmas.{sent_of_own}
use Rattle.exchange_laws.proofs.InboxLemmas.{ids, all_apart, count_one}
use Rattle.exchange_laws.proofs.Accounts.{AreCounted}
use Rattle.exchange_laws.proofs.TimesLemmas.{ids_apart}
use Rattle.exchange_laws.proofs.SiteLemmas.{counted_at}
use Rattle.exchange_laws.proofs.WorldLemmas.{SpeakerHolds, Holds, world_holds, new_world_holds}
use Rattle.exchange_laws.proofs.laws.messages_are_delivered_once.Goals as goal

delivers_once : (acts : List Act) (sender receiver : Speaker) → AreCounted acts sender.end → SpeakerHolds sender → SpeakerHolds receiver
    → Holds sender.end receiver.end → DeliversOnce acts sender.end receiver.end
delivers_once acts sender receiver counted sends receives h = record {
  told_apart = all_apart _ (ids_apart 0 sender.end.sent counted.numbered);
  at_most_once = all_apart (ids receiver.end.inbox) receives.apart;
  submitted = λ n entry at. found entry (receiver.end.confirmed ≤ n) (h.submitted n entry at);
  exactly_once = λ s there m. count_one s.submission.header.id receiver.end.inbox receives.apart (h.receipted s (has_contained sender.end.sent s there) m);
  given_up = λ s there m. let h = has_contained sender.end.sent s there in counted.tries s h ∙ (counted.kept s h).all m;
}
  where
    found : (entry : InboxEntry) (kept : Type 0) → (s : Sent) × Has sender.end.sent s × CameFrom s entry kept
        → (s : Sent) × (sent_of entry.header.id sender.end.sent ≡ Some s) × CameFrom s entry kept
    found entry kept s =
        (s.0, ap (λ h. sent_of h.id sender.end.sent) s.2.header ∙ sent_of_own sender.end.sent s.0 sends.numbered s.1, s.2)

pub returns : goal.returns
returns c acts may =
    let h = world_holds acts new_world new_world_holds may in
    let world = world_after acts new_world in
    record {
      to_right = delivers_once (acts_at Left acts) world.left world.right (counted_at Left acts may) h.left h.right h.to_right;
      to_left = delivers_once (acts_at Right acts) world.right world.left (counted_at Right acts may) h.right h.left h.to_left;
    }
