use Rattle.std.proofs.Common.{◌≡◌, ◌+◌, ◌++◌, ◌∷◌, [], List, length, length-append, map, ap, refl, ◌∙◌, sym, subst, arith}
use Rattle.as4_values.specs.declared.payload.Payload.{Payload}
use Rattle.exchange_model.specs.Apply.{emptied}
use Rattle.exchange_model.specs.declared.inbox_entry.InboxEntry.{InboxEntry}
use Rattle.inbox.specs.Deliveries.{Deliveries}
use Rattle.inbox.specs.Entries.{brought, entry_of}
use Rattle.inbox.proofs.EmptiedLemmas.{entries_keep, seen_emptied, seen_length}
use Rattle.inbox.proofs.HoldingLemmas.{no_room}
use Rattle.inbox.proofs.inbox.Inbox.keep.Goals as goal

pub invariant_of-self : goal.invariant_of-self
invariant_of-self c =
    let seen = ap (λ (d : Deliveries). d.entries) c.self-2.view_is ∙ c.push.ensures.entries in
    let confirmed : c.self-2.inside.confirmed ≡ c.args.self.now.confirmed =
    ap (λ (d : Deliveries). d.confirmed) c.self-2.view_is ∙ c.push.ensures.confirmed in
    let room = ap (λ (d : Deliveries). d.room) c.self-2.view_is ∙ c.push.ensures.room in
    let long : length c.self-2.inside.entries.items ≡ length c.args.self.now.entries + 1 =
    sym (seen_length c.self-2.inside.confirmed c.self-2.inside.entries.items) ∙ ap length seen ∙ length-append c.args.self.now.entries _ in (
      omega (arith, c.requires.all),
      λ some. absurd (no_room c.self-2.inside.identifiers.room room some),
      c.self-2.invariant.2,
    )

pub returns-clause-entries : goal.returns-clause-entries
returns-clause-entries c =
    let old : Deliveries = c.args.self.now in
    let kept : emptied old.confirmed old.entries ≡ old.entries =
    subst (λ (d : Deliveries). emptied d.confirmed d.entries ≡ d.entries) c.self.view_is (seen_emptied c.self.inside.confirmed c.self.inside.entries.items) in
    let confirmed : c.self-2.inside.confirmed ≡ old.confirmed =
    ap (λ (d : Deliveries). d.confirmed) c.self-2.view_is ∙ c.push.ensures.confirmed in
    let entry : InboxEntry = record { header = c.args.header; payloads = [] } in
    let seen : emptied c.self-2.inside.confirmed (map entry_of c.self-2.inside.entries.items) ≡ old.entries ++ entry ∷ [] =
    ap (λ (d : Deliveries). d.entries) c.self-2.view_is
    ∙ c.push.ensures.entries
    ∙ ap (λ (noted : List (List Payload)). old.entries ++ record { header = c.args.header; payloads = brought noted } ∷ []) c.none.ensures in
    rw confirmed
    (entries_keep old.confirmed c.self-2.inside.entries.items old.entries entry c.requires.all refl kept
    (subst (λ n. emptied n (map entry_of c.self-2.inside.entries.items) ≡ old.entries ++ entry ∷ []) confirmed seen))
