use Rattle.std.proofs.Common.{◌≡◌, List, Some, None, ap, sym, ◌∙◌}
use Rattle.std.proofs.lemmas.Option.{same_Some}
use Rattle.as4_effects.specs.declared.delivery.Delivery.{Delivery}
use Rattle.as4_values.specs.declared.payload.Payload.{Payload}
use Rattle.msh_journal.proofs.KeepingLemmas.{stays_with}
use Rattle.msh_journal.proofs.PayloadLemmas.{fetched_entry, record_of_entry}
use Rattle.msh_journal.proofs.fetch.fetch_payloads.Goals as goal

pub returns-in-Ok-None-clause-found : goal.returns-in-Ok-None-clause-found
returns-in-Ok-None-clause-found g c end places n len entry has waits there header place image told =
    let held = has.held image told in
    let here = record_of_entry c.args.journal.now.version held.0 end places n c.args.gate len entry held.2 waits place there in
    let found : c.in-Ok-None.field-0 ≡ Some here.brings.delivery =
    fetched_entry g.D.Disk c.args.journal.now c.args.header.now.id c.args.gate c.in-Ok-None.field-0 c.in-Ok-None.ensures.found held.0 held.1 entry (ap (λ h. h.id) (sym header)) here in
    let none : c.in-Ok-None.field-0 ≡ None = c.in-Ok-None.field-0-is in
    absurd cc

pub returns-clause-found : goal.returns-clause-found
returns-clause-found g c end places n len entry has waits there header place image told =
    let held = has.held image told in
    let here = record_of_entry c.args.journal.now.version held.0 end places n c.args.gate len entry held.2 waits place there in
    let found : c.in-Ok-Some.field-0 ≡ Some here.brings.delivery =
    fetched_entry g.D.Disk c.args.journal.now c.args.header.now.id c.args.gate c.in-Ok-Some.field-0 c.in-Ok-Some.ensures.found held.0 held.1 entry (ap (λ h. h.id) (sym header)) here in
    let same : c.in-Ok-Some.delivery ≡ here.brings.delivery = same_Some _ _ (sym c.in-Ok-Some.field-0-is ∙ found) in
    c.payloads_of.ensures.found (ap (λ (d : Delivery). d.header) same ∙ here.brings.header ∙ header)
    ∙ ap (λ (d : Delivery). Some d.payloads) same
    ∙ ap (λ (p : List Payload). Some p) here.brings.payloads

pub returns-clause-held : goal.returns-clause-held
returns-clause-held g c end places has = stays_with g.D.Disk c.args.journal.now c.fetch_delivery.new.journal c.fetch_delivery.ensures.stays end places has
